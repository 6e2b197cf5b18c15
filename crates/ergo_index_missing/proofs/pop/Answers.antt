-- The counts are put together, the public call names the row, and it goes to the outs.
use mir.Syntax.{w32}
use Rattle.signed.proofs.SignedLaws.{back}
use Rattle.buffer_core.specs.Edition.{edition_of}
use Rattle.buffer_core.specs.Append.{counts_of}
use Rattle.ergo_index_lists.specs.Lists.{list_of}
use Rattle.buffer_core.specs.Pop.{lists}
use Rattle.missing_outs.proofs.BoundLaws.{pop_reads_below, numbered}
use Rattle.ergo_index_missing.proofs.pop.Goals as goal

pub told-requires : goal.told-requires
told-requires c =
    let a = c.args in
    let E = edition_of a.edition in
    numbered E a.kind _ _ a.spills c.ranges.spills (pop_reads_below E (counts_of a.len a.spills) (lists (list_of a.staged_count a.staged_capacity) a.staged.now (list_of a.table_count a.table_capacity) a.table.now (list_of a.deleted_count a.deleted_capacity) a.deleted.now) a.head.now) _ (rw (back w32 a.spills c.ranges.spills) at c.missing_for_pop-missing.ensures)
