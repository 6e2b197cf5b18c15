-- The counts are put together, the public call names the row, and it goes to the outs.
use mir.Syntax.{w32, w64}
use Rattle.signed.proofs.SignedLaws.{back}
use Rattle.segment_id.specs.declared.Kind.TheVariants.{Box}
use Rattle.buffer_core.specs.Edition.{edition_of}
use Rattle.buffer_core.specs.Append.{counts_of}
use Rattle.ergo_index_lists.specs.Lists.{list_of}
use Rattle.missing_outs.proofs.BoundLaws.{flip_reads_below, numbered}
use Rattle.ergo_index_missing.proofs.flip.Goals as goal

pub told-requires : goal.told-requires
told-requires c =
    let a = c.args in
    let E = edition_of a.edition in
    numbered E Box _ _ a.spills c.ranges.spills (flip_reads_below E a.parent.now (counts_of a.len a.spills) (list_of a.staged_count a.staged_capacity) a.staged.now (list_of a.table_count a.table_capacity) a.table.now a.head.now a.direction a.target) _ (rw (back w32 a.spills c.ranges.spills, back w64 a.target c.ranges.target) at c.missing_for_flip-missing.ensures)
