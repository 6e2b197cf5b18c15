-- The counts are put together, the public call names the row, and it goes to the outs.
use mir.Syntax.{w32}
use Rattle.signed.proofs.SignedLaws.{back}
use Rattle.segment_id.specs.declared.Kind.TheVariants.{Box}
use Rattle.buffer_core.specs.Edition.{edition_of}
use Rattle.buffer_core.specs.Append.{counts_of}
use Rattle.ergo_index_lists.specs.Lists.{list_of}
use Rattle.ergo_index_lists.specs.Lists.{named_edition}
use Rattle.missing_outs.proofs.BoundLaws.{tally_reads_below, numbered}
use Rattle.ergo_index_missing.proofs.ergo_index_missing_for_tally.Goals as goal

pub told-requires : goal.told-requires
told-requires c =
    let a = c.args in
    let E = edition_of (named_edition a.second_edition) in
    numbered E Box _ _ a.spills c.ranges.spills (tally_reads_below E a.parent.now (counts_of a.len a.spills) (list_of a.staged_count a.staged_capacity) a.staged.now (list_of a.table_count a.table_capacity) a.table.now a.head.now) _ (rw (c.named_edition.ensures, back w32 a.spills c.ranges.spills) at c.missing_for_tally-missing.ensures)
