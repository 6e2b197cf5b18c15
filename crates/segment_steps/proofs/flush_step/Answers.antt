use Rattle.flush_core.proofs.KeepLaws.{flush_ready}
use Rattle.index_types.specs.declared.RowEdition.TheVariants.{One}
use Rattle.call_steps.specs.Steps.{lists_with}
use Rattle.call_steps.proofs.StepLaws.{flush_law}
use Rattle.segment_steps.proofs.flush_step.Reads as reads
use Rattle.segment_steps.proofs.flush_step.Lts as lts
use Rattle.call_steps.proofs.after_flush.Reads as after_flush_reads
use Rattle.flush_core.proofs.flush.Reads as flush_reads
use Rattle.segment_steps.proofs.flush_step.Goals as goal

pub flush-r-requires : goal.flush-r-requires
flush-r-requires c =
    let a = c.args in
    flush_ready One (lists_with a.counts a.staged.now a.table.now a.deleted.now) c.requires

pub returns : goal.returns
returns c =
    let a = c.args in
    flush_law a.counts a.table.now a.staged.now a.deleted.now _ _ _ _ _ c.requires c.flush-r.ensures c.after_flush.ensures
