-- `missing_with_summary::seek_flip` meets its contract: where the head has no entry to take, the lines are walked over.
use Rattle.buffer_core.specs.Edition.{edition_of}
use Rattle.buffer_core.specs.Spills.{sources}
use Rattle.working_summaries.specs.Reads.{in_lines_reads}
use Rattle.missing_with_summary.proofs.CallLaws.{head_has}
use Rattle.missing_with_summary.proofs.seek_flip.Goals as goal

pub returns-in-At : goal.returns-in-At
returns-in-At c =
    let a = c.args in
    head_has (edition_of a.edition) (sources a.parent.now a.staged.now a.staged_count a.table.now a.table_count) (in_lines_reads (edition_of a.edition) (sources a.parent.now a.staged.now a.staged_count a.table.now a.table_count) a.summary.now a.target a.spend a.spills) _ _ c.flip_position-position.ensures _ c.in-At.is
