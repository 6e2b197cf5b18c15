-- The first row that is refused ends it, before anything is written; rows that all pass are those whose lines are written.
use mathlib.Core.Path.{sym, ◌∙◌}
use Rattle.buffer_core.specs.Edition.{edition_of}
use Rattle.buffer_core.specs.Spills.{sources}
use Rattle.summary_rows.proofs.MakingLaws.{made_good}
use Rattle.summary_rows.proofs.summarize_hinted.Goals as goal

pub returns-in-Ok : goal.returns-in-Ok
returns-in-Ok c =
    let a = c.args in
    made_good (edition_of a.edition) (sources a.parent.now a.staged.now a.staged_count a.table.now a.table_count) a.spills a.lines a.summary.now c.requires.4 c.requires.5 (sym c.in-Ok.is ∙ c.check_rows-read.ensures) _ c.put_lines.ensures
