-- A tally of the rows passes exactly where all of them do.
use mathlib.Core.Path.{sym, ◌∙◌}
use Rattle.buffer_core.specs.Edition.{edition_of}
use Rattle.buffer_core.specs.Spills.{sources}
use Rattle.buffer_core.specs.Flip.{row_checked}
use Rattle.row_tallies.proofs.TallyLaws.{all_good, first_bad}
use Rattle.row_tallies.proofs.check_rows.Goals as goal

pub returns-in-Ok : goal.returns-in-Ok
returns-in-Ok c =
    let a = c.args in
    all_good (row_checked (edition_of a.edition) (sources a.parent.now a.staged.now a.staged_count a.table.now a.table_count)) a.rows _ _ (sym c.in-Ok.is ∙ c.count_rows-tallied.ensures)

pub returns-in-Err : goal.returns-in-Err
returns-in-Err c =
    let a = c.args in
    first_bad (row_checked (edition_of a.edition) (sources a.parent.now a.staged.now a.staged_count a.table.now a.table_count)) a.rows _ _ (sym c.in-Err.is ∙ c.count_rows-tallied.ensures)
