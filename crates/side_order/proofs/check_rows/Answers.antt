-- A row that a pop takes leaves the rest; another ends the check.
use mathlib.Core.Path.{sym, ◌∙◌}
use native.Mathlib.Omega.{arith}
use Rattle.records.proofs.TurnLaws.{left_all}
use Rattle.buffer_core.specs.Edition.{edition_of}
use Rattle.buffer_core.specs.Spills.{sources}
use Rattle.side_order.specs.Side.{row_taken}
use Rattle.side_order.proofs.TakenLaws.{rows_turn, rows_stop, rows_past}
use Rattle.side_order.proofs.check_rows.Goals as goal

pub loop-n-init : goal.loop-n-init
loop-n-init c = rw left_all

pub check_row-row-requires : goal.check_row-row-requires
check_row-row-requires c =
    let p = c.requires in
    record { in_staged = p.in_staged; in_table = p.in_table; apart = p.apart; few_rows = omega (arith, p.few_rows) }

pub returns-in-Err : goal.returns-in-Err
returns-in-Err c =
    let a = c.args in
    let l = c.loop-n in
    rows_stop (row_taken (edition_of a.edition) a.kind (sources a.parent.now a.staged.now a.staged_count a.table.now a.table_count)) l.n a.spills c.loop-n-test.true _ (sym c.in-Err.is ∙ c.check_row-row.ensures) ∙ sym l.invariant

pub loop-n-preserved : goal.loop-n-preserved
loop-n-preserved c =
    let a = c.args in
    let l = c.loop-n in
    l.invariant ∙ rows_turn (row_taken (edition_of a.edition) a.kind (sources a.parent.now a.staged.now a.staged_count a.table.now a.table_count)) l.n a.spills c.loop-n-test.true (sym c.in-Ok.is ∙ c.check_row-row.ensures)

pub returns : goal.returns
returns c =
    let a = c.args in
    let l = c.loop-n in
    sym (l.invariant ∙ rows_past (row_taken (edition_of a.edition) a.kind (sources a.parent.now a.staged.now a.staged_count a.table.now a.table_count)) l.n a.spills c.loop-n-test.false)
