-- A turn writes one line.
use mathlib.Core.Path.{sym, ◌∙◌}
use native.Mathlib.Omega.{arith}
use Rattle.records.proofs.TurnLaws.{left_all}
use Rattle.buffer_core.specs.Edition.{edition_of}
use Rattle.buffer_core.specs.Spills.{sources}
use Rattle.buffer_core.specs.Flip.{row_checked}
use Rattle.summary_rows.proofs.MakingLaws.{row_turn, row_past}
use Rattle.summary_rows.proofs.put_rows.Goals as goal

pub loop-n-init : goal.loop-n-init
loop-n-init c = rw left_all

pub put_row-requires : goal.put_row-requires
put_row-requires c = (c.requires.0, c.requires.1, omega arith, c.requires.3, omega arith)

pub loop-n-preserved : goal.loop-n-preserved
loop-n-preserved c =
    let a = c.args in
    let l = c.loop-n in
    l.invariant ∙ row_turn (row_checked (edition_of a.edition) (sources a.parent.now a.staged.now a.staged_count a.table.now a.table_count)) l.n a.spills l.summary _ c.loop-n-test.true c.put_row.ensures

pub returns : goal.returns
returns c =
    let a = c.args in
    let l = c.loop-n in
    sym (l.invariant ∙ row_past (row_checked (edition_of a.edition) (sources a.parent.now a.staged.now a.staged_count a.table.now a.table_count)) l.n a.spills l.summary c.loop-n-test.false)
