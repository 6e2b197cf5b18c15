-- A full page needs none of the older rows.
use Prim.Native.Nat.{◌-◌}
use native.Mathlib.Omega.{arith}
use Rattle.buffer_core.specs.Edition.{edition_of}
use Rattle.buffer_core.specs.Spills.{sources}
use Rattle.buffer_core.specs.Flip.{row_checked}
use Rattle.page_core.proofs.PageLaws.{down_start, down_turn, down_end, down_full}
use Rattle.page_core.proofs.put_rows.Goals as goal

pub loop-n-init : goal.loop-n-init
loop-n-init c =
    let a = c.args in
    down_start (row_checked (edition_of a.edition) (sources a.parent.now a.staged.now a.staged_count a.table.now a.table_count)) a.spills a.wanted a.filling a.page.now c.requires.4

pub returns-then-wanted-filled : goal.returns-then-wanted-filled
returns-then-wanted-filled c =
    let a = c.args in
    let l = c.loop-n in
    down_full (row_checked (edition_of a.edition) (sources a.parent.now a.staged.now a.staged_count a.table.now a.table_count)) a.spills a.wanted a.filling a.page.now l.n (omega arith) l.filled l.page l.invariant c.if-wanted-filled.true

pub put_row-filled-requires : goal.put_row-filled-requires
put_row-filled-requires c = (c.requires.0, c.requires.1, omega arith, c.requires.3, c.loop-n.invariant.ready)

pub loop-n-preserved : goal.loop-n-preserved
loop-n-preserved c =
    let a = c.args in
    let l = c.loop-n in
    down_turn (row_checked (edition_of a.edition) (sources a.parent.now a.staged.now a.staged_count a.table.now a.table_count)) a.spills a.wanted a.filling a.page.now l.n (l.n - 1) (omega arith) (omega arith) l.filled _ l.page _ l.invariant c.put_row-filled.ensures

pub returns : goal.returns
returns c =
    let a = c.args in
    let l = c.loop-n in
    down_end (row_checked (edition_of a.edition) (sources a.parent.now a.staged.now a.staged_count a.table.now a.table_count)) a.spills a.wanted a.filling a.page.now l.n (omega arith) l.filled l.page l.invariant
