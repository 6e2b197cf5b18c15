-- A row that is there ends the walk or leaves those below; another is asked for.
use Prim.Native.Nat.{◌-◌, ◌<◌}
use mathlib.Core.Path.{sym, ◌∙◌}
use native.Mathlib.Omega.{arith}
use Rattle.buffer_core.specs.Edition.{edition_of}
use Rattle.buffer_core.specs.Spills.{sources}
use Rattle.row_seeking.proofs.SeekLaws.{down_goes, down_takes, down_stops, down_asks, down_ends}
use Rattle.row_seeking.proofs.seek_down.Goals as goal

pub look_at-look-requires : goal.look_at-look-requires
look_at-look-requires c =
    let below : c.loop-low.low - 1 < 2147483648 = omega arith in
    (c.requires.0.in_staged, c.requires.0.in_table, below, c.requires.0.apart)

pub returns-in-Take : goal.returns-in-Take
returns-in-Take c =
    let a = c.args in
    let l = c.loop-low in
    down_takes (edition_of a.edition) (sources a.parent.now a.staged.now a.staged_count a.table.now a.table_count) a.target a.spend l.low c.loop-low-test.true _ c.look_at-look.ensures _ c.in-Take.is ∙ sym l.invariant

pub returns-in-Stop : goal.returns-in-Stop
returns-in-Stop c =
    let a = c.args in
    let l = c.loop-low in
    down_stops (edition_of a.edition) (sources a.parent.now a.staged.now a.staged_count a.table.now a.table_count) a.target a.spend l.low c.loop-low-test.true _ c.look_at-look.ensures _ c.in-Stop.is ∙ sym l.invariant

pub loop-low-preserved : goal.loop-low-preserved
loop-low-preserved c =
    let a = c.args in
    let l = c.loop-low in
    l.invariant ∙ down_goes (edition_of a.edition) (sources a.parent.now a.staged.now a.staged_count a.table.now a.table_count) a.target a.spend l.low c.loop-low-test.true _ c.look_at-look.ensures _ c.in-Next.is

pub ask-requires : goal.ask-requires
ask-requires c = (c.requires.0, omega arith)

pub returns-in-Fail : goal.returns-in-Fail
returns-in-Fail c =
    let a = c.args in
    let l = c.loop-low in
    c.ask.ensures ∙ down_asks (edition_of a.edition) (sources a.parent.now a.staged.now a.staged_count a.table.now a.table_count) a.target a.spend l.low c.loop-low-test.true _ c.look_at-look.ensures _ c.in-Fail.is ∙ sym l.invariant

pub returns : goal.returns
returns c =
    let a = c.args in
    let l = c.loop-low in
    down_ends (edition_of a.edition) (sources a.parent.now a.staged.now a.staged_count a.table.now a.table_count) a.target a.spend l.low c.loop-low-test.false ∙ sym l.invariant
