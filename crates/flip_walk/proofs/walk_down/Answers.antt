-- Each way out of the walk.
use mathlib.Core.Path.{sym, ◌∙◌}
use Rattle.buffer_core.specs.Edition.{edition_of}
use Rattle.buffer_core.specs.Spills.{sources}
use Rattle.buffer_core.specs.Flip.{look_at}
use Rattle.flip_walk.proofs.WalkLaws.{walk_take, walk_stop, walk_next, walk_fail, walk_end}
use Rattle.flip_walk.proofs.walk_down.Goals as goal

pub returns-in-Take : goal.returns-in-Take
returns-in-Take c =
    let a = c.args in
    let f = look_at (edition_of a.edition) (sources a.parent.now a.staged.now a.staged_count a.table.now a.table_count) a.target a.spend in
    walk_take f c.loop-low.low c.loop-low.saw c.loop-low-test.true _ c.look_at-look.ensures _ c.in-Take.is ∙ sym c.loop-low.invariant

pub returns-in-Stop : goal.returns-in-Stop
returns-in-Stop c =
    let a = c.args in
    let f = look_at (edition_of a.edition) (sources a.parent.now a.staged.now a.staged_count a.table.now a.table_count) a.target a.spend in
    walk_stop f c.loop-low.low c.loop-low.saw c.loop-low-test.true _ c.look_at-look.ensures _ _ c.in-Stop.is c.either.ensures ∙ sym c.loop-low.invariant

pub loop-low-preserved : goal.loop-low-preserved
loop-low-preserved c =
    let a = c.args in
    let f = look_at (edition_of a.edition) (sources a.parent.now a.staged.now a.staged_count a.table.now a.table_count) a.target a.spend in
    c.loop-low.invariant ∙ walk_next f c.loop-low.low c.loop-low.saw c.loop-low-test.true _ c.look_at-look.ensures _ _ c.in-Next.is c.either-saw.ensures

pub returns-in-Fail : goal.returns-in-Fail
returns-in-Fail c =
    let a = c.args in
    let f = look_at (edition_of a.edition) (sources a.parent.now a.staged.now a.staged_count a.table.now a.table_count) a.target a.spend in
    walk_fail f c.loop-low.low c.loop-low.saw c.loop-low-test.true _ c.look_at-look.ensures _ c.in-Fail.is ∙ sym c.loop-low.invariant

pub returns : goal.returns
returns c =
    let a = c.args in
    let f = look_at (edition_of a.edition) (sources a.parent.now a.staged.now a.staged_count a.table.now a.table_count) a.target a.spend in
    walk_end f c.loop-low.low c.loop-low.saw c.loop-low-test.false ∙ sym c.loop-low.invariant
