-- Each way out of the walk.
use mathlib.Core.Path.{refl, ◌∙◌}
use native.Mathlib.Omega.{arith}
use Rattle.buffer_core.specs.Edition.{edition_of}
use Rattle.buffer_core.specs.Spills.{sources}
use Rattle.flip_walk.proofs.WalkLaws.{walk_next}
use Rattle.summary_core.specs.Flip.{line_look}
use Rattle.summary_walk.proofs.WalkLaws.{walk_over, walk_ended, walk_stopped, stays}
use Rattle.summary_walk.proofs.walk_down.Goals as goal

pub loop-low-init : goal.loop-low-init
loop-low-init c = (refl, refl, refl)

pub try_line-tried-requires : goal.try_line-tried-requires
try_line-tried-requires c =
    let l = c.loop-low in
    rw (l.invariant.0, l.invariant.1) (c.requires.0, omega arith, c.requires.2, omega (arith, c.requires.3))

pub returns-in-Ended : goal.returns-in-Ended
returns-in-Ended c =
    let a = c.args in
    let l = c.loop-low in
    let w = sources a.parent.now a.staged.now a.staged_counts.count a.table.now a.table_count in
    walk_ended a.edition w a.staged_counts a.staged.now a.summary.now a.target a.spend a.from a.seen l.low l.saw l.invariant.2 c.loop-low-test.true _ _ _ (rw (l.invariant.0, l.invariant.1) at c.try_line-tried.ensures) _ c.in-Ended.is

pub returns-in-Stop : goal.returns-in-Stop
returns-in-Stop c =
    let a = c.args in
    let l = c.loop-low in
    let w = sources a.parent.now a.staged.now a.staged_counts.count a.table.now a.table_count in
    walk_stopped a.edition w a.staged_counts a.staged.now a.summary.now a.target a.spend a.from a.seen l.low l.saw l.invariant.2 c.loop-low-test.true _ _ _ (rw (l.invariant.0, l.invariant.1) at c.try_line-tried.ensures) _ _ c.in-Stop.is c.either.ensures _ c.no_entry.ensures

pub loop-low-preserved : goal.loop-low-preserved
loop-low-preserved c =
    let a = c.args in
    let l = c.loop-low in
    let w = sources a.parent.now a.staged.now a.staged_counts.count a.table.now a.table_count in
    let f = line_look (edition_of a.edition) w a.summary.now a.target a.spend in
    let q = stays a.edition w a.staged_counts a.staged.now a.summary.now a.target a.spend a.from a.seen l.low l.saw l.invariant.2 c.loop-low-test.true _ _ _ (rw (l.invariant.0, l.invariant.1) at c.try_line-tried.ensures) _ c.in-Next.is in
    (q.1, q.2, l.invariant.2 ∙ walk_next f l.low l.saw c.loop-low-test.true _ refl _ _ q.0 c.either-saw.ensures)

pub returns : goal.returns
returns c =
    let a = c.args in
    let l = c.loop-low in
    let w = sources a.parent.now a.staged.now a.staged_counts.count a.table.now a.table_count in
    rw (l.invariant.0, l.invariant.1) (walk_over a.edition w a.staged_counts a.staged.now a.summary.now a.target a.spend a.from a.seen l.low l.saw l.invariant.2 c.loop-low-test.false _ c.no_entry-2.ensures)
