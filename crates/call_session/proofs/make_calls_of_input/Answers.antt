-- The bounds of the places, and what all calls of the input leave.
use Rattle.std.proofs.Common.{arith, ◌+◌, ◌*◌, ◌≤◌}
use Rattle.call_session.proofs.SessionLaws.{keeps_on, starts, place_starts, told}
use Rattle.call_session.proofs.make_calls_of_input.Goals as goal
use Rattle.call_session.proofs.make_calls_of_input.Goals.{else-loop-test, then-loop-test+then-not-goes_on}

pub loop-init : goal.loop-init
loop-init g c =
    let s = c.start-s in
    let p = place_starts s.result.place s.ensures.1 in
    (omega (arith, p.0), omega (arith, p.1), omega (arith, p.2), starts _ s.result.place _ s.ensures.1)

pub loop-preserved : goal.loop-preserved
loop-preserved g c =
    let t = c.turn-s in
    let l = c.loop in
    let e : t.result.place.made ≤ l.s.place.made + 1024 = t.ensures.2 in
    let few : t.result.place.made ≤ (l.counter + 1) * 1024 = omega (arith, e, l.invariant.2) in
    (t.ensures.0, t.ensures.1, few, keeps_on _ _ l.s.place _ _ t.result.place _ l.invariant.3 t.ensures.3)

pub finish-requires : goal.finish-requires
finish-requires g c =
    let ids = c.parent_ids-ids in
    let s = c.start-s in
    let l = c.loop in
    elim c.loop-test.branch [
      | else-loop-test w ↦
          rw (w.s-is, w.numbers-is, w.lengths-is, w.spills-is)
          (omega (arith, l.invariant.2, l.auto), told ids.result s.result.counts l.numbers l.lengths l.spills l.s.place l.input l.ids l.s.counts l.staged l.table l.deleted ids.ensures.1 s.ensures.0 l.invariant.3)
      | then-loop-test+then-not-goes_on w ↦
          let t = w.turn-s in
          let e : t.result.place.made ≤ l.s.place.made + 1024 = t.ensures.2 in
          let k = keeps_on _ _ l.s.place _ _ t.result.place _ l.invariant.3 t.ensures.3 in
          rw (w.s-is, w.numbers-is, w.lengths-is, w.spills-is)
          (omega (arith, e, l.invariant.2, w.loop-test.true), told ids.result s.result.counts t.new.numbers t.new.lengths t.new.spills t.result.place t.new.input t.new.ids t.result.counts t.new.staged t.new.table t.new.deleted ids.ensures.1 s.ensures.0 k)
    ]
