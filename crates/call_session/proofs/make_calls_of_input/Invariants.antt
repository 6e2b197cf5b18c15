-- A turn makes at most 1,024 calls.
use Rattle.std.proofs.Common.{◌*◌, ◌≤◌, []}
use Rattle.call_steps.specs.State.{state}
use Rattle.call_steps.specs.Steps.{lists_with}
use Rattle.call_session.specs.Session.{Onward}
use Rattle.call_session.proofs.make_calls_of_input.Given as goal

abbrev pub invariant-loop : goal.invariant-loop
invariant-loop g l =
    let o = l.initial in
    (l.s.place.at ≤ l.s.place.have) × (l.s.place.have ≤ 65536) × (l.s.place.made ≤ l.counter * 1024)
    × Onward (state o.ids o.numbers o.lengths o.spills (lists_with o.s.counts o.staged o.table o.deleted)) [] l.s.place l.input
    (state l.ids l.numbers l.lengths l.spills (lists_with l.s.counts l.staged l.table l.deleted))
