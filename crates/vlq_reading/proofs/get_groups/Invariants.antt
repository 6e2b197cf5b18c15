-- What is left, on top of what the groups passed hold, is the whole.
use Rattle.std.proofs.Common.{◌≡◌, ◌-◌, drop}
use Rattle.vlq_core.specs.Reading.{dec}
use Rattle.vlq_core.proofs.LoopLaws.{Scaled, onto}
use Rattle.vlq_reading.proofs.get_groups.Given as goal

abbrev pub invariant-loop : goal.invariant-loop
invariant-loop l =
    Scaled (9 - l.counter) l.sum l.scale × (dec 9 (drop l.at l.src) l.at ≡ onto l.sum l.scale (dec (9 - l.counter) (drop l.i l.src) l.i))
