-- Whatever reading the rest into the buffer as it is now gives, reading all gives.
use Rattle.std.proofs.Common.{◌≡◌, ◌-◌, ◌++◌, List, ℤ, length, drop}
use Rattle.segment_core.specs.Answers.{Part}
use Rattle.segment_core.specs.Reading.{numbers_at}
use Rattle.segment_core.proofs.ListLaws.{Fills}
use Rattle.segment_reading.proofs.read_numbers.Given as goal

abbrev pub invariant-loop-slot : goal.invariant-loop-slot
invariant-loop-slot l =
    let buf = l.slot-items ++ drop l.k l.fn.buf in
    let i = l.slot-index in
    (length l.slot-items ≡ l.k)
    × ((r : Part) (b : List ℤ) → Fills l.k (numbers_at (l.k - i) l.row l.next) i buf r b → Fills l.k (numbers_at l.k l.row l.at) 0 l.fn.buf r b)
