-- What is left, with what was seen, decides, and none of it is below the target.
use Rattle.std.proofs.Common.{◌≡◌, ◌≤◌, take, false}
use lib.Seq.{slice}
use Rattle.entries.specs.Order.{From}
use Rattle.entries.specs.Flip.{position}
use Rattle.entry_flips.proofs.flip_position.Given as goal

abbrev pub invariant-loop-i : goal.invariant-loop-i
invariant-loop-i l =
    (l.i ≤ l.n) × (position l.spend l.target (take l.n l.xs) 0 false ≡ position l.spend l.target (slice l.i l.n l.xs) l.i l.seen)
    × From l.target l.i l.n l.xs
