-- What is left to write from o on has room, and makes of the slice as it is now what all of the numbers make of the slice at entry.
use Rattle.std.proofs.Common.{◌≡◌, ◌+◌, ◌*◌, ◌-◌, ◌≤◌, length, take, drop}
use lib.Seq.{sets}
use Rattle.segment_core.specs.Row.{numbers_bytes, Room}
use Rattle.segment_writing.proofs.emit_numbers.Given as goal

abbrev pub invariant-loop-x : goal.invariant-loop-x
invariant-loop-x l =
    let xs = take l.n l.xs in
    let rest = numbers_bytes (drop l.x-index xs) in
    (l.o ≤ l.at + 10 * l.x-index) × Room l.o (length l.out) rest (10 * (l.n - l.x-index))
    × (l.at + length (numbers_bytes xs) ≡ l.o + length rest) × (sets l.fn.out l.at (numbers_bytes xs) ≡ sets l.out l.o rest)
