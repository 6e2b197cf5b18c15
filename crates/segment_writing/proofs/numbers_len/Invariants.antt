-- The sum, and the bytes of what is left, are the whole.
use Rattle.std.proofs.Common.{◌≡◌, ◌+◌, ◌*◌, ◌≤◌, length, take, drop}
use Rattle.segment_core.specs.Row.{numbers_bytes}
use Rattle.segment_writing.proofs.numbers_len.Given as goal

abbrev pub invariant-loop-x : goal.invariant-loop-x
invariant-loop-x l =
    (l.sum ≤ 10 * l.x-index) × (length (numbers_bytes (take l.n l.xs)) ≡ l.sum + length (numbers_bytes (drop l.x-index (take l.n l.xs))))
