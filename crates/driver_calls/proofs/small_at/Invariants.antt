-- n is the value of the bytes passed.
use Rattle.std.proofs.Common.{◌≡◌, ◌*◌, ◌^◌, ◌<◌, take, drop}
use Rattle.big_endian.specs.BigEndian.{value_of}
use Rattle.driver_calls.proofs.small_at.Given as goal

abbrev pub invariant-loop-byte : goal.invariant-loop-byte
invariant-loop-byte l = (l.n ≡ value_of 0 (take l.byte-index (drop l.at l.s))) × (l.n < 2 ^ (8 * l.byte-index))
