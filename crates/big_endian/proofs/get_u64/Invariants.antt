-- n is the value of the bytes passed.
use Rattle.std.proofs.Common.{◌*◌, ◌^◌, ◌<◌, ◌≡◌, take, drop}
use Rattle.big_endian.specs.BigEndian.{value_of}
use Rattle.big_endian.proofs.get_u64.Given as goal

abbrev pub invariant-loop-b : goal.invariant-loop-b
invariant-loop-b l = (l.n ≡ value_of 0 (take l.b-index (take 8 (drop l.at l.s)))) × (l.n < 2 ^ (8 * l.b-index))
