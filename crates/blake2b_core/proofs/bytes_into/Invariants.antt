-- The first i bytes are those of the state.
use Rattle.std.proofs.Common.{◌≡◌, take}
use Rattle.blake2b_spec.specs.Blake2b.{tabulate, byte_at}
use Rattle.blake2b_core.proofs.bytes_into.Given as goal

abbrev pub invariant-loop-i : goal.invariant-loop-i
invariant-loop-i l = take l.i l.out ≡ tabulate (byte_at l.h) l.i
