-- The state after the blocks before i.
use Rattle.std.proofs.Common.{◌≡◌}
use Rattle.blake2b_spec.specs.Blake2b as spec
use Rattle.blake2b_core.proofs.state.Given as goal

abbrev pub invariant-loop-i : goal.invariant-loop-i
invariant-loop-i l = l.h ≡ spec.absorbed l.nn l.s l.i
