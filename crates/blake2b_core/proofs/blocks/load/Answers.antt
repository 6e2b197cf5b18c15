-- The lower half and the higher half.
use Prim.Native.Nat.{◌+◌, ◌*◌, ◌^◌}
use Rattle.blake2b_spec.specs.Blake2b.{le64}
use Rattle.blake2b_core.proofs.blocks.load.Goals as goal

pub returns : goal.returns
unfolding le64
returns c = λ i. c.half.ensures.value i + c.half-2.ensures.value i * 2 ^ 32
