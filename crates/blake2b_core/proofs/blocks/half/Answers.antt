-- Four bytes, the lowest first.
use Prim.Native.Nat.{◌+◌, ◌*◌, ◌^◌}
use Rattle.blake2b_spec.specs.Blake2b.{le32}
use Rattle.blake2b_core.proofs.blocks.half.Goals as goal

pub returns-clause-value : goal.returns-clause-value
unfolding le32
returns-clause-value c =
    λ i. c.wide.ensures.value i + c.wide-2.ensures.value i * 2 ^ 8 + c.wide-3.ensures.value i * 2 ^ 16 + c.wide-4.ensures.value i * 2 ^ 24
