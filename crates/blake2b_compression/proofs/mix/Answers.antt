-- The eight steps are those of G, in order.
use Rattle.blake2b_spec.specs.Blake2b.{mix}
use Rattle.blake2b_compression.proofs.mix.Goals as goal

pub returns : goal.returns
unfolding mix
returns c =
    rw (
      c.xor_rotr-4.ensures,
      c.add-4.ensures,
      c.xor_rotr-3.ensures,
      c.add-3.ensures,
      c.xor_rotr-2.ensures,
      c.add-2.ensures,
      c.xor_rotr.ensures,
      c.add.ensures,
    )
