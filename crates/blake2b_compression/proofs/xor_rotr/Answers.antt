-- One store, of the rotated word.
use Rattle.blake2b_spec.specs.Blake2b.{xor_rotr}
use Rattle.blake2b_compression.proofs.xor_rotr.Goals as goal

pub returns : goal.returns
unfolding xor_rotr
returns c = cc
