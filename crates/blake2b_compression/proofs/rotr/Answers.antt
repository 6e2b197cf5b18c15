-- The two parts are those of the definition.
use Rattle.std.proofs.Common.{refl}
use Rattle.blake2b_spec.specs.Blake2b.{rotr}
use Rattle.blake2b_compression.proofs.rotr.Goals as goal

pub returns : goal.returns
unfolding rotr
returns c = refl
