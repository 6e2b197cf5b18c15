-- The first word takes the parameters.
use mathlib.Core.Path.{refl}
use Rattle.blake2b_spec.specs.Blake2b.{start, iv}
use Rattle.blake2b_core.proofs.start.Goals as goal

pub returns : goal.returns
unfolding start iv
returns c = refl
