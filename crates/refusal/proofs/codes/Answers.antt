-- The constants stand in the order of their numbers.
use mathlib.Core.Path.{refl}
use Rattle.refusal.specs.Refusal.{numbers_from}
use Rattle.refusal.proofs.codes.Goals as goal

pub returns : goal.returns
unfolding numbers_from
returns c = refl
