-- The three shifts are those of the definition.
use mathlib.Core.Path.{refl}
use Rattle.load_core.specs.Draw.{draw}
use Rattle.load_core.proofs.draw.Goals as goal

pub returns : goal.returns
unfolding draw
returns c = refl
