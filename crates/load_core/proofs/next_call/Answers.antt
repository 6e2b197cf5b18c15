-- The draw, and the call that it picks.
use mathlib.Core.Path.{ap, ◌∙◌}
use Prim.Native.Nat.{ℕ}
use Rattle.load_core.specs.Draw.{pick, draws}
use Rattle.load_core.proofs.next_call.Goals as goal

pub returns : goal.returns
unfolding draws
returns c = c.pick.ensures ∙ ap (λ (d : ℕ). pick d c.args.g) c.draw-d.ensures
