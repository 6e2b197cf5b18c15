-- The box has one token.
use mathlib.Core.Path.{◌∙◌}
use mathlib.Core.List.{[], ◌∷◌}
use mir.Syntax.{w64}
use lib.ListN.{replicate}
use Rattle.signed.proofs.SignedLaws.{back}
use Rattle.balance.specs.Boxes.{change_box}
use Rattle.call_steps.specs.State.{balance_of}
use Rattle.call_steps.specs.Steps.{changed_by, change_of}
use Rattle.balance_steps.proofs.change_step.Goals as goal

pub returns : goal.returns
unfolding change_of
returns c =
    let a = c.args in
    c.change_box.ensures
    ∙ (λ i. changed_by (change_box a.adding (balance_of a.p a.ids.now a.numbers.now a.lengths.now) (back w64 a.nanos c.ranges.nanos i) (replicate 32 a.token) (back w64 a.amount c.ranges.amount i ∷ []) 1) a.p a.ids.now a.numbers.now a.lengths.now)
