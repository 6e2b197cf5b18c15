-- The flush where the side changes.
use mathlib.Core.Path.{sym, ◌∙◌}
use Rattle.standing_calls.specs.Stands.{side_of}
use Rattle.trial_steps.specs.Held.{held}
use Rattle.trial_steps.proofs.StepLaws.{changed, unchanged}
use Rattle.trial_steps.proofs.change_to.Goals as goal

pub returns-then-flushes : goal.returns-then-flushes
returns-then-flushes c =
    let a = c.args in
    changed (side_of a.to) (held a.t a.ids.now a.numbers.now a.lengths.now a.spills.now a.staged.now a.table.now a.deleted.now) c.requires _ (λ room. sym c.if-flushes.true ∙ c.changes-flushes.ensures room) c.made-r.ensures

pub returns : goal.returns
returns c =
    let a = c.args in
    unchanged (side_of a.to) (held a.t a.ids.now a.numbers.now a.lengths.now a.spills.now a.staged.now a.table.now a.deleted.now) c.requires (λ room. sym c.if-flushes.false ∙ c.changes-flushes.ensures room)
