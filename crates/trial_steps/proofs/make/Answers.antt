-- A drawn flush, or an append or a spend.
use mathlib.Core.Path.{sym, ◌∙◌}
use Rattle.trial_steps.specs.Held.{held}
use Rattle.trial_steps.proofs.StepLaws.{make_flushed}
use Rattle.trial_steps.proofs.make.Goals as goal

pub returns-then-flush : goal.returns-then-flush
returns-then-flush c =
    let a = c.args in
    make_flushed a.room a.block a.call c.requires.drawable (held a.t a.ids.now a.numbers.now a.lengths.now a.spills.now a.staged.now a.table.now a.deleted.now) a.standing.now c.requires.stands (sym c.is_flush-flush.ensures ∙ c.if-flush.true) c.requires.ready _ c.made.ensures
