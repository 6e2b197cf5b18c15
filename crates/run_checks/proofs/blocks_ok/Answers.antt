use Rattle.run_answers.proofs.AnswerLaws.{and_on, and_off}
use mathlib.Core.Path.{◌∙◌}
use borrow.Author.Tests.{le-leb, lt-leb}
use Rattle.call_steps.specs.State.{blocks_ok}
use Rattle.run_checks.proofs.blocks_ok.Goals as goal

pub returns-then-parents-lengths : goal.returns-then-parents-lengths
unfolding blocks_ok
returns-then-parents-lengths c =
    and_on _ _ (le-leb _ _ c.if-parents-lengths.true) ∙ and_on _ _ (le-leb _ _ c.if-parents-numbers.true) ∙ and_on _ _ (le-leb _ _ c.if-parents-ids.true)

pub returns-else-parents-lengths : goal.returns-else-parents-lengths
unfolding blocks_ok
returns-else-parents-lengths c =
    and_off _ _ (lt-leb _ _ c.if-parents-lengths.false) ∙ and_on _ _ (le-leb _ _ c.if-parents-numbers.true) ∙ and_on _ _ (le-leb _ _ c.if-parents-ids.true)

pub returns-else-parents-numbers : goal.returns-else-parents-numbers
unfolding blocks_ok
returns-else-parents-numbers c =
    and_off _ _ (lt-leb _ _ c.if-parents-numbers.false) ∙ and_on _ _ (le-leb _ _ c.if-parents-ids.true)

pub returns-else-parents-ids : goal.returns-else-parents-ids
unfolding blocks_ok
returns-else-parents-ids c =
    and_off _ _ (lt-leb _ _ c.if-parents-ids.false)
