use Rattle.run_answers.proofs.AnswerLaws.{and_on, and_off}
use Rattle.run_checks.proofs.CheckLaws.{lengths_there}
use Rattle.call_steps.specs.State.{blocks_ok, lengths_ok, state_ok}
use mathlib.Core.Path.{sym, ◌∙◌}
use Rattle.run_checks.proofs.state_ok.Goals as goal

pub lengths_ok-requires : goal.lengths_ok-requires
lengths_ok-requires c =
    let a = c.args in
    lengths_there a.parents a.ids.now a.numbers.now a.lengths.now a.spills.now (sym c.blocks_ok.ensures ∙ c.if-blocks_ok.true)

pub returns-then-lengths_ok : goal.returns-then-lengths_ok
unfolding state_ok
returns-then-lengths_ok c =
    c.lists_ok.ensures ∙ and_on _ _ (sym c.lengths_ok.ensures ∙ c.if-lengths_ok.true) ∙ and_on _ _ (sym c.blocks_ok.ensures ∙ c.if-blocks_ok.true)

pub returns-else-lengths_ok : goal.returns-else-lengths_ok
unfolding state_ok
returns-else-lengths_ok c =
    and_off _ _ (sym c.lengths_ok.ensures ∙ c.if-lengths_ok.false) ∙ and_on _ _ (sym c.blocks_ok.ensures ∙ c.if-blocks_ok.true)

pub returns-else-blocks_ok : goal.returns-else-blocks_ok
unfolding state_ok
returns-else-blocks_ok c =
    and_off _ _ (sym c.blocks_ok.ensures ∙ c.if-blocks_ok.false)
