-- Refusal 25, or the run with how reading ended.
use mathlib.Core.Path.{sym, ◌∙◌}
use lib.ListN.{length}
use Rattle.call_steps.specs.State.{state}
use Rattle.call_steps.specs.Steps.{lists_with}
use Rattle.run_checks.proofs.ReadyLaws.{ready_when}
use Rattle.runner.proofs.RunLaws.{run_passed, run_refused, told_end}
use Rattle.runner.proofs.run_calls.Goals as goal

pub run_noted-p-requires : goal.run_noted-p-requires
run_noted-p-requires c =
    let a = c.args in
    ready_when a.parents (state a.ids.now a.numbers.now a.lengths.now a.spills.now (lists_with a.counts a.staged.now a.table.now a.deleted.now)) (sym c.state_ok.ensures ∙ c.if-state_ok.true)

pub returns-then-state_ok : goal.returns-then-state_ok
returns-then-state_ok c =
    let a = c.args in
    told_end (length a.input.now) _ _ _ c.run_noted-p.ensures c.end_at-end.ensures
    ∙ run_passed a.parents a.input.now (state a.ids.now a.numbers.now a.lengths.now a.spills.now (lists_with a.counts a.staged.now a.table.now a.deleted.now)) a.answers.now a.popped.now (sym c.state_ok.ensures ∙ c.if-state_ok.true)

pub returns : goal.returns
returns c =
    let a = c.args in
    run_refused a.parents a.input.now (state a.ids.now a.numbers.now a.lengths.now a.spills.now (lists_with a.counts a.staged.now a.table.now a.deleted.now)) a.answers.now a.popped.now (sym c.state_ok.ensures ∙ c.if-state_ok.false)
