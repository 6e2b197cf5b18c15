use Rattle.runner.proofs.RunLaws.{call_ready, turn_ended, turn_answered}
use Rattle.runner.specs.Run.{run}
use Rattle.call_steps.specs.Steps.{lists_with, left_by, StepReady}
use Rattle.call_steps.specs.State.{state}
use Rattle.calls.specs.declared.Call.{Call}
use mathlib.Core.Path.{sym, subst}
use Rattle.runner.proofs.turn.Goals as goal

pub returns-then-n-eq0 : goal.returns-then-n-eq0
returns-then-n-eq0 c =
    let a = c.args in
    turn_ended a.parents a.input.now (run a.p a.ids.now a.numbers.now a.lengths.now a.spills.now a.staged.now a.table.now a.deleted.now a.answers.now a.popped.now) c.next_call-call.result c.size_of-n.result _ c.next_call-call.ensures c.size_of-n.ensures c.if-n-eq0.true c.end_of-end.ensures

pub step-s-requires : goal.step-s-requires
step-s-requires c =
    let a = c.args in
    subst (λ (x : Call). StepReady x (state a.ids.now a.numbers.now a.lengths.now a.spills.now (lists_with a.p.counts a.staged.now a.table.now a.deleted.now)))
    (sym c.next_call-call.ensures) (call_ready a.parents a.input.now (run a.p a.ids.now a.numbers.now a.lengths.now a.spills.now a.staged.now a.table.now a.deleted.now a.answers.now a.popped.now) c.requires)

pub returns : goal.returns
returns c =
    let a = c.args in
    turn_answered a.parents a.input.now (run a.p a.ids.now a.numbers.now a.lengths.now a.spills.now a.staged.now a.table.now a.deleted.now a.answers.now a.popped.now) c.next_call-call.result c.size_of-n.result (left_by c.step-s.result _ _ _ _ _ _ _) _ _ c.next_call-call.ensures c.size_of-n.ensures c.if-n-eq0.false c.step-s.ensures c.put_answer.ensures.0 c.put_answer.ensures.1
