-- By the laws of a step and of those that are left.
use Rattle.std.proofs.Common.{arith, pos, rules}
use lib.ListN.{get_or}
use mir.Syntax.{w32}
use mir.Val.{SFits}
use Rattle.signed.proofs.SignedLaws.{back}
use Rattle.trial_runs.proofs.TurnLaws.{run_start, run_turn_ready, run_ended, run_turn, run_end}
use Rattle.trial_runs.proofs.run_trial.Goals as goal

pub loop-step-init : goal.loop-step-init
loop-step-init c = let a = c.args in run_start a.room a.steps.now a.start.source a.start.blocks _ a.standing.now _ tt c.requires

pub turn-run-requires : goal.turn-run-requires
turn-run-requires c =
    let a = c.args in
    run_turn_ready a.room a.steps.now a.start.source a.start.blocks _ a.standing.now _ _ _ _ _ _ c.loop-step.invariant c.loop-step-test.true

pub returns-then-state-ne0 : goal.returns-then-state-ne0
returns-then-state-ne0 c =
    let a = c.args in
    let f : SFits w32 (get_or a.steps.now c.loop-step.step-index (pos 0)) = search rules in
    run_ended a.room a.steps.now a.start.source a.start.blocks _ a.standing.now _ _ _ _ _ _ c.loop-step.invariant c.loop-step-test.true _
    (back w32 (get_or a.steps.now c.loop-step.step-index (pos 0)) f) _ _ _ _ c.turn-run.ensures c.if-state-ne0.true

pub loop-step-preserved : goal.loop-step-preserved
loop-step-preserved c =
    let a = c.args in
    let f : SFits w32 (get_or a.steps.now c.loop-step.step-index (pos 0)) = search rules in
    run_turn a.room a.steps.now a.start.source a.start.blocks _ a.standing.now _ _ _ _ _ _ c.loop-step.invariant c.loop-step-test.true _
    (back w32 (get_or a.steps.now c.loop-step.step-index (pos 0)) f) _ _ _ _ c.turn-run.ensures _ tt c.turn-run.auto.standing c.if-state-ne0.false

pub returns : goal.returns
returns c =
    let a = c.args in
    run_end a.room a.steps.now a.start.source a.start.blocks _ a.standing.now _ _ _ _ _ _ c.loop-step.invariant (omega arith)
