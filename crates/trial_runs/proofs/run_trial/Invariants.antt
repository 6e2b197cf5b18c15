-- The steps that are left end where all steps end.
use Rattle.trial_steps.specs.Held.{held}
use Rattle.trial_runs.proofs.TurnLaws.{RunKept}
use Rattle.trial_runs.proofs.run_trial.Given as goal

abbrev pub invariant-loop-step : goal.invariant-loop-step
invariant-loop-step l =
    let o = l.initial in
    RunKept (Unit {0}) l.room l.steps l.step-index o.run.source o.run.blocks (held o.run.state o.ids o.numbers o.lengths o.spills o.staged o.table o.deleted) o.standing
    l.run.source l.run.blocks (held l.run.state l.ids l.numbers l.lengths l.spills l.staged l.table l.deleted) l.standing
