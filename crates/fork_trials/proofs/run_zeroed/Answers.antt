-- The steps from the zeroed state, and what they came to.
use mathlib.Core.Path.{◌∙◌}
use Rattle.fork_trials.proofs.TryLaws.{run_ready, run_told}
use Rattle.fork_trials.proofs.run_zeroed.Goals as goal

pub run_trial-run-requires : goal.run_trial-run-requires
run_trial-run-requires c =
    let a = c.args in
    run_ready a.x a.table_capacity a.staged_capacity a.deleted_capacity a.room a.steps.now a.table.now a.staged.now a.deleted.now a.standing.now c.requires c.start_run-start.result c.start_run-start.ensures

pub returns : goal.returns
returns c =
    let a = c.args in
    c.told.ensures ∙ run_told a.x a.table_capacity a.staged_capacity a.deleted_capacity a.room a.steps.now a.table.now a.staged.now a.deleted.now a.standing.now c.requires c.start_run-start.result c.start_run-start.ensures _ _ _ _ c.run_trial-run.ensures
