-- What is tested first, then the run over the fronts of the buffers.
use Rattle.fork_trials.proofs.TryLaws.{tries_started, tries_refused}
use Rattle.fork_trials.proofs.try_forks.Goals as goal

pub returns-then-code-eq0 : goal.returns-then-code-eq0
returns-then-code-eq0 c =
    let a = c.args in
    tries_started a.state a.table_capacity a.staged_capacity a.deleted_capacity a.standing_capacity a.steps.now a.table.now a.staged.now a.deleted.now a.standing.now _ c.refused-code.ensures c.if-code-eq0.true _ _ _ _ _ c.run_sized.ensures

pub returns : goal.returns
returns c =
    let a = c.args in
    tries_refused a.state a.table_capacity a.staged_capacity a.deleted_capacity a.standing_capacity a.steps.now a.table.now a.staged.now a.deleted.now a.standing.now _ c.refused-code.ensures c.if-code-eq0.false
