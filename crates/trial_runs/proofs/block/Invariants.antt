-- What is left to make ends where the whole block ends.
use Rattle.std.proofs.Common.{◌-◌}
use Rattle.trial_steps.specs.Held.{held}
use Rattle.trial_runs.proofs.RunLaws.{BlockKept}
use Rattle.trial_runs.proofs.block.Given as goal

abbrev pub invariant-loop : goal.invariant-loop
invariant-loop l =
    let o = l.initial in
    BlockKept (Unit {0}) l.n l.room l.number (l.n - l.counter) o.source (held o.state o.ids o.numbers o.lengths o.spills o.staged o.table o.deleted) o.standing
    l.source (held l.state l.ids l.numbers l.lengths l.spills l.staged l.table l.deleted) l.standing
