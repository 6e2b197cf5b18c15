-- What is left to run ends where the whole run ends.
use Rattle.std.proofs.Common.{◌+◌, ◌-◌, length}
use Rattle.runner.specs.Run.{run}
use Rattle.runner.proofs.RunLaws.{Kept}
use Rattle.runner.proofs.run_ready.Given as goal

abbrev pub invariant-loop : goal.invariant-loop
invariant-loop l =
    let o = l.initial in
    Kept l.parents l.input (length l.input + 1 - l.counter)
    (run l.p l.ids l.numbers l.lengths l.spills l.staged l.table l.deleted l.answers l.popped)
    (run o.p o.ids o.numbers o.lengths o.spills o.staged o.table o.deleted o.answers o.popped)
