-- What is left to make ends where the whole batch ends.
use Rattle.std.proofs.Common.{◌+◌, ◌-◌, length}
use Rattle.driver_turns.specs.Batch.{applied}
use Rattle.driver_turns.proofs.TurnLaws.{Kept}
use Rattle.driver_turns.proofs.apply_ready.Given as goal

abbrev pub invariant-loop : goal.invariant-loop
invariant-loop l =
    let o = l.initial in
    Kept l.journaled l.parents l.input (length l.input + 1 - l.counter)
    (applied l.p l.ids l.numbers l.lengths l.spills l.staged l.table l.deleted l.entries l.answers l.popped)
    (applied o.p o.ids o.numbers o.lengths o.spills o.staged o.table o.deleted o.entries o.answers o.popped)
