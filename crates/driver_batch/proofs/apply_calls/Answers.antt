-- Refusal 25, or the batch.
use mathlib.Core.Path.{sym, ◌∙◌}
use mathlib.Core.Bool.{true}
use mathlib.Core.List.{[]}
use Rattle.call_steps.specs.State.{state}
use Rattle.call_steps.specs.Steps.{lists_with}
use Rattle.driver_core.specs.Bytes.{journal}
use Rattle.driver_batch.proofs.BatchLaws.{none_popped, driver_ready, batch_passed, batch_refused}
use Rattle.driver_batch.proofs.apply_calls.Goals as goal

pub apply_noted-requires : goal.apply_noted-requires
apply_noted-requires c =
    let a = c.args in
    driver_ready a.parents (state a.ids.now a.numbers.now a.lengths.now a.spills.now (lists_with a.counts a.staged.now a.table.now a.deleted.now)) (journal a.entries.now a.used a.standing) (sym c.driver_ok.ensures ∙ c.if-driver_ok.true)

pub returns-then-driver_ok : goal.returns-then-driver_ok
returns-then-driver_ok c =
    let a = c.args in
    let b = c.apply_noted in
    none_popped b.result _ _ _ _ _ _ _ _ _ _ _ b.ensures c.apply_noted.auto.popped
    ∙ batch_passed a.parents (state a.ids.now a.numbers.now a.lengths.now a.spills.now (lists_with a.counts a.staged.now a.table.now a.deleted.now)) (journal a.entries.now a.used a.standing) true a.input.now a.answers.now [] (sym c.driver_ok.ensures ∙ c.if-driver_ok.true)

pub returns : goal.returns
returns c =
    let a = c.args in
    batch_refused a.parents (state a.ids.now a.numbers.now a.lengths.now a.spills.now (lists_with a.counts a.staged.now a.table.now a.deleted.now)) (journal a.entries.now a.used a.standing) true a.input.now a.answers.now [] (sym c.driver_ok.ensures ∙ c.if-driver_ok.false)
