-- Refusal 25, or the batch.
use mathlib.Core.Path.{sym, ◌∙◌}
use mathlib.Core.Bool.{false}
use mathlib.Core.List.{[]}
use Rattle.call_steps.specs.State.{state}
use Rattle.call_steps.specs.Steps.{lists_with}
use Rattle.driver_core.specs.Bytes.{journal}
use Rattle.driver_batch.proofs.BatchLaws.{none_entered, driver_ready, batch_passed, batch_refused, ok_alone}
use Rattle.driver_batch.proofs.make_calls.Goals as goal

pub apply_noted-requires : goal.apply_noted-requires
apply_noted-requires c =
    let a = c.args in
    driver_ready a.parents (state a.ids.now a.numbers.now a.lengths.now a.spills.now (lists_with a.counts a.staged.now a.table.now a.deleted.now)) (journal [] 0 0) (sym (ok_alone a.parents (state a.ids.now a.numbers.now a.lengths.now a.spills.now (lists_with a.counts a.staged.now a.table.now a.deleted.now)) _ c.state_ok.ensures) ∙ c.if-state_ok.true)

pub returns-then-state_ok : goal.returns-then-state_ok
returns-then-state_ok c =
    let a = c.args in
    let b = c.apply_noted in
    none_entered b.result _ _ _ _ _ _ _ _ _ _ _ b.ensures c.apply_noted.auto.entries
    ∙ batch_passed a.parents (state a.ids.now a.numbers.now a.lengths.now a.spills.now (lists_with a.counts a.staged.now a.table.now a.deleted.now)) (journal [] 0 0) false a.input.now a.answers.now a.popped.now (sym (ok_alone a.parents (state a.ids.now a.numbers.now a.lengths.now a.spills.now (lists_with a.counts a.staged.now a.table.now a.deleted.now)) _ c.state_ok.ensures) ∙ c.if-state_ok.true)

pub returns : goal.returns
returns c =
    let a = c.args in
    batch_refused a.parents (state a.ids.now a.numbers.now a.lengths.now a.spills.now (lists_with a.counts a.staged.now a.table.now a.deleted.now)) (journal [] 0 0) false a.input.now a.answers.now a.popped.now (sym (ok_alone a.parents (state a.ids.now a.numbers.now a.lengths.now a.spills.now (lists_with a.counts a.staged.now a.table.now a.deleted.now)) _ c.state_ok.ensures) ∙ c.if-state_ok.false)
