-- Refusal 25, the mark, or the undos.
use native.Mathlib.Omega.{arith}
use mathlib.Core.Path.{sym, ◌∙◌}
use Rattle.call_steps.specs.State.{state}
use Rattle.call_steps.specs.Steps.{lists_with}
use Rattle.driver_core.specs.Bytes.{journal}
use Rattle.driver_rollback.proofs.RollbackLaws.{undo_ready_when, undo_25, undo_marked, undo_down}
use Rattle.driver_rollback.proofs.undo_to.Goals as goal

pub returns-then-standing-mark : goal.returns-then-standing-mark
returns-then-standing-mark c =
    let a = c.args in
    undo_marked a.parents a.mark (state a.ids.now a.numbers.now a.lengths.now a.spills.now (lists_with a.counts a.staged.now a.table.now a.deleted.now)) (journal a.entries.now a.used a.standing) (sym c.driver_ok.ensures ∙ c.if-driver_ok.true) c.if-standing-mark.true

pub undo_noted-requires : goal.undo_noted-requires
undo_noted-requires c =
    let a = c.args in
    undo_ready_when a.parents a.mark (state a.ids.now a.numbers.now a.lengths.now a.spills.now (lists_with a.counts a.staged.now a.table.now a.deleted.now)) (journal a.entries.now a.used a.standing) (sym c.driver_ok.ensures ∙ c.if-driver_ok.true) 0

pub returns-then-driver_ok : goal.returns-then-driver_ok
returns-then-driver_ok c =
    let a = c.args in
    undo_down a.parents a.mark (state a.ids.now a.numbers.now a.lengths.now a.spills.now (lists_with a.counts a.staged.now a.table.now a.deleted.now)) (journal a.entries.now a.used a.standing) (sym c.driver_ok.ensures ∙ c.if-driver_ok.true) (omega (arith, c.if-standing-mark.false)) _ c.undo_noted.ensures

pub returns : goal.returns
returns c =
    let a = c.args in
    undo_25 a.parents a.mark (state a.ids.now a.numbers.now a.lengths.now a.spills.now (lists_with a.counts a.staged.now a.table.now a.deleted.now)) (journal a.entries.now a.used a.standing) (sym c.driver_ok.ensures ∙ c.if-driver_ok.false)
