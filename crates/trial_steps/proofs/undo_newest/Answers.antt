-- The flush at a change, and the undo.
use mathlib.Core.Path.{refl}
use Prim.Native.Nat.{◌-◌}
use Rattle.call_steps.proofs.KeepLaws.{step_ready}
use Rattle.trial_core.specs.Trial.{undid}
use Rattle.standing_calls.proofs.StandingLaws.{newest_among}
use Rattle.trial_steps.specs.Held.{held}
use Rattle.trial_steps.proofs.StepLaws.{changed_ready, newest_undoes, undo_goes}
use Rattle.trial_steps.proofs.undo_newest.Goals as goal

pub made-r-requires : goal.made-r-requires
made-r-requires c =
    let a = c.args in
    (step_ready 1 _ (changed_ready undid (held a.t a.ids.now a.numbers.now a.lengths.now a.spills.now a.staged.now a.table.now a.deleted.now) _ c.change_to-c.ensures c.if-c-ne0.false) c.newest_undo-call.result (newest_among (a.t.stood - 1) a.standing.now c.newest_undo-call.result c.newest_undo-call.ensures), newest_undoes (a.t.stood - 1) a.standing.now c.newest_undo-call.result c.newest_undo-call.ensures)

pub returns : goal.returns
returns c =
    let a = c.args in
    undo_goes (held a.t a.ids.now a.numbers.now a.lengths.now a.spills.now a.staged.now a.table.now a.deleted.now) a.standing.now _ c.change_to-c.ensures c.if-c-ne0.false _ c.newest_undo-call.ensures _ c.made-r.ensures _ refl
