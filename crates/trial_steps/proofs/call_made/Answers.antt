-- The flush at a change, the call, and what becomes of the standing calls.
use Rattle.call_steps.proofs.KeepLaws.{step_ready}
use Rattle.trial_core.specs.Trial.{called}
use Rattle.trial_steps.specs.Held.{held}
use Rattle.trial_steps.proofs.StepLaws.{among_drawn, changed_ready, make_goes}
use Rattle.trial_steps.proofs.call_made.Goals as goal

pub called-r-requires : goal.called-r-requires
called-r-requires c =
    let a = c.args in
    step_ready 1 _ (changed_ready called (held a.t a.ids.now a.numbers.now a.lengths.now a.spills.now a.staged.now a.table.now a.deleted.now) _ c.change_to-c.ensures c.if-c-ne0.false) a.call (among_drawn a.call c.requires.0.drawable)

pub returns : goal.returns
returns c =
    let a = c.args in
    make_goes a.room a.block a.call c.requires.0.drawable (held a.t a.ids.now a.numbers.now a.lengths.now a.spills.now a.staged.now a.table.now a.deleted.now) a.standing.now c.requires.0.stands c.requires.1 _ c.change_to-c.ensures c.if-c-ne0.false _ _ c.called-r.ensures c.stand-s.result c.stand-s.ensures
