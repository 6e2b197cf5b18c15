-- A fork, a fork that is too deep, or a block.
use mathlib.Core.Path.{sym, ap, ◌∙◌}
use lib.IntN.{nat_abs}
use mir.Syntax.{w32}
use Rattle.signed.specs.Sign.{is_negative}
use Rattle.signed.proofs.SignedLaws.{back, back64}
use Rattle.standing_calls.specs.declared.TrialState.{TrialState}
use Rattle.trial_steps.specs.Held.{held}
use Rattle.trial_runs.proofs.TurnLaws.{turn_fork, turn_refused}
use Rattle.trial_runs.proofs.turn.Goals as goal

pub returns-then-may_undo : goal.returns-then-may_undo
returns-then-may_undo c =
    let a = c.args in
    let z = back w32 a.step c.ranges.step in
    turn_fork a.room a.step a.run.source a.run.blocks (held a.run.state a.ids.now a.numbers.now a.lengths.now a.spills.now a.staged.now a.table.now a.deleted.now) a.standing.now c.requires c.magnitude-depth.result (c.magnitude-depth.ensures ∙ ap nat_abs (back64 c.i64_from_i32.result c.i64_from_i32.type_inv ∙ c.i64_from_i32.ensures ∙ z)) (ap is_negative (sym z) ∙ sym c.is_negative_i32.ensures ∙ c.if-is_negative_i32.true) (sym c.if-may_undo.true ∙ c.may_undo.ensures) _ c.fork-after.ensures

pub returns-then-is_negative_i32 : goal.returns-then-is_negative_i32
returns-then-is_negative_i32 c =
    let a = c.args in
    let z = back w32 a.step c.ranges.step in
    turn_refused a.room a.step a.run.source a.run.blocks (held a.run.state a.ids.now a.numbers.now a.lengths.now a.spills.now a.staged.now a.table.now a.deleted.now) a.standing.now c.requires c.magnitude-depth.result (c.magnitude-depth.ensures ∙ ap nat_abs (back64 c.i64_from_i32.result c.i64_from_i32.type_inv ∙ c.i64_from_i32.ensures ∙ z)) (ap is_negative (sym z) ∙ sym c.is_negative_i32.ensures ∙ c.if-is_negative_i32.true) (sym c.if-may_undo.false ∙ c.may_undo.ensures) _ (ap (λ (t : TrialState). t.end) c.ended_by-refused.ensures)
