-- The newest entry is read, and undone where it is a call.
use native.Mathlib.Omega.{arith}
use mathlib.Core.Path.{sym, ap, ◌∙◌, subst}
use borrow.Author.Rules.{rules}
use Rattle.call_steps.specs.Steps.{left_by}
use Rattle.driver_steps.specs.declared.Move.{Move}
use Rattle.driver_steps.specs.Moves.{move_of, MoveReady}
use Rattle.driver_undo.specs.Undos.{undone}
use Rattle.driver_undo.proofs.UndoLaws.{undo_none, undo_fits, undo_asks, undo_accepted, undo_refused}
use Rattle.driver_undo.proofs.undo_newest.Goals as goal

pub returns-then-not-is_call : goal.returns-then-not-is_call
returns-then-not-is_call c =
    let a = c.args in
    let r = undone a.u a.ids.now a.numbers.now a.lengths.now a.spills.now a.staged.now a.table.now a.deleted.now a.entries.now in
    let x = c.newest_read-read in
    let i = c.is_call in
    undo_none a.parents r x.result x.ensures (sym i.ensures ∙ c.if-not-is_call.true)

pub step-s-requires : goal.step-s-requires
step-s-requires c =
    let a = c.args in
    let r = undone a.u a.ids.now a.numbers.now a.lengths.now a.spills.now a.staged.now a.table.now a.deleted.now a.entries.now in
    let x = c.newest_read-read in
    let i = c.is_call in
    subst (λ (m : Move). MoveReady a.entries.now m r.now) (sym c.undone_by.ensures) (undo_asks a.parents r x.result x.ensures c.requires.0)

pub overflow_sub-used : goal.overflow_sub-used
overflow_sub-used c =
    let a = c.args in
    let r = undone a.u a.ids.now a.numbers.now a.lengths.now a.spills.now a.staged.now a.table.now a.deleted.now a.entries.now in
    let x = c.newest_read-read in
    let i = c.is_call in
    let e = sym i.ensures ∙ c.if-not-is_call.false in
    search (rules, (undo_fits a.parents r x.result x.ensures e).0)

pub size_at-size-requires : goal.size_at-size-requires
size_at-size-requires c =
    let a = c.args in
    let r = undone a.u a.ids.now a.numbers.now a.lengths.now a.spills.now a.staged.now a.table.now a.deleted.now a.entries.now in
    let x = c.newest_read-read in
    let i = c.is_call in
    let e = sym i.ensures ∙ c.if-not-is_call.false in
    omega (arith, (undo_fits a.parents r x.result x.ensures e).0, c.requires.0.used_in)

pub overflow_sub-result : goal.overflow_sub-result
overflow_sub-result c =
    let a = c.args in
    let r = undone a.u a.ids.now a.numbers.now a.lengths.now a.spills.now a.staged.now a.table.now a.deleted.now a.entries.now in
    let x = c.newest_read-read in
    let i = c.is_call in
    let e = sym i.ensures ∙ c.if-not-is_call.false in
    search (rules, (undo_fits a.parents r x.result x.ensures e).1, c.size_at-size.ensures)

pub returns-then-code-eq0 : goal.returns-then-code-eq0
returns-then-code-eq0 c =
    let a = c.args in
    let r = undone a.u a.ids.now a.numbers.now a.lengths.now a.spills.now a.staged.now a.table.now a.deleted.now a.entries.now in
    let x = c.newest_read-read in
    let i = c.is_call in
    let e = sym i.ensures ∙ c.if-not-is_call.false in
    undo_accepted a.parents r x.result x.ensures e (left_by c.step-s.result _ _ _ _ _ _ _)
    (c.step-s.ensures ∙ ap (λ (m : Move). move_of a.entries.now m r.now) c.undone_by.ensures) c.if-code-eq0.true c.size_at-size.result c.size_at-size.ensures

pub returns : goal.returns
returns c =
    let a = c.args in
    let r = undone a.u a.ids.now a.numbers.now a.lengths.now a.spills.now a.staged.now a.table.now a.deleted.now a.entries.now in
    let x = c.newest_read-read in
    let i = c.is_call in
    let e = sym i.ensures ∙ c.if-not-is_call.false in
    undo_refused a.parents r x.result x.ensures e (left_by c.step-s.result _ _ _ _ _ _ _)
    (c.step-s.ensures ∙ ap (λ (m : Move). move_of a.entries.now m r.now) c.undone_by.ensures) c.if-code-eq0.false
