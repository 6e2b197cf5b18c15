-- The way out is that of the first step that is refused.
use mathlib.Core.Bool.{true}
use mathlib.Core.Path.{sym, subst}
use Rattle.driver_undo.specs.Undos.{undone}
use Rattle.driver_undo.specs.Internal.{UndoReady}
use Rattle.driver_undo.proofs.UndoLaws.{flush_after}
use Rattle.driver_rollback.proofs.RollbackLaws.{turns_ready}
use Rattle.driver_rollback.proofs.undo_flushed.Goals as goal

pub undo_ready-v-requires : goal.undo_ready-v-requires
undo_ready-v-requires c =
    let a = c.args in
    let e = c.flush_all-f.ensures in
    let r = subst (UndoReady a.parents) (sym e) (flush_after a.parents (undone a.u a.ids.now a.numbers.now a.lengths.now a.spills.now a.staged.now a.table.now a.deleted.now a.entries.now) c.requires) in
    r

pub flush_all-requires : goal.flush_all-requires
flush_all-requires c =
    let a = c.args in
    let e = c.flush_all-f.ensures in
    let r = subst (UndoReady a.parents) (sym e) (flush_after a.parents (undone a.u a.ids.now a.numbers.now a.lengths.now a.spills.now a.staged.now a.table.now a.deleted.now a.entries.now) c.requires) in
    subst (UndoReady a.parents) (sym c.undo_ready-v.ensures) (turns_ready a.parents a.mark _ true _ r)
