-- The way out of a turn is that of the undo, and of the flush behind a refused one.
use native.Mathlib.Omega.{arith}
use mathlib.Core.Path.{sym, subst}
use Rattle.driver_undo.specs.Undos.{undone}
use Rattle.driver_undo.specs.Internal.{turned, UndoReady}
use Rattle.driver_undo.proofs.UndoLaws.{undo_after}
use Rattle.driver_undo.proofs.TurnLaws.{turn_marked, turn_undone, turn_final, turn_flushed}
use Rattle.driver_undo.proofs.turn.Goals as goal

pub returns-then-standing-mark : goal.returns-then-standing-mark
returns-then-standing-mark c =
    let a = c.args in
    turn_marked a.parents a.mark (turned a.t a.ids.now a.numbers.now a.lengths.now a.spills.now a.staged.now a.table.now a.deleted.now a.entries.now) c.if-standing-mark.true

pub returns-then-code-eq0 : goal.returns-then-code-eq0
returns-then-code-eq0 c =
    let a = c.args in
    turn_undone a.parents a.mark (turned a.t a.ids.now a.numbers.now a.lengths.now a.spills.now a.staged.now a.table.now a.deleted.now a.entries.now) (omega (arith, c.if-standing-mark.false)) _ c.undo_newest-v.ensures c.if-code-eq0.true

pub returns-then-is_final : goal.returns-then-is_final
returns-then-is_final c =
    let a = c.args in
    turn_final a.parents a.mark (turned a.t a.ids.now a.numbers.now a.lengths.now a.spills.now a.staged.now a.table.now a.deleted.now a.entries.now) (omega (arith, c.if-standing-mark.false)) _ c.undo_newest-v.ensures c.is_final.result c.if-code-eq0.false c.is_final.ensures c.if-is_final.true

pub flush_all-w-requires : goal.flush_all-w-requires
flush_all-w-requires c =
    let a = c.args in
    subst (UndoReady a.parents) (sym c.undo_newest-v.ensures) (undo_after a.parents (undone a.t.undone a.ids.now a.numbers.now a.lengths.now a.spills.now a.staged.now a.table.now a.deleted.now a.entries.now) c.requires).ready

pub returns : goal.returns
returns c =
    let a = c.args in
    turn_flushed a.parents a.mark (turned a.t a.ids.now a.numbers.now a.lengths.now a.spills.now a.staged.now a.table.now a.deleted.now a.entries.now) (omega (arith, c.if-standing-mark.false)) _ c.undo_newest-v.ensures c.is_final.result c.if-code-eq0.false c.is_final.ensures c.if-is_final.false _ c.flush_all-w.ensures
