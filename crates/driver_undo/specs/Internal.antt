-- What the functions of `driver_undo` ask of each other: a turn of the undos.
use Rattle.std.specs.Prelude.{ℕ, ◌≤◌, Bool, true, false, cond, List, eqb, ℤ, length}
use Rattle.call_steps.specs.State.{State, Ready}
use Rattle.driver_core.specs.Steps.{final}
use Rattle.driver_core.specs.Bytes.{Journal, newest}
use Rattle.driver_core.specs.Apply.{Undoing, undoing, undo_newest, flushed, at_mark}
use Rattle.driver_undo.specs.declared.Turned.{Turned}
use Rattle.driver_undo.specs.Undos.{undone}

-- what a turn leaves, whether a flush came last, and whether the undos go on
pub record Turning : Type 0 where
  pub left : Undoing
  pub fresh : Bool
  pub on : Bool

abbrev pub turning : Undoing → (fresh on : Bool) → Turning
turning u fresh on = record { left = u; fresh = fresh; on = on }

abbrev pub turned : Turned → (ids : List ℕ) → (numbers : List ℤ) → (lengths : List ℕ) → (spills : List ℤ) → (staged table deleted entries : List ℕ) → Turning
turned t ids numbers lengths spills staged table deleted entries = turning (undone t.undone ids numbers lengths spills staged table deleted entries) t.fresh t.on

-- after the flush: on where it was accepted
abbrev pub after_flush : Undoing → Turning
after_flush v = turning v true (eqb v.code 0)

-- after an undo: on where it was accepted, else after a flush where that may lift its refusal
abbrev pub after : (fresh : Bool) → Undoing → Turning
after fresh u = cond (eqb u.code 0) (turning u false true) (cond (final fresh u.code) (turning u fresh false) (after_flush (flushed u.now u.kept)))

abbrev pub undo_at : (parents : ℕ) → Undoing → Undoing
undo_at parents u = undo_newest (newest parents u.kept) u.now u.kept

unfoldable pub turn_of : (parents mark : ℕ) → Turning → Turning
turn_of parents mark t =
    cond (at_mark mark t.left.kept) (turning (undoing t.left.now t.left.kept 0) t.fresh false) (after t.fresh (undo_at parents t.left))

-- what an undo asks once 25 is tested
pub record UndoReady (parents : ℕ) (u : Undoing) : Type 0 where
  pub ready : Ready parents u.now
  pub used_in : u.kept.used ≤ length u.kept.bytes
