-- One undo: what the code has done is the definition's, and it keeps what was tested.
use Prim.Native.Nat.{ℕ, ◌+◌, ◌*◌, ◌-◌, ◌≤◌, ◌<◌}
use mathlib.Core.Path.{◌≡◌, refl, sym, ap, ◌∙◌, subst}
use mathlib.Core.Bool.{Bool, true, false, cond}
use mathlib.Core.List.{List}
use native.Mathlib.Omega.{arith}
use lib.Dec.{eqb}
use lib.ListN.{length}
use borrow.Author.Tests.{eq-eqb, ne_eqb, eqb-true, eqb-false}
use Rattle.segment_id.specs.declared.Kind.TheVariants.{Box, Tx}
use Rattle.buffer_core.specs.Edition.{edition_1}
use Rattle.calls.specs.declared.Call.TheVariants.{Flush}
use Rattle.call_steps.specs.State.{State, Ready}
use Rattle.call_steps.specs.Steps.{Stepping, step_of}
use Rattle.call_steps.proofs.KeepLaws.{step_kept}
use Rattle.driver_core.specs.Bytes.{Item, size_at, Journal, journal, popped}
use Rattle.driver_core.specs.Apply.{Undoing, undoing, undone, undo_newest, flushed}
use Rattle.driver_calls.specs.declared.Read.{Read}
use Rattle.driver_calls.specs.declared.Read.TheVariants as read
use Rattle.driver_calls.specs.Reads.{item_of, newest_read, is_call, Sound}
use Rattle.driver_calls.proofs.ReadLaws.{newest_means, newest_sound, newest_fits}
use Rattle.driver_steps.specs.Moves.{move_of, undone_by, MoveReady}
use Rattle.driver_steps.proofs.MoveLaws.{undone_among, move_ready, move_kept}
use Rattle.driver_undo.specs.Internal.{undo_at, UndoReady}

no : {A : Type 0} → true ≡ false → A
no e = let z : ◌≡◌ {A = ℕ} 0 1 = cc in absurd (omega arith)

-- ---- by what was read
module _ (s : State) (j : Journal) where
  none_item : (x : Read) → is_call x ≡ false → undoing s j 31 ≡ undo_newest (item_of j.bytes x) s j
  none_item (read.Append k p n) e = no e
  none_item (read.Spend p n) e = no e
  none_item (read.Unspend p n) e = refl
  none_item (read.Pop k p) e = refl
  none_item read.Flush e = refl
  none_item (read.Change a p n t k) e = no e
  none_item read.Bad e = refl
  none_item read.Cut e = refl
  none_item read.End e = refl

  undone_item : (x : Read) → is_call x ≡ true → undone j (move_of j.bytes (undone_by x) s) ≡ undo_newest (item_of j.bytes x) s j
  undone_item (read.Append Box p n) e = refl
  undone_item (read.Append Tx p n) e = refl
  undone_item (read.Spend p n) e = refl
  undone_item (read.Unspend p n) e = no (sym e)
  undone_item (read.Pop k p) e = no (sym e)
  undone_item read.Flush e = no (sym e)
  undone_item (read.Change true p n t k) e = refl
  undone_item (read.Change false p n t k) e = refl
  undone_item read.Bad e = no (sym e)
  undone_item read.Cut e = no (sym e)
  undone_item read.End e = no (sym e)

module _ (parents : ℕ) (u : Undoing) (x : Read) (q : x ≡ newest_read parents u.kept.bytes u.kept.used) where
  abbrev bytes : List ℕ
  bytes = u.kept.bytes

  abbrev h : ℕ
  h = u.kept.used - 17

  means : undo_newest (item_of bytes x) u.now u.kept ≡ undo_at parents u
  means = ap (λ (i : Item). undo_newest i u.now u.kept) (ap (item_of bytes) q ∙ newest_means parents u.kept)

  pub undo_none : is_call x ≡ false → undoing u.now u.kept 31 ≡ undo_at parents u
  undo_none e = none_item u.now u.kept x e ∙ means

  pub undo_fits : is_call x ≡ true → (17 ≤ u.kept.used) × (size_at bytes h ≤ u.kept.used)
  undo_fits e = newest_fits parents u.kept (ap is_call (sym q) ∙ e)

  among : u.kept.used ≤ length bytes → Sound parents bytes x
  among m = subst (Sound parents bytes) (sym q) (newest_sound parents u.kept m)

  pub undo_asks : UndoReady parents u → MoveReady bytes (undone_by x) u.now
  undo_asks f = move_ready parents bytes u.now f.ready (undone_by x) (undone_among parents bytes x (among f.used_in))

  undo_kept : UndoReady parents u → Ready parents (move_of bytes (undone_by x) u.now).after
  undo_kept f = move_kept parents bytes u.now f.ready (undone_by x) (undone_among parents bytes x (among f.used_in))

  module _ (e : is_call x ≡ true) (y : Stepping) (w : y ≡ move_of bytes (undone_by x) u.now) where
    whole : undone u.kept y ≡ undo_at parents u
    whole = ap (undone u.kept) w ∙ undone_item u.now u.kept x e ∙ means

    -- n is the bytes of the entry
    pub undo_accepted : y.said.code ≡ 0 → (n : ℕ) → n ≡ size_at bytes h
        → undoing y.after (journal bytes (u.kept.used - n) (u.kept.count - 1)) y.said.code ≡ undo_at parents u
    undo_accepted z n m =
        ap (λ (k : ℕ). undoing y.after (journal bytes (u.kept.used - k) (u.kept.count - 1)) y.said.code) m
        ∙ sym (ap (λ (b : Bool). undoing y.after (cond b (popped u.kept) u.kept) y.said.code) (eq-eqb y.said.code 0 z)) ∙ whole

    pub undo_refused : (y.said.code ≡ 0 → ⊥) → undoing y.after u.kept y.said.code ≡ undo_at parents u
    undo_refused f =
        sym (ap (λ (b : Bool). undoing y.after (cond b (popped u.kept) u.kept) y.said.code) (ne_eqb y.said.code 0 f)) ∙ whole

-- ---- what is kept
module _ (parents : ℕ) (u : Undoing) (f : UndoReady parents u) where
  pub record After (o : Undoing) : Type 0 where
    pub ready : UndoReady parents o
    pub fewer : o.code ≡ 0 → o.kept.count ≡ u.kept.count - 1
    pub same : (o.code ≡ 0 → ⊥) → o.kept.count ≡ u.kept.count

  by_code : (y : Stepping) → Ready parents y.after → (b : Bool) → eqb y.said.code 0 ≡ b → After (undoing y.after (cond b (popped u.kept) u.kept) y.said.code)
  by_code y r true e =
      record {
        ready = record { ready = r; used_in = omega (arith, f.used_in) };
        fewer = λ _. refl;
        same = λ g. absurd (g (eqb-true y.said.code 0 e));
      }
  by_code y r false e =
      record {
        ready = record { ready = r; used_in = f.used_in };
        fewer = λ z. absurd (eqb-false y.said.code 0 e z);
        same = λ _. refl;
      }

  by_read : (x : Read) → x ≡ newest_read parents u.kept.bytes u.kept.used → (b : Bool) → is_call x ≡ b → After (undo_at parents u)
  by_read x q true e =
      let y = move_of u.kept.bytes (undone_by x) u.now in
      subst After (undone_item u.now u.kept x e ∙ means parents u x q) (by_code y (undo_kept parents u x q f) (eqb y.said.code 0) refl)
  by_read x q false e =
      subst After (undo_none parents u x q e) (record { ready = record { ready = f.ready; used_in = f.used_in }; fewer = λ z. absurd (omega (arith, z)); same = λ _. refl })

  pub undo_after : After (undo_at parents u)
  undo_after = let x = newest_read parents u.kept.bytes u.kept.used in by_read x refl (is_call x) refl

  -- a flush keeps it too
  pub flush_after : UndoReady parents (flushed u.now u.kept)
  flush_after = record { ready = step_kept parents u.now f.ready Flush tt; used_in = f.used_in }
