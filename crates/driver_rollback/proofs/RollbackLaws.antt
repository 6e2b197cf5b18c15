-- The flush at the change, the undos, and the flush behind them.
use Prim.Native.Nat.{ℕ, zero, suc, ◌*◌, ◌≤◌, ◌<◌}
use mathlib.Core.Path.{◌≡◌, refl, sym, ap, ◌∙◌, subst}
use mathlib.Core.Bool.{Bool, true, false, cond}
use lib.Dec.{eqb, leb}
use borrow.Author.Tests.{le-leb, lt-leb, eq-eqb, ne_eqb}
use Rattle.call_steps.specs.State.{State}
use Rattle.driver_core.specs.Steps.{final}
use Rattle.driver_core.specs.Bytes.{Journal, newest}
use Rattle.driver_core.specs.Apply.{Undoing, undoing, flushed, and_on, after_undo, at_mark, undo_turns, and_flush, undos_flushed, driver_ok, undo_of}
use Rattle.driver_batch.proofs.BatchLaws.{driver_ready}
use Rattle.driver_undo.specs.Internal.{undo_at, UndoReady}
use Rattle.driver_undo.proofs.UndoLaws.{undo_after, flush_after}

-- ---- the undos keep what was tested
module _ (parents mark : ℕ) where
  module _ (n : ℕ) (on : (f : Bool) (v : Undoing) → UndoReady parents v → UndoReady parents (undo_turns parents n mark f v.now v.kept)) (fresh : Bool) (u : Undoing) (r : UndoReady parents u) where
    abbrev v : Undoing
    v = undo_at parents u

    by_flush : (b : Bool) → UndoReady parents (cond b (undo_turns parents n mark true (flushed v.now v.kept).now (flushed v.now v.kept).kept) (flushed v.now v.kept))
    by_flush true = on true (flushed v.now v.kept) (flush_after parents v (undo_after parents u r).ready)
    by_flush false = flush_after parents v (undo_after parents u r).ready

    by_final : (b : Bool) → UndoReady parents (cond b v (and_on (undo_turns parents n mark true) (flushed v.now v.kept)))
    by_final true = (undo_after parents u r).ready
    by_final false = by_flush (eqb (flushed v.now v.kept).code 0)

    by_code : (b : Bool) → UndoReady parents (cond b (undo_turns parents n mark false v.now v.kept) (cond (final fresh v.code) v (and_on (undo_turns parents n mark true) (flushed v.now v.kept))))
    by_code true = on false v (undo_after parents u r).ready
    by_code false = by_final (final fresh v.code)

    step_ready : (b : Bool) → UndoReady parents (cond b (undoing u.now u.kept 0) (after_undo fresh (undo_turns parents n mark false) (undo_turns parents n mark true) v))
    step_ready true = record { ready = r.ready; used_in = r.used_in }
    step_ready false = by_code (eqb v.code 0)

  pub turns_ready : (n : ℕ) (fresh : Bool) (u : Undoing) → UndoReady parents u → UndoReady parents (undo_turns parents n mark fresh u.now u.kept)
  unfolding undo_turns
  turns_ready zero fresh u r = record { ready = r.ready; used_in = r.used_in }
  turns_ready (suc n) fresh u r = step_ready n (λ f v k. turns_ready n f v k) fresh u r (at_mark mark u.kept)

  -- ---- what the code has done: f is what the flush left, v what the undos left, w what the last flush left
  module _ (count : ℕ) (f : Undoing) (g : Undoing) (q : f ≡ g) where
    abbrev either_way : Bool → Undoing
    either_way b = cond b (and_flush (undo_turns parents (count * 2) mark true f.now f.kept)) f

    pub flush_refused : (f.code ≡ 0 → ⊥) → f ≡ undos_flushed parents mark count g
    flush_refused h = sym (ap either_way (ne_eqb f.code 0 h)) ∙ ap (undos_flushed parents mark count) q

    module _ (z : f.code ≡ 0) (v : Undoing) (m : v ≡ undo_turns parents (f.kept.count * 2) mark true f.now f.kept) (c : f.kept.count ≡ count) where
      turns : v ≡ undo_turns parents (count * 2) mark true f.now f.kept
      turns = m ∙ ap (λ (k : ℕ). undo_turns parents (k * 2) mark true f.now f.kept) c

      whole : and_flush v ≡ undos_flushed parents mark count g
      whole = ap and_flush turns ∙ sym (ap either_way (eq-eqb f.code 0 z)) ∙ ap (undos_flushed parents mark count) q

      abbrev and_flushed : Bool → Undoing
      and_flushed b = cond b (flushed v.now v.kept) v

      pub undos_refused : (v.code ≡ 0 → ⊥) → v ≡ undos_flushed parents mark count g
      undos_refused h = sym (ap and_flushed (ne_eqb v.code 0 h)) ∙ whole

      pub undos_done : v.code ≡ 0 → (w : Undoing) → w ≡ flushed v.now v.kept → w ≡ undos_flushed parents mark count g
      undos_done e w p = p ∙ sym (ap and_flushed (eq-eqb v.code 0 e)) ∙ whole

  -- ---- refusal 25, the mark, or the undos
  module _ (s : State) (j : Journal) where
    abbrev told : (b d : Bool) → Undoing
    told b d = cond b (cond d (undoing s j 0) (undos_flushed parents mark j.count (flushed s j))) (undoing s j 25)

    pub undo_ready_when : driver_ok parents s j ≡ true → (code : ℕ) → UndoReady parents (undoing s j code)
    undo_ready_when e code = let t = driver_ready parents s j e in record { ready = t.0; used_in = t.1.used_in }

    pub undo_25 : driver_ok parents s j ≡ false → undoing s j 25 ≡ undo_of parents mark s j
    unfolding undo_of
    undo_25 e = sym (ap (λ (b : Bool). told b (at_mark mark j)) e)

    pub undo_marked : driver_ok parents s j ≡ true → j.count ≤ mark → undoing s j 0 ≡ undo_of parents mark s j
    unfolding undo_of
    undo_marked e m = sym (λ i. told (e i) (le-leb j.count mark m i))

    pub undo_down : driver_ok parents s j ≡ true → mark < j.count → (x : Undoing) → x ≡ undos_flushed parents mark j.count (flushed s j) → x ≡ undo_of parents mark s j
    unfolding undo_of
    undo_down e m x q = q ∙ sym (λ i. told (e i) (lt-leb j.count mark m i))
