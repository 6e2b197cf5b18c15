-- The turns of the undos: what is left ends where the whole ends, and the standing calls fall.
use Prim.Native.Nat.{ℕ, zero, suc, ◌+◌, ◌*◌, ◌-◌, ◌≤◌, ◌<◌}
use mathlib.Core.Path.{◌≡◌, refl, sym, ap, ◌∙◌, subst}
use mathlib.Core.Bool.{Bool, true, false, cond, ◌||◌}
use native.Mathlib.Omega.{arith}
use lib.Dec.{eqb, leb}
use lib.ListN.{length}
use borrow.Author.Tests.{le-leb, lt-leb, leb-false, eq-eqb, ne_eqb, eqb-true, eqb-false}
use Rattle.call_steps.specs.State.{State}
use Rattle.driver_core.specs.Steps.{final}
use Rattle.driver_core.specs.Bytes.{Journal, newest}
use Rattle.driver_core.specs.Apply.{Undoing, undoing, undo_newest, flushed, after_undo, at_mark, undo_turns}
use Rattle.driver_undo.specs.Internal.{Turning, turning, after_flush, after, undo_at, turn_of, UndoReady}
use Rattle.driver_undo.proofs.UndoLaws.{After, undo_after, flush_after}

split : {A : Type 0} (Q : A → Type 0) (b : Bool) {x y : A} → (b ≡ true → Q x) → (b ≡ false → Q y) → Q (cond b x y)
split Q true f g = f refl
split Q false f g = g refl

-- the turns that are enough: two for each standing call, one fewer where a flush came last
abbrev pub needed : (fresh : Bool) → (count : ℕ) → ℕ
needed fresh count = count * 2 + cond fresh 0 1

abbrev pub measure : Turning → ℕ
measure t = cond t.on (needed t.fresh t.left.kept.count + 1) 0

module _ (parents mark : ℕ) where
  abbrev pub rest : ℕ → Turning → Undoing
  rest n t = cond t.on (undo_turns parents n mark t.fresh t.left.now t.left.kept) t.left

  -- on after an undo
  after_rest : (n : ℕ) (fresh : Bool) (u : Undoing) → rest n (after fresh u) ≡ after_undo fresh (undo_turns parents n mark false) (undo_turns parents n mark true) u
  after_rest n fresh u = by_code (eqb u.code 0) (final fresh u.code)
    where
      by_code : (b d : Bool)
          → rest n (cond b (turning u false true) (cond d (turning u fresh false) (after_flush (flushed u.now u.kept))))
          ≡ cond b (undo_turns parents n mark false u.now u.kept)
          (cond d u (cond (eqb (flushed u.now u.kept).code 0) (undo_turns parents n mark true (flushed u.now u.kept).now (flushed u.now u.kept).kept) (flushed u.now u.kept)))
      by_code true d = refl
      by_code false true = refl
      by_code false false = refl

  turn_rest : (n : ℕ) (t : Turning) → needed t.fresh t.left.kept.count ≤ n
      → rest (n - 1) (turn_of parents mark t) ≡ undo_turns parents n mark t.fresh t.left.now t.left.kept
  unfolding undo_turns turn_of
  turn_rest zero t m =
      ap (λ (b : Bool). rest 0 (cond b (turning (undoing t.left.now t.left.kept 0) t.fresh false) (after t.fresh (undo_at parents t.left))))
      (le-leb t.left.kept.count mark (omega (arith, m)))
  turn_rest (suc n) t m = ap (λ (k : ℕ). rest k (turn_of parents mark t)) (sub_one n) ∙ by_mark (at_mark mark t.left.kept)
    where
      sub_one : (n : ℕ) → suc n - 1 ≡ n
      sub_one n = omega arith

      by_mark : (b : Bool)
          → rest n (cond b (turning (undoing t.left.now t.left.kept 0) t.fresh false) (after t.fresh (undo_at parents t.left)))
          ≡ cond b (undoing t.left.now t.left.kept 0) (after_undo t.fresh (undo_turns parents n mark false) (undo_turns parents n mark true) (undo_at parents t.left))
      by_mark true = refl
      by_mark false = after_rest n t.fresh (undo_at parents t.left)

  -- ---- what a turn keeps
  module _ (n : ℕ) (t : Turning) (f : UndoReady parents t.left) (on : t.on ≡ true) (m : needed t.fresh t.left.kept.count ≤ n) where
    pub record Turn (o : Turning) : Type 0 where
      pub ready : UndoReady parents o.left
      pub enough : o.on ≡ true → needed o.fresh o.left.kept.count ≤ n - 1
      pub less : measure o < measure t

    not_fresh : (b c : Bool) → b || c ≡ false → b ≡ false
    not_fresh true c e = e
    not_fresh false c e = refl

    size : measure t ≡ needed t.fresh t.left.kept.count + 1
    size = ap (λ (b : Bool). cond b (needed t.fresh t.left.kept.count + 1) 0) on

    stopped : (u : Undoing) (fresh : Bool) → UndoReady parents u → Turn (turning u fresh false)
    stopped u fresh r = record { ready = r; enough = λ e. absurd (no e); less = omega (arith, size) }
      where
        no : false ≡ true → ⊥
        no e = let z : ◌≡◌ {A = ℕ} 0 1 = cc in omega arith

    by_mark : (b : Bool) → at_mark mark t.left.kept ≡ b
        → Turn (cond b (turning (undoing t.left.now t.left.kept 0) t.fresh false) (after t.fresh (undo_at parents t.left)))
    by_mark true e = stopped (undoing t.left.now t.left.kept 0) t.fresh (record { ready = f.ready; used_in = f.used_in })
    by_mark false e =
        let u = undo_at parents t.left in
        let k = undo_after parents t.left f in
        let some : 0 < t.left.kept.count = omega (arith, leb-false t.left.kept.count mark e) in
        split Turn (eqb u.code 0)
        (λ z.
        let c = k.fewer (eqb-true u.code 0 z) in
        record { ready = k.ready; enough = λ _. omega (arith, some, c, m); less = omega (arith, some, c, size) })
        (λ z.
        let c = k.same (eqb-false u.code 0 z) in
        split Turn (final t.fresh u.code) (λ _. stopped u t.fresh k.ready)
        (λ w. flushed_turn u k.ready c (not_fresh t.fresh _ w)))
      where
        flushed_turn : (u : Undoing) → UndoReady parents u → u.kept.count ≡ t.left.kept.count → t.fresh ≡ false → Turn (after_flush (flushed u.now u.kept))
        flushed_turn u r c w =
            let q : needed t.fresh t.left.kept.count ≡ t.left.kept.count * 2 + 1 = ap (λ (b : Bool). needed b t.left.kept.count) w in
            record {
              ready = flush_after parents u r;
              enough = λ _. omega (arith, c, q, m);
              less = at_most (eqb (flushed u.now u.kept).code 0) (omega (arith, c, q, size)) (omega (arith, size));
            }
          where
            at_most : (b : Bool) → u.kept.count * 2 + 0 + 1 < measure t → 0 < measure t → cond b (u.kept.count * 2 + 0 + 1) 0 < measure t
            at_most true h g = h
            at_most false h g = g

    pub turn_keeps : Turn (turn_of parents mark t)
    unfolding turn_of
    turn_keeps = by_mark (at_mark mark t.left.kept) refl

-- ---- the loop
pub record Kept (sizes : Type 0) (parents mark : ℕ) (t : Turning) (o : Undoing) : Type 0 where
  pub same : sizes
  pub ready : UndoReady parents t.left
  pub fuel : ℕ
  pub enough : t.on ≡ true → needed t.fresh t.left.kept.count ≤ fuel
  pub goal : rest parents mark fuel t ≡ o

module _ (sizes : Type 0) (parents mark : ℕ) where
  pub kept_start : (u : Undoing) → sizes → UndoReady parents u → Kept sizes parents mark (turning u true true) (undo_turns parents (u.kept.count * 2) mark true u.now u.kept)
  kept_start u z r = record { same = z; ready = r; fuel = u.kept.count * 2; enough = λ _. omega arith; goal = refl }

  module _ (t : Turning) (o : Undoing) (k : Kept sizes parents mark t o) where
    pub kept_turn : (sizes' : Type 0) (t' : Turning) → t.on ≡ true → sizes' → t' ≡ turn_of parents mark t → Kept sizes' parents mark t' o
    kept_turn sizes' t' e z q =
        let w = subst (Turn parents mark k.fuel t k.ready e (k.enough e)) (sym q) (turn_keeps parents mark k.fuel t k.ready e (k.enough e)) in
        record {
          same = z;
          ready = w.ready;
          fuel = k.fuel - 1;
          enough = w.enough;
          goal = ap (rest parents mark (k.fuel - 1)) q ∙ turn_rest parents mark k.fuel t (k.enough e)
              ∙ sym (ap (λ (b : Bool). cond b (undo_turns parents k.fuel mark t.fresh t.left.now t.left.kept) t.left) e) ∙ k.goal;
        }

    pub kept_less : (t' : Turning) → t.on ≡ true → t' ≡ turn_of parents mark t → measure t' < measure t
    kept_less t' e q =
        subst (λ (x : Turning). measure x < measure t) (sym q) (turn_keeps parents mark k.fuel t k.ready e (k.enough e)).less

    pub kept_end : t.on ≡ false → t.left ≡ o
    kept_end e = sym (ap (λ (b : Bool). cond b (undo_turns parents k.fuel mark t.fresh t.left.now t.left.kept) t.left) e) ∙ k.goal

-- ---- what the code has done is a turn: v is what the undo left, b whether its refusal is final
module _ (parents mark : ℕ) (t : Turning) where
  abbrev by_mark_of : Bool → Turning
  by_mark_of b = cond b (turning (undoing t.left.now t.left.kept 0) t.fresh false) (after t.fresh (undo_at parents t.left))

  pub turn_marked : t.left.kept.count ≤ mark → turning (undoing t.left.now t.left.kept 0) t.fresh false ≡ turn_of parents mark t
  unfolding turn_of
  turn_marked m = sym (ap by_mark_of (le-leb t.left.kept.count mark m))

  module _ (m : mark < t.left.kept.count) (v : Undoing) (q : v ≡ undo_at parents t.left) where
    above : after t.fresh v ≡ turn_of parents mark t
    unfolding turn_of
    above = ap (after t.fresh) q ∙ sym (ap by_mark_of (lt-leb t.left.kept.count mark m))

    abbrev by_code_of : (b d : Bool) → Turning
    by_code_of b d = cond b (turning v false true) (cond d (turning v t.fresh false) (after_flush (flushed v.now v.kept)))

    pub turn_undone : v.code ≡ 0 → turning v false true ≡ turn_of parents mark t
    turn_undone z = sym (ap (λ (b : Bool). by_code_of b (final t.fresh v.code)) (eq-eqb v.code 0 z)) ∙ above

    refused_by : (b : Bool) → (v.code ≡ 0 → ⊥) → b ≡ final t.fresh v.code → by_code_of false b ≡ turn_of parents mark t
    refused_by b f d = ap (by_code_of false) d ∙ sym (ap (λ (x : Bool). by_code_of x (final t.fresh v.code)) (ne_eqb v.code 0 f)) ∙ above

    pub turn_final : (b : Bool) → (v.code ≡ 0 → ⊥) → b ≡ final t.fresh v.code → b ≡ true → turning v t.fresh false ≡ turn_of parents mark t
    turn_final b f d e = sym (ap (by_code_of false) e) ∙ refused_by b f d

    pub turn_flushed : (b : Bool) → (v.code ≡ 0 → ⊥) → b ≡ final t.fresh v.code → b ≡ false → (w : Undoing) → w ≡ flushed v.now v.kept
        → turning w true (eqb w.code 0) ≡ turn_of parents mark t
    turn_flushed b f d e w g = ap after_flush g ∙ sym (ap (by_code_of false) e) ∙ refused_by b f d
