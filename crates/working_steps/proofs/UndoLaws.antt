-- An undo to a mark over a working set goes as the one over the table until an undo or a flush ends it by 12 or 22.
use Prim.Native.Nat.{ℕ, zero, suc, ◌*◌, ◌/◌, ◌-◌}
use mathlib.Core.Path.{◌≡◌, refl, ap, ◌∙◌, subst}
use mathlib.Core.Bool.{Bool, true, false, cond}
use lib.Dec.{eqb, ltb}
use Rattle.call_steps.specs.declared.Said.{Said}
use Rattle.call_steps.specs.State.{State}
use Rattle.call_steps.specs.Steps.{Stepping}
use Rattle.ledger.specs.Run.{call, undo, flush}
use Rattle.driver_core.specs.Steps.{unmake, flushing, final}
use Rattle.driver_core.specs.Bytes.{Item, is, takes, bad, cut, end, tokens_told, size_at, Journal, newest, popped}
use Rattle.driver_core.specs.Apply.{Undoing, undoing, undo_newest, flushed, and_on, after_undo, at_mark, undo_turns, and_flush, undos_flushed, undo_of, driver_ok}
use Rattle.working_steps.specs.Beside.{Beside, unmakes, flushes, Outcome, as_table, lacks, full, full_table}
use Rattle.working_steps.specs.Laws.{SameUndo, UndoLaw}
use Rattle.working_steps.proofs.StepLaws.{step_law}
use Rattle.working_steps.proofs.BatchLaws.{split, split_two, ItemOf, headed_of, ok_same}

newest_of : (parents : ℕ) (j : Journal) → ItemOf parents (newest parents j)
unfolding newest
newest_of parents j =
    let h = j.used - 17 in
    split (ItemOf parents) (ltb j.used 17) (λ _. tt)
    (λ _. split (ItemOf parents) (ltb (h / 40) (tokens_told j.bytes h)) (λ _. tt) (λ _. headed_of parents j.bytes h (h / 40) (j.used - size_at j.bytes h) bad tt))

-- ---- where two undos have come
data Undos (parents : ℕ) (x y : Undoing) : Type 0 where
  alike : SameUndo parents x y → Undos parents x y
  lacking : x.code ≡ 12 → Undos parents x y
  filled : x.code ≡ 22 → Undos parents x y
  filled_table : y.code ≡ 22 → Undos parents x y

module _ (parents : ℕ) where
  here : (w t : State) (j : Journal) (code : ℕ) → Beside parents w t → Undos parents (undoing w j code) (undoing t j code)
  here w t j code b = alike (record { beside = b; kept = refl; code = refl })

  -- as far as a step goes, which leaves the journal that its acceptance says
  step_left : (J : Bool → Journal) (w t : State) (x y : Stepping) → Outcome parents w t x y
      → Undos parents (undoing x.after (J (eqb x.said.code 0)) x.said.code) (undoing y.after (J (eqb y.said.code 0)) y.said.code)
  step_left J w t x y (as_table e b) =
      subst (λ (a : Said). Undos parents (undoing x.after (J (eqb x.said.code 0)) x.said.code) (undoing y.after (J (eqb a.code 0)) a.code)) e
      (here x.after y.after (J (eqb x.said.code 0)) x.said.code b)
  step_left J w t x y (lacks e b) = lacking (ap (λ (a : Said). a.code) e)
  step_left J w t x y (full e b) = filled (ap (λ (a : Said). a.code) e)
  step_left J w t x y (full_table e b) = filled_table (ap (λ (a : Said). a.code) e)

  flush_left : (w t : State) (j : Journal) → Beside parents w t → Undos parents (flushed w j) (flushed t j)
  flush_left w t j b = step_left (λ (c : Bool). j) w t (flushing w) (flushing t) (step_law parents flushes tt w t b)

  -- on from an accepted step
  then_on : (f : State → Journal → Undoing) → ((w t : State) (j : Journal) → Beside parents w t → Undos parents (f w j) (f t j))
      → (x y : Undoing) → Undos parents x y → Undos parents (cond (eqb x.code 0) (f x.now x.kept) x) (cond (eqb y.code 0) (f y.now y.kept) y)
  then_on f g x y (alike a) =
      let p : undoing y.now x.kept x.code ≡ y = λ i. undoing y.now (a.kept i) (a.code i) in
      subst (λ (u : Undoing). Undos parents (cond (eqb x.code 0) (f x.now x.kept) x) (cond (eqb u.code 0) (f u.now u.kept) u)) p
      (split_two (Undos parents) (eqb x.code 0) (g x.now y.now x.kept a.beside) (here x.now y.now x.kept x.code a.beside))
  then_on f g x y (lacking e) = lacking (ap (λ (c : ℕ). (cond (eqb c 0) (f x.now x.kept) x).code) e ∙ e)
  then_on f g x y (filled e) = filled (ap (λ (c : ℕ). (cond (eqb c 0) (f x.now x.kept) x).code) e ∙ e)
  then_on f g x y (filled_table e) = filled_table (ap (λ (c : ℕ). (cond (eqb c 0) (f y.now y.kept) y).code) e ∙ e)

  newest_on : (i : Item) → ItemOf parents i → (w t : State) (j : Journal) → Beside parents w t → Undos parents (undo_newest i w j) (undo_newest i t j)
  newest_on (is (call a)) h w t j b = step_left (λ (c : Bool). cond c (popped j) j) w t (unmake a w) (unmake a t) (step_law parents (unmakes a) h w t b)
  newest_on (is undo) h w t j b = here w t j 31 b
  newest_on (is flush) h w t j b = here w t j 31 b
  newest_on (takes k) h w t j b = here w t j 31 b
  newest_on bad h w t j b = here w t j 31 b
  newest_on cut h w t j b = here w t j 31 b
  newest_on end h w t j b = here w t j 31 b

  -- no flush lifts 12 or 22
  final_12 : (fresh : Bool) → final fresh 12 ≡ true
  final_12 true = refl
  final_12 false = refl

  final_22 : (fresh : Bool) → final fresh 22 ≡ true
  final_22 true = refl
  final_22 false = refl

  module _ (n mark : ℕ)
      (on : (fresh : Bool) (w t : State) (j : Journal) → Beside parents w t → Undos parents (undo_turns parents n mark fresh w j) (undo_turns parents n mark fresh t j)) where
    stops : (fresh : Bool) (x : Undoing) (code : ℕ) → eqb code 0 ≡ false → final fresh code ≡ true → x.code ≡ code
        → (after_undo fresh (undo_turns parents n mark false) (undo_turns parents n mark true) x).code ≡ code
    stops fresh x code z f e =
        ap (λ (b : Bool). (cond b (undo_turns parents n mark false x.now x.kept) (cond (final fresh x.code) x (and_on (undo_turns parents n mark true) (flushed x.now x.kept)))).code)
        (ap (λ (c : ℕ). eqb c 0) e ∙ z)
        ∙ ap (λ (b : Bool). (cond b x (and_on (undo_turns parents n mark true) (flushed x.now x.kept))).code) (ap (final fresh) e ∙ f) ∙ e

    undo_on : (fresh : Bool) (x y : Undoing) → Undos parents x y
        → Undos parents (after_undo fresh (undo_turns parents n mark false) (undo_turns parents n mark true) x) (after_undo fresh (undo_turns parents n mark false) (undo_turns parents n mark true) y)
    undo_on fresh x y (alike a) =
        let p : undoing y.now x.kept x.code ≡ y = λ i. undoing y.now (a.kept i) (a.code i) in
        subst (λ (u : Undoing). Undos parents (after_undo fresh (undo_turns parents n mark false) (undo_turns parents n mark true) x) (after_undo fresh (undo_turns parents n mark false) (undo_turns parents n mark true) u)) p
        (split_two (Undos parents) (eqb x.code 0) (on false x.now y.now x.kept a.beside)
        (split_two (Undos parents) (final fresh x.code) (here x.now y.now x.kept x.code a.beside)
        (then_on (undo_turns parents n mark true) (on true) (flushed x.now x.kept) (flushed y.now x.kept) (flush_left x.now y.now x.kept a.beside))))
    undo_on fresh x y (lacking e) = lacking (stops fresh x 12 refl (final_12 fresh) e)
    undo_on fresh x y (filled e) = filled (stops fresh x 22 refl (final_22 fresh) e)
    undo_on fresh x y (filled_table e) = filled_table (stops fresh y 22 refl (final_22 fresh) e)

  turns_on : (n mark : ℕ) (fresh : Bool) (w t : State) (j : Journal) → Beside parents w t → Undos parents (undo_turns parents n mark fresh w j) (undo_turns parents n mark fresh t j)
  unfolding undo_turns
  turns_on zero mark fresh w t j b = here w t j 0 b
  turns_on (suc n) mark fresh w t j b =
      split_two (Undos parents) (at_mark mark j) (here w t j 0 b)
      (undo_on n mark (λ f v u i c. turns_on n mark f v u i c) fresh (undo_newest (newest parents j) w j) (undo_newest (newest parents j) t j)
      (newest_on (newest parents j) (newest_of parents j) w t j b))

  closed : (n mark : ℕ) (w t : State) (j : Journal) → Beside parents w t → Undos parents (and_flush (undo_turns parents n mark true w j)) (and_flush (undo_turns parents n mark true t j))
  closed n mark w t j b = then_on flushed flush_left (undo_turns parents n mark true w j) (undo_turns parents n mark true t j) (turns_on n mark true w t j b)

  both_undone : (mark : ℕ) (w t : State) (j : Journal) → Beside parents w t → Undos parents (undo_of parents mark w j) (undo_of parents mark t j)
  unfolding undo_of
  both_undone mark w t j b =
      subst (λ (ok : Bool). Undos parents (undo_of parents mark w j) (cond ok (cond (at_mark mark j) (undoing t j 0) (undos_flushed parents mark j.count (flushed t j))) (undoing t j 25))) (ok_same parents w t j b)
      (split_two (Undos parents) (driver_ok parents w j)
      (split_two (Undos parents) (at_mark mark j) (here w t j 0 b)
      (then_on (λ (s : State) (i : Journal). and_flush (undo_turns parents (j.count * 2) mark true s i)) (closed (j.count * 2) mark) (flushed w j) (flushed t j) (flush_left w t j b))) (here w t j 25 b))

pub undo_law : UndoLaw
undo_law parents mark w t j b k l m = by (both_undone parents mark w t j b)
  where
    by : Undos parents (undo_of parents mark w j) (undo_of parents mark t j) → SameUndo parents (undo_of parents mark w j) (undo_of parents mark t j)
    by (alike e) = e
    by (lacking e) = absurd (k e)
    by (filled e) = absurd (l e)
    by (filled_table e) = absurd (m e)
