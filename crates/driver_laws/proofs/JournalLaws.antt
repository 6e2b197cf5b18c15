-- What `undo_to` leaves in bytes is the undo to a mark of the standing calls that the journal holds.
use mathlib.Core.Path.{◌≡◌, refl, sym, ap, ◌∙◌, subst}
use mathlib.Core.Bool.{Bool, true, false, cond}
use mathlib.Core.List.{List, ◌∷◌}
use Prim.Native.Nat.{ℕ, zero, suc, ◌<◌}
use native.Mathlib.Omega.{arith}
use borrow.Author.Tests.{leb-false}
use lib.Dec.{eqb, leb}
use lib.ListN.{length}
use Rattle.call_steps.specs.State.{State}
use Rattle.ledger.specs.Calls.{Call}
use Rattle.ledger.specs.Run.{call, undo, flush}
use Rattle.driver_core.specs.Steps.{unmake, flushing, final}
use Rattle.driver_laws.specs.Driver.{Driver, driver, do_step, UndoneTo, undone_to, undo_code, flush_code, undos, then_flush, turns, undo_to}
use Rattle.driver_core.specs.Bytes.{Item, is, takes, bad, cut, end, Journal, newest, popped, call_then, standing}
use Rattle.driver_core.specs.Apply.{Undoing, undoing, undo_newest, flushed, and_on, after_undo, undo_turns, and_flush, undos_flushed, undo_of, driver_ok}
use Rattle.driver_laws.specs.Journal.{IsCall, Whole, UndoRefines}
use Rattle.call_steps.proofs.StepLaws.{chosen}

split : {A B : Type 0} (Q : A → B → Type 0) (b : Bool) {x y : A} {x' y' : B} → (b ≡ true → Q x x') → (b ≡ false → Q y y') → Q (cond b x y) (cond b x' y')
split Q true f g = f refl
split Q false f g = g refl

module _ (parents : ℕ) where
  pub whole_count : (n : ℕ) (j : Journal) → Whole parents n j → j.count ≡ n
  unfolding Whole
  whole_count zero j w = w.1
  whole_count (suc n) j w = w.2

  long : (x : Item) (cs : List Call) → IsCall x → length (call_then x cs) ≡ suc (length cs)
  long (is (call a)) cs c = refl
  long (is undo) cs c = absurd c
  long (is flush) cs c = absurd c
  long (takes t) cs c = absurd c
  long bad cs c = absurd c
  long cut cs c = absurd c
  long end cs c = absurd c

  whole_long : (n : ℕ) (j : Journal) → Whole parents n j → length (standing parents n j) ≡ n
  unfolding Whole standing
  whole_long zero j w = refl
  whole_long (suc n) j w = long (newest parents j) (standing parents n (popped j)) w.0 ∙ ap suc (whole_long n (popped j) w.3)

  -- what is left in bytes is what is left of the list
  pub record Same (u : Undoing) (b : UndoneTo) : Type 0 where
    pub kept : ℕ
    pub whole : Whole parents kept u.kept
    pub left : driver u.now (standing parents kept u.kept) ≡ b.left
    pub code : u.code ≡ b.code

  stays : (s : State) (j : Journal) (m code : ℕ) → Whole parents m j → (cs : List Call) → standing parents m j ≡ cs → Same (undoing s j code) (undone_to (driver s cs) code)
  stays s j m code w cs e = record { kept = m; whole = w; left = ap (driver s) e; code = refl }

  module _ (n mark : ℕ)
      (on : (fresh : Bool) (s : State) (j : Journal) (m : ℕ) → Whole parents m j → Same (undo_turns parents n mark fresh s j) (undos n mark fresh (driver s (standing parents m j)))) where
    -- the same for calls that are equal to those that stand
    onto : (fresh : Bool) (s : State) (j : Journal) (m : ℕ) → Whole parents m j → (cs : List Call) → standing parents m j ≡ cs
        → Same (undo_turns parents n mark fresh s j) (undos n mark fresh (driver s cs))
    onto fresh s j m w cs e = subst (λ (l : List Call). Same (undo_turns parents n mark fresh s j) (undos n mark fresh (driver s l))) e (on fresh s j m w)

    -- one undo: x is what the newest entry says
    undo_same : (fresh : Bool) (s : State) (j : Journal) (k : ℕ) → Whole parents (suc k) j → Whole parents k (popped j) → (x : Item) → IsCall x
        → standing parents (suc k) j ≡ call_then x (standing parents k (popped j))
        → Same (after_undo fresh (undo_turns parents n mark false) (undo_turns parents n mark true) (undo_newest x s j))
        (let d = driver s (call_then x (standing parents k (popped j))) in
        cond (eqb (undo_code d) 0) (undos n mark false (do_step d undo))
        (cond (final fresh (undo_code d)) (undone_to (do_step d undo) (undo_code d))
        (cond (eqb (flush_code (do_step d undo)) 0) (undos n mark true (do_step (do_step d undo) flush)) (undone_to (do_step (do_step d undo) flush) (flush_code (do_step d undo))))))
    undo_same fresh s j k w v (is (call a)) c e = by (eqb (unmake a s).said.code 0)
      where
        by : (b : Bool)
            → Same (cond b (undo_turns parents n mark false (unmake a s).after (cond b (popped j) j))
            (cond (final fresh (unmake a s).said.code) (undoing (unmake a s).after (cond b (popped j) j) (unmake a s).said.code)
            (and_on (undo_turns parents n mark true) (flushed (unmake a s).after (cond b (popped j) j)))))
            (let l = cond b (standing parents k (popped j)) (a ∷ standing parents k (popped j)) in
            let t = (unmake a s).after in
            cond b (undos n mark false (driver t l))
            (cond (final fresh (unmake a s).said.code) (undone_to (driver t l) (unmake a s).said.code)
            (cond (eqb (flushing t).said.code 0) (undos n mark true (driver (flushing t).after l)) (undone_to (driver (flushing t).after l) (flushing t).said.code))))
        by true = on false (unmake a s).after (popped j) k v
        by false =
            let t = (unmake a s).after in
            split Same (final fresh (unmake a s).said.code) (λ _. stays t j (suc k) (unmake a s).said.code w _ e)
            (λ _.
            split Same (eqb (flushing t).said.code 0) (λ _. onto true (flushing t).after j (suc k) w _ e)
            (λ _. stays (flushing t).after j (suc k) (flushing t).said.code w _ e))
    undo_same fresh s j k w v (is undo) c e = absurd c
    undo_same fresh s j k w v (is flush) c e = absurd c
    undo_same fresh s j k w v (takes t) c e = absurd c
    undo_same fresh s j k w v bad c e = absurd c
    undo_same fresh s j k w v cut c e = absurd c
    undo_same fresh s j k w v end c e = absurd c

  -- calls stand, so the newest entry is one
  some_standing : (n mark : ℕ) (fresh : Bool) (s : State) (j : Journal) (m : ℕ) → Whole parents m j → mark < length (standing parents m j)
      → ((fresh : Bool) (s : State) (j : Journal) (m : ℕ) → Whole parents m j → Same (undo_turns parents n mark fresh s j) (undos n mark fresh (driver s (standing parents m j))))
      → Same (after_undo fresh (undo_turns parents n mark false) (undo_turns parents n mark true) (undo_newest (newest parents j) s j))
      (let d = driver s (standing parents m j) in
      cond (eqb (undo_code d) 0) (undos n mark false (do_step d undo))
      (cond (final fresh (undo_code d)) (undone_to (do_step d undo) (undo_code d))
      (cond (eqb (flush_code (do_step d undo)) 0) (undos n mark true (do_step (do_step d undo) flush)) (undone_to (do_step (do_step d undo) flush) (flush_code (do_step d undo))))))
  unfolding Whole standing
  some_standing n mark fresh s j zero w l on = absurd (omega (arith, l))
  some_standing n mark fresh s j (suc k) w l on = undo_same n mark on fresh s j k w w.3 (newest parents j) w.0 refl

  turns_same : (n mark : ℕ) (fresh : Bool) (s : State) (j : Journal) (m : ℕ) → Whole parents m j → Same (undo_turns parents n mark fresh s j) (undos n mark fresh (driver s (standing parents m j)))
  unfolding undo_turns undos
  turns_same zero mark fresh s j m w = stays s j m 0 w _ refl
  turns_same (suc n) mark fresh s j m w =
      let q : j.count ≡ length (standing parents m j) = whole_count m j w ∙ sym (whole_long m j w) in
      let d = driver s (standing parents m j) in
      subst (λ (c : ℕ). Same (cond (leb c mark) (undoing s j 0)
      (after_undo fresh (undo_turns parents n mark false) (undo_turns parents n mark true) (undo_newest (newest parents j) s j))) (undos (suc n) mark fresh d)) (sym q)
      (split Same (leb (length (standing parents m j)) mark) (λ _. stays s j m 0 w _ refl)
      (λ e. some_standing n mark fresh s j m w (leb-false (length (standing parents m j)) mark e) (λ f t i k y. turns_same n mark f t i k y)))

  -- the last flush
  close_same : (u : Undoing) (b : UndoneTo) → Same u b → Same (and_flush u) (then_flush b)
  close_same u b x =
      subst (λ (c : ℕ). Same (and_flush u) (cond (eqb c 0) (undone_to (do_step b.left flush) (flush_code b.left)) b)) x.code
      (split Same (eqb u.code 0)
      (λ _.
      subst (λ (d : Driver). Same (flushed u.now u.kept) (undone_to (do_step d flush) (flush_code d))) x.left
      (stays (flushing u.now).after u.kept x.kept (flushing u.now).said.code x.whole _ refl)) (λ _. x))

  undo_of_same : (mark : ℕ) (s : State) (j : Journal) (m : ℕ) → Whole parents m j → driver_ok parents s j ≡ true → Same (undo_of parents mark s j) (undo_to mark (driver s (standing parents m j)))
  unfolding undo_of undo_to
  undo_of_same mark s j m w ok =
      let q : j.count ≡ length (standing parents m j) = whole_count m j w ∙ sym (whole_long m j w) in
      let d = driver s (standing parents m j) in
      subst (λ (u : Undoing). Same u (undo_to mark d)) (chosen _ _ _ ok)
      (subst (λ (c : ℕ). Same (cond (leb c mark) (undoing s j 0) (undos_flushed parents mark c (flushed s j))) (undo_to mark d)) (sym q)
      (split Same (leb (length (standing parents m j)) mark) (λ _. stays s j m 0 w _ refl)
      (λ _.
      split Same (eqb (flushing s).said.code 0)
      (λ _.
      close_same (undo_turns parents (turns d) mark true (flushing s).after j) (undos (turns d) mark true (do_step d flush))
      (turns_same (turns d) mark true (flushing s).after j m w))
      (λ _. stays (flushing s).after j m (flushing s).said.code w _ refl))))

pub undo_refines : UndoRefines
undo_refines parents mark s j ok w =
    let x = undo_of_same parents mark s j j.count w ok in
    let u = undo_of parents mark s j in
    let q : u.kept.count ≡ x.kept = whole_count parents x.kept u.kept x.whole in (
      ap (λ (n : ℕ). driver u.now (standing parents n u.kept)) q ∙ x.left,
      x.code,
      subst (λ (n : ℕ). Whole parents n u.kept) (sym q) x.whole,
    )
