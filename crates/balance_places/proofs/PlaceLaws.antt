-- Places that take what stood there are as they were, and each way out is a case of the definition.
use Prim.Native.Nat.{ℕ, zero, suc, ◌+◌, ◌*◌, ◌≤◌, ◌<◌}
use mathlib.Core.Path.{◌≡◌, refl, sym, ap, ◌∙◌}
use mathlib.Core.List.{List, [], ◌∷◌, ◌++◌, append_assoc}
use native.Mathlib.Omega.{arith}
use lib.IntN.{ℤ, pos}
use lib.ListN.{length, take, drop, set, get_or, take-append-drop, length-take, length-drop}
use lib.Seq.{drop-drop}
use borrow.Rule.Slice.PartMut.{mid_of, put_mid}
use Rattle.stores.specs.Stores.{write}
use Rattle.std.specs.Prelude.{Ok, Err}
use Rattle.balance_tokens.specs.Answers.{Counted}
use Rattle.balance_tokens.specs.Tokens.{Changed, held, refused_by}
use Rattle.balance.specs.declared.Balance.{Balance}
use Rattle.balance.specs.declared.Outcome.{Outcome}
use Rattle.balance.specs.Boxes.{settled}
use Rattle.balance.specs.Boxes as boxes
use Rattle.balance.specs.Parts.{Kept}
use Rattle.call_steps.specs.State.{balance_of}
use Rattle.call_steps.specs.Steps.{accepted, refused, ChangeStep, change_step, changed_by}
use Rattle.balance_places.specs.Internal.{Left, left, placed}

module _ {A : Type 0} where
  put_write : (a k : ℕ) (xs ys : List A) → length ys ≡ k → put_mid a k xs ys ≡ write a ys xs
  unfolding write
  put_write a k xs ys e =
      sym (append_assoc (take a xs) ys (drop (a + length ys) xs)
      ∙ ap (λ (t : List A). take a xs ++ (ys ++ t)) (ap (λ (j : ℕ). drop (a + j) xs) e ∙ sym (drop-drop k a xs)))

  put_same : (a k : ℕ) (xs : List A) → put_mid a k xs (mid_of a k xs) ≡ xs
  put_same a k xs = ap (λ (t : List A). take a xs ++ t) (take-append-drop k (drop a xs)) ∙ take-append-drop a xs

  mid_length : (a k : ℕ) (xs : List A) → a + k ≤ length xs → length (mid_of a k xs) ≡ k
  mid_length a k xs h = simp (length-take, length-drop) (omega arith)

  write_same : (a k : ℕ) (xs : List A) → a + k ≤ length xs → write a (mid_of a k xs) xs ≡ xs
  write_same a k xs h = sym (put_write a k xs (mid_of a k xs) (mid_length a k xs h)) ∙ put_same a k xs

  set_same : (l : List A) (i : ℕ) (z : A) → i < length l → set l i (get_or l i z) ≡ l
  set_same [] i z h = absurd (omega arith)
  set_same (x ∷ l) zero z h = refl
  set_same (x ∷ l) (suc i) z h = ap (λ (t : List A). x ∷ t) (set_same l i z (omega arith))

-- a change of tokens in two parts of two lists
pub kept_placed : (r : Counted) (i a : ℕ) (ids : List ℕ) (numbers : List ℤ) (t' : List ℕ) (s' : List ℤ) (x : Changed) → length t' ≡ 4096 → length s' ≡ 128
    → Kept r (mid_of i 4096 ids) (mid_of a 128 numbers) t' s' x → left r (put_mid i 4096 ids t') (put_mid a 128 numbers s') ≡ placed i a ids numbers x
kept_placed (Ok m) i a ids numbers t' s' x p q e =
    (λ k. left (Ok m) (put_write i 4096 ids t' p k) (put_write a 128 numbers s' q k)) ∙ ap (placed i a ids numbers) e
kept_placed (Err code) i a ids numbers t' s' x p q e =
    (λ k. left (Err code) (put_mid i 4096 ids (e.1 k)) (put_mid a 128 numbers (e.2 k)))
    ∙ (λ k. left (Err code) (put_same i 4096 ids k) (put_same a 128 numbers k))
    ∙ ap (placed i a ids numbers) e.0

module _ (p : ℕ) (ids : List ℕ) (numbers : List ℤ) (lengths : List ℕ) where
  abbrev b : Balance
  b = balance_of p ids numbers lengths

  module _ (ids_in : p * 4128 + 4128 ≤ length ids) (numbers_in : p * 1153 + 1153 ≤ length numbers) (lengths_in : p * 3 + 3 ≤ length lengths) where
    -- a refusal leaves all as it was
    pub unchanged : (code : ℕ) → change_step (refused code) ids numbers lengths ≡ changed_by (boxes.refused code b) p ids numbers lengths
    unchanged code =
        sym (λ k. change_step (refused code) (write_same (p * 4128 + 32) 4096 ids (omega arith) k) (same_numbers k) (set_same lengths (p * 3 + 2) 0 (omega arith) k))
      where
        same_numbers : set (write (p * 1153 + 1024) (mid_of (p * 1153 + 1024) 128 numbers) numbers) (p * 1153 + 1152) (get_or numbers (p * 1153 + 1152) (pos 0)) ≡ numbers
        same_numbers =
            ap (λ (l : List ℤ). set l (p * 1153 + 1152) (get_or numbers (p * 1153 + 1152) (pos 0))) (write_same (p * 1153 + 1024) 128 numbers (omega arith))
            ∙ set_same numbers (p * 1153 + 1152) (pos 0) (omega arith)

    pub token_refused : (code : ℕ) (sum : ℤ) (ids' : List ℕ) (numbers' : List ℤ) (x : Changed)
        → left (Err code) ids' numbers' ≡ placed (p * 4128 + 32) (p * 1153 + 1024) ids numbers x
        → change_step (refused code) ids' numbers' lengths ≡ changed_by (settled b sum x) p ids numbers lengths
    token_refused code sum ids' numbers' (held h) e =
        let c : Err code ≡ Ok h.count = ap (λ (l : Left). l.answer) e in
        let z : ◌≡◌ {A = ℕ} 0 1 = cc in
        absurd (omega arith)
    token_refused code sum ids' numbers' (refused_by k) e =
        let u : ids' ≡ ids = ap (λ (l : Left). l.ids) e in
        let v : numbers' ≡ numbers = ap (λ (l : Left). l.numbers) e in
        let c : Err code ≡ Err k = ap (λ (l : Left). l.answer) e in
        let w : code ≡ k = cc in
        (λ j. change_step (refused (w j)) (u j) (v j) lengths) ∙ unchanged k

  pub tokens_taken : (m : ℕ) (sum : ℤ) (ids' : List ℕ) (numbers' : List ℤ) (x : Changed)
      → left (Ok m) ids' numbers' ≡ placed (p * 4128 + 32) (p * 1153 + 1024) ids numbers x
      → change_step accepted ids' (set numbers' (p * 1153 + 1152) sum) (set lengths (p * 3 + 2) m) ≡ changed_by (settled b sum x) p ids numbers lengths
  tokens_taken m sum ids' numbers' (held h) e =
      let u : ids' ≡ write (p * 4128 + 32) h.ids ids = ap (λ (l : Left). l.ids) e in
      let v : numbers' ≡ write (p * 1153 + 1024) h.amounts numbers = ap (λ (l : Left). l.numbers) e in
      let c : Ok m ≡ Ok h.count = ap (λ (l : Left). l.answer) e in
      let w : m ≡ h.count = cc in
      (λ j. change_step accepted (u j) (set (v j) (p * 1153 + 1152) sum) (set lengths (p * 3 + 2) (w j)))
  tokens_taken m sum ids' numbers' (refused_by k) e =
      let c : Ok m ≡ Err k = ap (λ (l : Left). l.answer) e in
      let z : ◌≡◌ {A = ℕ} 0 1 = cc in
      absurd (omega arith)
