-- Laws of `sets` and `Put`: writers one after the other.
use Prim.Native.Nat.{ℕ, suc, ◌+◌, ◌≤◌}
use mathlib.Core.Path.{◌≡◌, refl, sym, ap, ◌∙◌}
use mathlib.Core.List.{List, [], ◌∷◌, ◌++◌}
use native.Mathlib.Omega.{arith}
use native.Mathlib.Nat.{zero-add}
use native.Mathlib.Numerals.{add-one}
use lib.ListN.{length, take, drop, set, length-append}
use lib.Seq.{sets, sets-eq, length-sets, take_at}
use Rattle.stores.specs.Stores.{write, Put}
use Rattle.stores.proofs.StoreLaws.{sets_write}

module _ {A : Type 0} where
  pub sets_append : (l : List A) (at : ℕ) (a b : List A) → sets l at (a ++ b) ≡ sets (sets l at a) (at + length a) b
  sets_append l at [] b = ap (λ (n : ℕ). sets l n b) (omega arith)
  sets_append l at (x ∷ a) b = sets_append (set l at x) (suc at) a b ∙ ap (λ (n : ℕ). sets (sets (set l at x) (suc at) a) n b) (omega arith)

  -- a run of stores from place 0 on
  pub sets_front : (s l : List A) → length s ≤ length l → sets l 0 s ≡ s ++ drop (length s) l
  sets_front s l h = sets-eq s l 0 (rw zero-add h) ∙ ap (λ (n : ℕ). s ++ drop n l) (zero-add (length s))

  -- a and then b is a ++ b
  pub put_both : (a b l : List A) (at o : ℕ) (l₁ : List A) (r : ℕ) (l₂ : List A) → Put a l at o l₁ → Put b l₁ o r l₂ → Put (a ++ b) l at r l₂
  put_both a b l at o l₁ r l₂ e f = (omega (arith, length-append a b), rw (sets_append l at a b, f.1, e.0, e.1))

  -- room for a ++ b is room for a and then b
  pub room_both : (a b l : List A) (at : ℕ) → at + length (a ++ b) ≤ length l → at + length a + length b ≤ length l
  room_both a b l at h = omega (arith, length-append a b)

  -- the same contents, said in two ways
  pub put_as : {a a' : List A} → a' ≡ a → (l : List A) (at r : ℕ) (l' : List A) → Put a' l at r l' → Put a l at r l'
  put_as q l at r l' e = (e.0 ∙ ap (λ (x : List A). at + length x) q, e.1 ∙ ap (sets l at) q)

  -- one element, then the rest
  pub put_cons : (x : A) (b l : List A) (at r : ℕ) (l' : List A) → Put b (set l at x) (at + 1) r l' → Put (x ∷ b) l at r l'
  put_cons x b l at r l' e = (omega arith, e.1 ∙ ap (λ (n : ℕ). sets (set l at x) n b) (add-one at))

  -- a write is a writer's work
  pub put_write : (s l : List A) (at : ℕ) (l' : List A) → at + length s ≤ length l → l' ≡ write at s l → Put s l at (at + length s) l'
  put_write s l at l' h e = (refl, e ∙ sym (sets_write s l at h))

  -- what was put at the front is the front
  module _ (s l : List A) (r : ℕ) (l' : List A) (e : Put s l 0 r l') (h : length s ≤ length l) where
    pub put_within : r ≤ length l'
    put_within = omega (arith, ap length e.1, length-sets l 0 s)

    pub put_front : take r l' ≡ s
    put_front = rw (e.1, sets_front s l h) (take_at s (drop (length s) l) r (sym (e.0 ∙ zero-add (length s))))
