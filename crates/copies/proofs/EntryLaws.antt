-- Lists of entries with equal numbers and equal spent copies: equal figures; in order, equal entries above 0; and equal entries where no number stands twice.
use Rattle.ledger.proofs.TestLaws.{ite_yes, ite_no}
use mathlib.Core.Path.{◌≡◌, refl, sym, ◌∙◌, ap, subst}
use mathlib.Core.Logic.{⊎_elim}
use mathlib.Core.List.Memᴰ
use mathlib.Core.List.{List, [], ◌∷◌, map, reverse, Memᴰ, head-eq_of_cons-eq, tail-eq_of_cons-eq, nil≢cons}
use Prim.Native.Nat.{ℕ, zero, suc, ◌+◌, ◌≤◌, ◌<◌}
use native.Mathlib.Decide.{ℕ_discrete}
use native.Mathlib.Omega.{arith}
use lib.IntN.{ℤ, pos, negsuc, nat_abs}
use lib.ListN.{length, length-map}
use Rattle.signed.specs.Sign.{is_negative}
use Rattle.entries.specs.Tally.{is_zero, is_above, how_many, figures}
use Rattle.entries.specs.Unspent.{only_above, unspent_newest_first}
use Rattle.entries.proofs.TallyLaws.{adds_up, tally_is}
use Rattle.ledger.specs.Ledger.{absℤ}
use Rattle.ledger.specs.Run.{negated_at, negs}
use Rattle.fork_model.proofs.EntryLaws.{Sorted}
use Rattle.flat_history.proofs.CountLaws.{positive_at, positives, both, pos_mem, mem_pos}
use Rattle.copies.specs.Copies.{NoneTwice}

-- two lists with as many spent copies of each number
abbrev pub SameCopies : List ℤ → List ℤ → Type 0
SameCopies l m = (n : ℕ) → 0 < n → negs n l ≡ negs n m

-- ---- the entries above 0
abbrev AllAbove : List ℤ → Type 0
AllAbove [] = Unit {0}
AllAbove (pos zero ∷ l) = ⊥
AllAbove (pos (suc k) ∷ l) = AllAbove l
AllAbove (negsuc k ∷ l) = ⊥

all_above : (l : List ℤ) → AllAbove (only_above l)
unfolding only_above
all_above [] = tt
all_above (pos zero ∷ l) = all_above l
all_above (pos (suc k) ∷ l) = all_above l
all_above (negsuc k ∷ l) = all_above l

positives_above : (n : ℕ) (l : List ℤ) → 0 < n → positives n (only_above l) ≡ positives n l
unfolding only_above
positives_above n [] h = refl
positives_above n (pos zero ∷ l) h = omega (arith, positives_above n l h, ite_no {A = ℕ} (ℕ_discrete 0 n) 1 0 (λ e. omega arith))
positives_above n (pos (suc k) ∷ l) h = ap (λ m. positive_at n (pos (suc k)) + m) (positives_above n l h)
positives_above n (negsuc k ∷ l) h = omega (arith, positives_above n l h)

from_above : (x : ℤ) (l : List ℤ) → Memᴰ x (only_above l) → Memᴰ x l
unfolding only_above
from_above x [] t = t
from_above x (pos zero ∷ l) t = Memᴰ.tail (from_above x l t)
from_above x (pos (suc k) ∷ l) t = ⊎_elim (λ e. Memᴰ.head e) (λ u. Memᴰ.tail (from_above x l u)) (Memᴰ.cases_cons t)
from_above x (negsuc k ∷ l) t = Memᴰ.tail (from_above x l t)

sorted_above : (l : List ℤ) → Sorted l → Sorted (only_above l)
unfolding only_above
sorted_above [] s = tt
sorted_above (pos zero ∷ l) s = sorted_above l s.1
sorted_above (pos (suc k) ∷ l) s = ((λ m t. s.0 m (from_above m l t)), sorted_above l s.1)
sorted_above (negsuc k ∷ l) s = sorted_above l s.1

-- the first of a sorted list is the smallest
first_least : (n : ℕ) (y : ℤ) (b : List ℤ) → Sorted (y ∷ b) → 0 < positives n (y ∷ b) → nat_abs y ≤ n
first_least n y b s h =
    ⊎_elim (λ e. omega (arith, ap nat_abs e)) (λ t. s.0 (pos n) t) (Memᴰ.cases_cons (pos_mem n (y ∷ b) h))

-- two sorted lists of numbers above 0, with as many copies of each
same_sorted : (a b : List ℤ) → AllAbove a → AllAbove b → Sorted a → Sorted b → ((n : ℕ) → 0 < n → positives n a ≡ positives n b) → a ≡ b
same_sorted [] [] p q s t h = refl
same_sorted [] (pos zero ∷ b) p q s t h = absurd q
same_sorted [] (pos (suc k) ∷ b) p q s t h = absurd (omega (arith, h (suc k) (omega arith), mem_pos (suc k) (pos (suc k) ∷ b) (Memᴰ.head refl)))
same_sorted [] (negsuc k ∷ b) p q s t h = absurd q
same_sorted (pos zero ∷ a) b p q s t h = absurd p
same_sorted (negsuc j ∷ a) b p q s t h = absurd p
same_sorted (pos (suc j) ∷ a) [] p q s t h = absurd (omega (arith, h (suc j) (omega arith), mem_pos (suc j) (pos (suc j) ∷ a) (Memᴰ.head refl)))
same_sorted (pos (suc j) ∷ a) (pos zero ∷ b) p q s t h = absurd q
same_sorted (pos (suc j) ∷ a) (negsuc k ∷ b) p q s t h = absurd q
same_sorted (pos (suc j) ∷ a) (pos (suc k) ∷ b) p q s t h =
    let here = mem_pos (suc j) (pos (suc j) ∷ a) (Memᴰ.head refl) in
    let there = mem_pos (suc k) (pos (suc k) ∷ b) (Memᴰ.head refl) in
    let below : suc k ≤ suc j = first_least (suc j) (pos (suc k)) b t (subst (λ (n : ℕ). 0 < n) (h (suc j) (omega arith)) here) in
    let above : suc j ≤ suc k = first_least (suc k) (pos (suc j)) a s (subst (λ (n : ℕ). 0 < n) (sym (h (suc k) (omega arith))) there) in
    let e : j ≡ k = omega arith in
    let first : pos (suc j) ≡ pos (suc k) = ap (λ (n : ℕ). pos (suc n)) e in
    let rest = same_sorted a b p q s.1 t.1 (λ n g. omega (arith, h n g, ap (positive_at n) first)) in
    λ i. first i ∷ rest i

-- ---- the figures
how_many_above : (l : List ℤ) → how_many is_above l ≡ length (only_above l)
unfolding how_many only_above
how_many_above [] = refl
how_many_above (pos zero ∷ l) = omega (arith, how_many_above l)
how_many_above (pos (suc k) ∷ l) = omega (arith, how_many_above l)
how_many_above (negsuc k ∷ l) = omega (arith, how_many_above l)

zeros_abs : (l : List ℤ) → how_many is_zero (map absℤ l) ≡ how_many is_zero l
unfolding how_many
zeros_abs [] = refl
zeros_abs (pos zero ∷ l) = omega (arith, zeros_abs l)
zeros_abs (pos (suc k) ∷ l) = omega (arith, zeros_abs l)
zeros_abs (negsuc k ∷ l) = omega (arith, zeros_abs l)

-- ---- two lists in order
module _ (l m : List ℤ) (e : map absℤ l ≡ map absℤ m) (h : SameCopies l m) (s : Sorted l) (t : Sorted m) where
  same_above : only_above l ≡ only_above m
  same_above =
      same_sorted (only_above l) (only_above m) (all_above l) (all_above m) (sorted_above l s) (sorted_above m t)
      (λ n g. omega (arith, positives_above n l g, positives_above n m g, both n l g, both n m g, ap (positives n) e, h n g))

  pub same_unspent : unspent_newest_first l ≡ unspent_newest_first m
  unfolding unspent_newest_first
  same_unspent = ap reverse same_above

  pub same_figures : figures l ≡ figures m
  same_figures =
      let u : how_many is_above l ≡ how_many is_above m = how_many_above l ∙ ap length same_above ∙ sym (how_many_above m) in
      let z : how_many is_zero l ≡ how_many is_zero m = sym (zeros_abs l) ∙ ap (how_many is_zero) e ∙ zeros_abs m in
      let n : how_many is_negative l ≡ how_many is_negative m
      = omega (arith, u, z, adds_up l, adds_up m, ap length e, length-map l absℤ, length-map m absℤ) in
      tally_is u n z

-- ---- where no number stands twice
own_negative : (k : ℕ) → negated_at (suc k) (negsuc k) ≡ 1
own_negative k = ite_yes {A = ℕ} (ℕ_discrete (suc k) (suc k)) 1 0 refl

none_there : (k : ℕ) (l : List ℤ) → (Memᴰ (pos (suc k)) (map absℤ l) → ⊥) → negs (suc k) l ≡ 0
none_there k [] h = refl
none_there k (pos m ∷ l) h = omega (arith, none_there k l (λ t. h (Memᴰ.tail t)))
none_there k (negsuc j ∷ l) h =
    let z : negated_at (suc k) (negsuc j) ≡ 0 = ite_no {A = ℕ} (ℕ_discrete (suc j) (suc k)) 1 0 (λ e. h (Memᴰ.head (ap pos (sym e)))) in
    omega (arith, none_there k l (λ t. h (Memᴰ.tail t)), z)

one_entry : (x y : ℤ) (l m : List ℤ) → absℤ x ≡ absℤ y → (0 < nat_abs x → Memᴰ (absℤ x) (map absℤ l) → ⊥) → map absℤ l ≡ map absℤ m → SameCopies (x ∷ l) (y ∷ m) → x ≡ y
one_entry (pos a) (pos b) l m e f g h = e
one_entry (negsuc a) (negsuc b) l m e f g h = let q : suc a ≡ suc b = ap nat_abs e in let z : a ≡ b = omega arith in ap negsuc z
one_entry (pos a) (negsuc b) l m e f g h =
    let q : a ≡ suc b = ap nat_abs e in
    let u = none_there b l (λ t. f (omega arith) (subst (λ (c : ℤ). Memᴰ c (map absℤ l)) (sym e) t)) in
    absurd (omega (arith, h (suc b) (omega arith), own_negative b, u))
one_entry (negsuc a) (pos b) l m e f g h =
    let u = none_there a m (λ t. f (omega arith) (subst (Memᴰ (pos (suc a))) (sym g) t)) in
    absurd (omega (arith, h (suc a) (omega arith), own_negative a, u))

pub same_entries : (l m : List ℤ) → map absℤ l ≡ map absℤ m → SameCopies l m → NoneTwice (map absℤ l) → l ≡ m
unfolding NoneTwice
same_entries [] [] e h d = refl
same_entries [] (y ∷ m) e h d = absurd (nil≢cons e)
same_entries (x ∷ l) [] e h d = absurd (nil≢cons (sym e))
same_entries (x ∷ l) (y ∷ m) e h d =
    let t = tail-eq_of_cons-eq e in
    let q : x ≡ y = one_entry x y l m (head-eq_of_cons-eq e) d.0 t h in
    let r = same_entries l m t (λ n p. omega (arith, h n p, ap (negated_at n) q)) d.1 in
    λ i. q i ∷ r i
