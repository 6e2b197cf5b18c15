-- The example's standing calls keep the history rules, and need one row key at most.
use Rattle.ledger.proofs.TestLaws.{ite_yes, ite_no}
use mathlib.Core.Path.{◌≡◌, refl, sym, ◌∙◌, ap, subst}
use mathlib.Core.Logic.{⊎_elim, ◌≢◌}
use mathlib.Core.List.Memᴰ
use mathlib.Core.List.{List, [], ◌∷◌, ◌++◌, map, Memᴰ}
use Prim.Native.Nat.{ℕ, zero, suc, ◌*◌, ◌≤◌, ◌<◌}
use native.Mathlib.Decide.{ℕ_discrete}
use native.Mathlib.Omega.{arith}
use lib.IntN.{ℤ, pos, negsuc, nat_abs}
use lib.ListN.{length, length-append}
use Rattle.ledger.specs.Ledger.{Series, boxes, series_dec, Call, absℤ, ledger_numbers, ledger_spent, BoxRule}
use Rattle.ledger.specs.Run.{negs, negated_at}
use Rattle.history.specs.Example.{append_box, up_to, numbers_to}

-- calls of box appends to parent 0: how many numbers there are, and one that none is above
pub record Plain (count top : ℕ) (cs : List Call) : Type 0 where
  pub many : length (ledger_numbers cs (boxes 0)) ≡ count
  pub others : (ch : Series) → boxes 0 ≢ ch → ledger_numbers cs ch ≡ []
  pub below : (m : ℤ) → Memᴰ m (ledger_numbers cs (boxes 0)) → nat_abs m ≤ top
  pub unspent : (n : ℕ) → ledger_spent cs 0 n ≡ 0

pub plain_none : Plain 0 0 []
plain_none = record { many = refl; others = λ ch q. refl; below = λ m t. absurd (Memᴰ.not-nil t); unspent = λ n. refl }

pub numbers_more : (k : ℕ) (cs : List Call) → ledger_numbers (append_box k ∷ cs) (boxes 0) ≡ ledger_numbers cs (boxes 0) ++ (pos k ∷ [])
numbers_more k cs = ite_yes (series_dec (boxes 0) (boxes 0)) (ledger_numbers cs (boxes 0) ++ (pos k ∷ [])) (ledger_numbers cs (boxes 0)) refl

pub plain_append : (n top k : ℕ) (cs : List Call) → Plain n top cs → top ≤ k → Plain (suc n) k (append_box k ∷ cs)
plain_append n top k cs P h = record {
  many = omega (arith, ap length (numbers_more k cs), length-append (ledger_numbers cs (boxes 0)) (pos k ∷ []), P.many);
  others = λ ch q. ite_no (series_dec (boxes 0) ch) (ledger_numbers cs ch ++ (pos k ∷ [])) (ledger_numbers cs ch) q ∙ P.others ch q;
  below = λ m t. ⊎_elim (λ u. omega (arith, P.below m u)) (λ u. let e : nat_abs m ≡ k = ap nat_abs (Memᴰ.eq_of_singleton u) in omega arith)
      (Memᴰ.append_cases (ledger_numbers cs (boxes 0)) (subst (Memᴰ m) (numbers_more k cs) t));
  unspent = P.unspent;
}

pub plain_rule : (n top k : ℕ) (cs : List Call) → Plain n top cs → top ≤ k → BoxRule cs 0 (pos k)
plain_rule n top k cs P h = record { rises = λ m t. omega (arith, P.below m t); unspent = P.unspent k }

pub plain_up_to : (k : ℕ) → Plain k k (up_to k)
unfolding up_to
plain_up_to zero = plain_none
plain_up_to (suc k) = plain_append k k (suc k) (up_to k) (plain_up_to k) (omega arith)

pub numbers_up_to : (k : ℕ) → ledger_numbers (up_to k) (boxes 0) ≡ numbers_to k
unfolding up_to numbers_to
numbers_up_to zero = refl
numbers_up_to (suc k) = numbers_more (suc k) (up_to k) ∙ ap (λ (l : List ℤ). l ++ (pos (suc k) ∷ [])) (numbers_up_to k)

in_more : (j k : ℕ) (l : List ℤ) → j ≤ suc k → (j ≤ k → Memᴰ (pos j) l) → Dec (j ≡ suc k) → Memᴰ (pos j) (l ++ (pos (suc k) ∷ []))
in_more j k l h f (yes e) = Memᴰ.append_right l (Memᴰ.head (ap pos e))
in_more j k l h f (no n) = Memᴰ.append_left (pos (suc k) ∷ []) (f (omega arith))

pub in_numbers_to : (k j : ℕ) → 0 < j → j ≤ k → Memᴰ (pos j) (numbers_to k)
unfolding numbers_to
in_numbers_to zero j p h = absurd (omega arith)
in_numbers_to (suc k) j p h = in_more j k (numbers_to k) h (in_numbers_to k j p) (ℕ_discrete j (suc k))

-- row 0 of parent 0's boxes
abbrev pub FirstRow : Series → ℕ → Type 0
FirstRow ch s = (ch ≡ boxes 0) × (s ≡ 0)

-- the calls need no other row
abbrev pub Within : List Call → Type 0
Within cs = (ch : Series) (s : ℕ) → 512 * suc s < length (ledger_numbers cs ch) → FirstRow ch s

within_by : (n top : ℕ) (cs : List Call) → Plain n top cs → n ≤ 1024 → (ch : Series) (s : ℕ) → 512 * suc s < length (ledger_numbers cs ch) → Dec (boxes 0 ≡ ch) → FirstRow ch s
within_by n top cs P h ch s l (yes e) = (sym e, omega (arith, P.many, ap (λ (x : Series). length (ledger_numbers cs x)) e))
within_by n top cs P h ch s l (no q) = absurd (omega (arith, ap length (P.others ch q)))

pub within : (n top : ℕ) (cs : List Call) → Plain n top cs → n ≤ 1024 → Within cs
within n top cs P h ch s l = within_by n top cs P h ch s l (series_dec (boxes 0) ch)

-- a number of which no entry is the negative is an entry
neg_counted : (m k : ℕ) → suc k ≡ m → negated_at m (negsuc k) ≡ 1
neg_counted m k e = ite_yes (ℕ_discrete (suc k) m) 1 0 e

pub unspent_entry : (m : ℕ) (l : List ℤ) → Memᴰ (pos m) (map absℤ l) → negs m l ≡ 0 → Memᴰ (pos m) l
unspent_entry m [] t z = absurd (Memᴰ.not-nil t)
unspent_entry m (pos k ∷ l) t z = ⊎_elim (λ e. Memᴰ.head e) (λ u. Memᴰ.tail (unspent_entry m l u (omega arith))) (Memᴰ.cases_cons t)
unspent_entry m (negsuc k ∷ l) t z =
    ⊎_elim (λ e. absurd (omega (arith, neg_counted m k (sym (ap nat_abs e))))) (λ u. Memᴰ.tail (unspent_entry m l u (omega arith))) (Memᴰ.cases_cons t)
