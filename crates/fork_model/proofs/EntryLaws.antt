-- Lists of entries: their numbers, how many are spent, their order, and what a flip of one entry changes.
use Rattle.ledger.proofs.TestLaws.{ite_no}
use mathlib.Core.Path.{◌≡◌, refl, sym, ◌∙◌, ap, subst}
use mathlib.Core.Logic.{⊎_elim}
use mathlib.Core.List.Memᴰ
use mathlib.Core.List.{List, [], ◌∷◌, ◌++◌, map, Memᴰ}
use Prim.Native.Nat.{ℕ, zero, suc, ◌+◌, ◌≤◌, ◌<◌}
use native.Mathlib.Decide.{ℕ_discrete}
use native.Mathlib.Omega.{arith}
use lib.IntN.{ℤ, pos, negsuc, neg_ℤ, nat_abs}
use Rattle.ledger.specs.Ledger.{Parent, Series, boxes, txs, series_dec, ite, Call, append, spend, credit, debit, absℤ, ledger_numbers, Rule, Rules}
use Rattle.ledger.specs.Decide.{boxes≢txs}
use Rattle.ledger.specs.Run.{negated_at, negs}

pub map_append : (f : ℤ → ℤ) (a b : List ℤ) → map f (a ++ b) ≡ map f a ++ map f b
map_append f [] b = refl
map_append f (x ∷ a) b = ap (λ l. f x ∷ l) (map_append f a b)

pub negs_append : (n : ℕ) (a b : List ℤ) → negs n (a ++ b) ≡ negs n a + negs n b
negs_append n [] b = omega arith
negs_append n (x ∷ a) b = omega (arith, negs_append n a b)

-- one unspent copy of m in l becomes a spent one in l' (0 stays 0)
pub record Flip (m : ℕ) (l l' : List ℤ) : Type 0 where
  pub front : List ℤ
  pub back : List ℤ
  pub was : l ≡ front ++ pos m ∷ back
  pub is : l' ≡ front ++ neg_ℤ (pos m) ∷ back

abs_neg : (m : ℕ) → absℤ (neg_ℤ (pos m)) ≡ pos m
abs_neg zero = refl
abs_neg (suc m) = refl

pub flip_abs : {m : ℕ} {l l' : List ℤ} → Flip m l l' → map absℤ l ≡ map absℤ l'
flip_abs {m} f = rw (f.was, f.is, map_append, map_append, abs_neg)

neg_at : (n m : ℕ) → 0 < n → negated_at n (neg_ℤ (pos m)) ≡ ite (ℕ_discrete m n) 1 0
neg_at n zero h = sym (ite_no (ℕ_discrete 0 n) 1 0 (λ e. omega arith))
neg_at n (suc m) h = refl

ite_suc : {P : Type 0} (d : Dec P) (a b k : ℕ) → a + (ite d 1 0 + b) ≡ ite d (suc (a + (0 + b))) (a + (0 + b))
unfolding ite
ite_suc (yes p) a b k = omega arith
ite_suc (no q) a b k = omega arith

pub flip_negs : {m : ℕ} {l l' : List ℤ} → Flip m l l' → (n : ℕ) → 0 < n → negs n l' ≡ ite (ℕ_discrete m n) (suc (negs n l)) (negs n l)
flip_negs {m} {l} {l'} f n h =
    ap (negs n) f.is ∙ negs_append n f.front (neg_ℤ (pos m) ∷ f.back) ∙ ap (λ x. negs n f.front + (x + negs n f.back)) (neg_at n m h)
    ∙ ite_suc (ℕ_discrete m n) (negs n f.front) (negs n f.back) 0
    ∙ ap (λ x. ite (ℕ_discrete m n) (suc x) x) (sym (ap (negs n) f.was ∙ negs_append n f.front (pos m ∷ f.back)))

pub mem_mid : (a : List ℤ) (x : ℤ) (b : List ℤ) → Memᴰ x (a ++ x ∷ b)
mem_mid [] x b = Memᴰ.head refl
mem_mid (y ∷ a) x b = Memᴰ.tail (mem_mid a x b)

pub mem_map : (l : List ℤ) (x : ℤ) → Memᴰ x l → Memᴰ (absℤ x) (map absℤ l)
mem_map [] x h = absurd (Memᴰ.not-nil h)
mem_map (y ∷ l) x h = ⊎_elim (λ e. Memᴰ.head (ap absℤ e)) (λ t. Memᴰ.tail (mem_map l x t)) (Memᴰ.cases_cons h)

-- in ascending order of absolute values
abbrev pub Sorted : List ℤ → Type 0
Sorted [] = Unit {0}
Sorted (x ∷ l) = ((m : ℤ) → Memᴰ m l → nat_abs x ≤ nat_abs m) × Sorted l

sorted_snoc : (l : List ℤ) (n : ℤ) → Sorted l → ((m : ℤ) → Memᴰ m l → nat_abs m ≤ nat_abs n) → Sorted (l ++ (n ∷ []))
sorted_snoc [] n s h = ((λ m t. absurd (Memᴰ.not-nil t)), tt)
sorted_snoc (x ∷ l) n s h = (
  (λ m t. ⊎_elim (λ u. s.0 m u) (λ u. let e : m ≡ n = Memᴰ.eq_of_singleton u in rw e (h x (Memᴰ.head refl))) (Memᴰ.append_cases l t)),
  sorted_snoc l n s.1 (λ m t. h m (Memᴰ.tail t)),
)

-- the rules keep the ledger's box numbers sorted
sorted_ite : {d e : Series} (w : Dec (d ≡ e)) (l : List ℤ) (n : ℤ) → Sorted l → (d ≡ e → (m : ℤ) → Memᴰ m l → nat_abs m ≤ nat_abs n) → Sorted (ite w (l ++ (n ∷ [])) l)
unfolding ite
sorted_ite (yes p) l n s h = sorted_snoc l n s (h p)
sorted_ite (no q) l n s h = s

sorted_app : (d : Series) (n : ℤ) (cs : List Call) (p : Parent) → Rule (append d n) cs → Sorted (ledger_numbers cs (boxes p)) → Sorted (ledger_numbers (append d n ∷ cs) (boxes p))
sorted_app (boxes q) n cs p r s = sorted_ite (series_dec (boxes q) (boxes p)) (ledger_numbers cs (boxes p)) n s
    (λ e m t. r.rises m (subst (λ (ch : Series). Memᴰ m (ledger_numbers cs ch)) (sym e) t))
sorted_app (txs q) n cs p r s = sorted_ite (series_dec (txs q) (boxes p)) (ledger_numbers cs (boxes p)) n s (λ e. absurd (boxes≢txs (sym e)))

pub sorted_nums : (cs : List Call) (p : Parent) → Rules cs → Sorted (ledger_numbers cs (boxes p))
sorted_nums [] p r = tt
sorted_nums (append d n ∷ cs) p r = sorted_app d n cs p r.0 (sorted_nums cs p r.1)
sorted_nums (spend q t ∷ cs) p r = sorted_nums cs p r.1
sorted_nums (credit q m ts ∷ cs) p r = sorted_nums cs p r.1
sorted_nums (debit q m ts ∷ cs) p r = sorted_nums cs p r.1

-- a spent copy that is counted is there
neg_ite : (n k : ℕ) (w : Dec (suc k ≡ suc n)) → 0 < ite w 1 0 → negsuc k ≡ negsuc n
unfolding ite
neg_ite n k (yes e) t = let q : k ≡ n = omega arith in ap negsuc q
neg_ite n k (no q) t = absurd (omega arith)

neg_here : (n : ℕ) (e : ℤ) → 0 < negated_at (suc n) e → e ≡ negsuc n
neg_here n (pos m) h = absurd (omega arith)
neg_here n (negsuc k) h = neg_ite n k (ℕ_discrete (suc k) (suc n)) h

neg_cons : (n : ℕ) (e : ℤ) (l : List ℤ) (k : ℕ) → negated_at (suc n) e ≡ k → 0 < k + negs (suc n) l → (0 < negs (suc n) l → Memᴰ (negsuc n) l) → Memᴰ (negsuc n) (e ∷ l)
neg_cons n e l zero q h ih = Memᴰ.tail (ih (omega arith))
neg_cons n e l (suc k) q h ih = Memᴰ.head (sym (neg_here n e (omega arith)))

pub neg_mem : (n : ℕ) (l : List ℤ) → 0 < negs (suc n) l → Memᴰ (negsuc n) l
neg_mem n [] h = absurd (omega arith)
neg_mem n (e ∷ l) h = neg_cons n e l (negated_at (suc n) e) refl h (λ t. neg_mem n l t)
