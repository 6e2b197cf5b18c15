-- Tests of equality that compute: of ids, numbers, parents and lists. Nothing here says what a history is.
use Rattle.std.specs.Prelude.{◌≡◌, refl, ℕ, suc, ℤ, pos, negsuc, nat_abs}
use Rattle.std.proofs.Common.{sym, ap, arith}
use mathlib.Core.HLevel.{Discrete}
use mathlib.Core.List.{[], ◌∷◌, nil≢cons, head-eq_of_cons-eq, tail-eq_of_cons-eq}
use Rattle.std.proofs.Math.Decide.{ℕ_discrete}
use Rattle.ledger.specs.Calls.{TokenId, Parent, Series, boxes, txs, parent_of}

-- the first where the test holds, else the second
unfoldable pub ite {ℓ} : {P : Type 0} {A : Type ℓ} → Dec P → A → A → A
ite (yes p) a b = a
ite (no n) a b = b

name_step : {x y : ℕ} {xs ys : TokenId} → Dec (x ≡ y) → Dec (xs ≡ ys) → Dec (◌≡◌ {A = TokenId} (x ∷ xs) (y ∷ ys))
name_step (yes p) (yes q) = yes (λ i. p i ∷ q i)
name_step (yes p) (no n) = no (λ e. n (tail-eq_of_cons-eq e))
name_step (no n) q = no (λ e. n (head-eq_of_cons-eq e))

-- whether two ids are the same; it computes
unfoldable pub id_dec : Discrete TokenId
unfolding name_step ℕ_discrete
id_dec [] [] = yes refl
id_dec [] (y ∷ ys) = no (λ e. nil≢cons e)
id_dec (x ∷ xs) [] = no (λ e. nil≢cons (sym e))
id_dec (x ∷ xs) (y ∷ ys) = name_step (ℕ_discrete x y) (id_dec xs ys)

pos_step : {m n : ℕ} → Dec (m ≡ n) → Dec (pos m ≡ pos n)
pos_step (yes p) = yes (ap pos p)
pos_step (no f) = no (λ q. f (ap nat_abs q))

neg_step : {m n : ℕ} → Dec (m ≡ n) → Dec (negsuc m ≡ negsuc n)
neg_step (yes p) = yes (ap negsuc p)
neg_step {m} {n} (no f) = no (λ q. let z : suc m ≡ suc n = ap nat_abs q in f (omega arith))

unfoldable pub int_dec : Discrete ℤ
unfolding pos_step neg_step ℕ_discrete
int_dec (pos m) (pos n) = pos_step (ℕ_discrete m n)
int_dec (pos m) (negsuc n) = no (λ e. let z : ◌≡◌ {A = ℕ} 0 1 = cc in omega arith)
int_dec (negsuc m) (pos n) = no (λ e. let z : ◌≡◌ {A = ℕ} 0 1 = cc in omega arith)
int_dec (negsuc m) (negsuc n) = neg_step (ℕ_discrete m n)

abbrev pub parent_dec : Discrete Parent
parent_dec = ℕ_discrete

pub boxes_inj : {p q : Parent} → boxes p ≡ boxes q → p ≡ q
boxes_inj e = ap parent_of e

on_boxes : {p q : Parent} → Dec (p ≡ q) → Dec (boxes p ≡ boxes q)
on_boxes (yes e) = yes (ap boxes e)
on_boxes (no n) = no (λ e. n (boxes_inj e))

on_txs : {p q : Parent} → Dec (p ≡ q) → Dec (txs p ≡ txs q)
on_txs (yes e) = yes (ap txs e)
on_txs (no n) = no (λ e. n (ap parent_of e))

pub boxes≢txs : {p q : Parent} → boxes p ≡ txs q → ⊥
boxes≢txs e = let z : ◌≡◌ {A = ℕ} 0 1 = cc in omega arith

unfoldable pub series_dec : Discrete Series
unfolding on_boxes on_txs ℕ_discrete
series_dec (boxes p) (boxes q) = on_boxes (ℕ_discrete p q)
series_dec (boxes p) (txs q) = no (λ e. boxes≢txs e)
series_dec (txs p) (boxes q) = no (λ e. boxes≢txs (sym e))
series_dec (txs p) (txs q) = on_txs (ℕ_discrete p q)
