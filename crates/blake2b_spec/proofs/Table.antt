-- The message schedule: each of its ten rows is a permutation of 0 to 15. One test that computes, at each of the 160 places:
-- the entry there is below 16, and the number place % 16 stands once in the row place / 16.
use Prim.Native.Nat.{ℕ, suc, ◌+◌, ◌*◌, ◌/◌, ◌%◌, ◌<◌}
use mathlib.Core.Path.{◌≡◌, sym, subst}
use mathlib.Core.Bool.{Bool, ◌&&◌, cond}
use mathlib.Core.List.{List, [], ◌∷◌}
use native.Mathlib.Omega.{arith}
use lib.Dec.{T, ltb, eqb, ltb→lt, eqb→eq}
use lib.ListN.{get_or, take, drop}
use Rattle.blake2b_spec.specs.Blake2b.{sigma}
use Rattle.stores.proofs.TableLaws.{and_left, and_right, at}

-- how often x stands in a list
abbrev pub times : ℕ → List ℕ → ℕ
times x [] = 0
times x (y ∷ ys) = cond (eqb x y) (suc (times x ys)) (times x ys)

abbrev pub row : ℕ → List ℕ
unfolding sigma
row k = take 16 (drop (k * 16) sigma)

right : ℕ → ℕ → Bool
right i e = ltb e 16 && eqb (times (i % 16) (row (i / 16))) 1

holds : (i : ℕ) → i < 160 → T (right i (get_or sigma i 0))
unfolding sigma right
holds i h = at right sigma tt i h

-- every entry names one of the sixteen words
pub below_16 : (i : ℕ) → i < 160 → get_or sigma i 0 < 16
unfolding right
below_16 i h = ltb→lt (get_or sigma i 0) 16 (and_left (ltb (get_or sigma i 0) 16) _ (holds i h))

-- every row holds each of 0 to 15 once
pub once : (k x : ℕ) → k < 10 → x < 16 → times x (row k) ≡ 1
unfolding right
once k x hk hx =
    let i : ℕ = k * 16 + x in
    let q : i / 16 ≡ k = omega arith in
    let r : i % 16 ≡ x = omega arith in
    let e : times (i % 16) (row (i / 16)) ≡ 1 = eqb→eq _ 1 (and_right (ltb (get_or sigma i 0) 16) _ (holds i (omega arith))) in
    subst (λ (n : ℕ). times n (row k) ≡ 1) r (subst (λ (n : ℕ). times (i % 16) (row n) ≡ 1) q e)

-- what a lookup in a copy of the table needs
pub below : (s : List ℕ) (i : ℕ) → (i < 160) × (s ≡ sigma) → get_or s i 0 < 16
below s i h = subst (λ (t : List ℕ). get_or t i 0 < 16) (sym h.1) (below_16 i h.0)
