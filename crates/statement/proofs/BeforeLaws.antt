-- "All other figures are unchanged": but for amounts at an exact half the figure is that of document 01's formula.
use Prim.Native.Nat.{ℕ, suc, ◌+◌, ◌-◌, ◌/◌, ◌%◌, ◌≤◌, ◌<◌}
use mathlib.Core.Path.{◌≡◌, refl, sym, ap, ◌∙◌}
use mathlib.Core.Bool.{Bool, true, false, cond}
use native.Mathlib.Omega.{arith}
use lib.Dec.{ltb}
use lib.IntN.{ℤ, pos, negsuc, nat_abs, neg_ℤ, sub_ℕ, ◌+ℤ◌}
use borrow.Author.Tests.{ltb-true, ltb-false}
use Rattle.statement.specs.Statement.{milli, half, rounded, milli_ergs}
use Rattle.statement.proofs.FigureLaws.{rounded_is}

-- document 01: "milliErgs, floor((n + 500,000) / 1,000,000) for nanoErgs n"; negsuc n is -(n + 1), whose floor by d is -(n / d) - 1
abbrev pub floor_div : ℤ → ℕ → ℤ
floor_div (pos n) d = pos (n / d)
floor_div (negsuc n) d = negsuc (n / d)

unfoldable pub half_up : ℤ → ℤ
half_up n = floor_div (n +ℤ pos 500000) 1000000

neg_of : (a k : ℕ) → a ≡ suc k → neg_ℤ (pos a) ≡ negsuc k
neg_of a k e = ap (λ (n : ℕ). neg_ℤ (pos n)) e

neg_zero : (a : ℕ) → a ≡ 0 → neg_ℤ (pos a) ≡ pos 0
neg_zero a e = ap (λ (n : ℕ). neg_ℤ (pos n)) e

pub as_before : (z : ℤ) → (nat_abs z % milli ≡ half → ⊥) → milli_ergs z ≡ half_up z
unfolding milli_ergs half_up
as_before (pos n) apart =
    let h : n % 1000000 ≡ 500000 → ⊥ = apart in
    ap pos (sym (rounded_is n) ∙ omega arith)
as_before (negsuc n) apart = by_test (ltb 500000 (suc n)) refl
  where
    size : (suc n + 499999 + suc n / 1000000 % 2) / 1000000 ≡ rounded (suc n)
    size = rounded_is (suc n)

    h : suc n % 1000000 ≡ 500000 → ⊥
    h = apart

    by_test : (t : Bool) → ltb 500000 (suc n) ≡ t → neg_ℤ (pos (rounded (suc n))) ≡ floor_div (negsuc n +ℤ pos 500000) 1000000
    by_test true q =
        let l = ltb-true 500000 (suc n) q in
        rw q (neg_of (rounded (suc n)) ((suc n - suc 500000) / 1000000) (sym size ∙ omega (arith, h)))
    by_test false q =
        let l = ltb-false 500000 (suc n) q in
        let none : (500000 - suc n) / 1000000 ≡ 0 = omega arith in
        rw (q, none) (neg_zero (rounded (suc n)) (sym size ∙ omega (arith, h)))
