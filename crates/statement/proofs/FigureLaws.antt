-- The figure from the size of an amount, of either sign.
use Prim.Native.Nat.{ℕ, zero, suc, ◌+◌, ◌*◌, ◌/◌, ◌%◌, ◌<◌, ◌≤◌}
use mathlib.Core.Path.{◌≡◌, refl, sym, ap, ◌∙◌}
use mathlib.Core.Bool.{Bool, true, false, cond}
use mathlib.Core.List.{[], ◌∷◌, map}
use native.Mathlib.Omega.{arith}
use lib.Dec.{eqb, ltb}
use lib.IntN.{ℤ, pos, negsuc, nat_abs, neg_ℤ}
use borrow.Author.Tests.{ltb-true, ltb-false, eqb-true, eqb-false}
use mir.Syntax.{w64}
use mir.Val.{SFits, to_z, of_z}
use Rattle.signed.specs.Sign.{is_negative}
use Rattle.signed.proofs.SignedLaws.{back, mag_natAbs}
use Rattle.statement.specs.Statement.{milli, half, neighbour, rounded, milli_ergs}

-- one sum and one quotient give it
pub rounded_is : (m : ℕ) → (m + 499999 + m / 1000000 % 2) / 1000000 ≡ rounded m
unfolding rounded
rounded_is m = by_less (ltb (m % milli) half) refl
  where
    by_half : (t : Bool) → eqb (m % milli) half ≡ t → half ≤ m % milli
        → (m + 499999 + m / 1000000 % 2) / 1000000 ≡ cond t (m / milli + m / milli % 2) (m / milli + 1)
    by_half true e l = let h = eqb-true (m % milli) half e in omega arith
    by_half false e l = let h = eqb-false (m % milli) half e in omega arith

    by_less : (t : Bool) → ltb (m % milli) half ≡ t
        → (m + 499999 + m / 1000000 % 2) / 1000000 ≡ cond t (m / milli) (cond (eqb (m % milli) half) (m / milli + m / milli % 2) (m / milli + 1))
    by_less true e = let h = ltb-true (m % milli) half e in omega arith
    by_less false e = by_half (eqb (m % milli) half) refl (ltb-false (m % milli) half e)

-- above zero, or zero
pub figure_above : (z : ℤ) (m : ℕ) → m ≡ nat_abs z → is_negative z ≡ false → pos ((m + 499999 + m / 1000000 % 2) / 1000000) ≡ milli_ergs z
unfolding milli_ergs
figure_above (pos n) m e h = ap pos (rounded_is m ∙ ap rounded e)
figure_above (negsuc n) m e h = let z : ◌≡◌ {A = ℕ} 0 1 = cc in absurd (omega arith)

-- below zero
pub figure_below : (z : ℤ) (m : ℕ) → m ≡ nat_abs z → is_negative z ≡ true → neg_ℤ (pos ((m + 499999 + m / 1000000 % 2) / 1000000)) ≡ milli_ergs z
unfolding milli_ergs
figure_below (pos n) m e h = let z : ◌≡◌ {A = ℕ} 0 1 = cc in absurd (omega arith)
figure_below (negsuc n) m e h = ap (λ (k : ℕ). neg_ℤ (pos k)) (rounded_is m ∙ ap rounded e)

-- the size of an i64, as the machine reads it
pub size_is : (z : ℤ) → SFits w64 z → (m : ℕ) → m ≡ nat_abs (to_z w64 (of_z w64 z)) → (m ≡ nat_abs z) × (m ≤ 9223372036854775808)
size_is z f m e =
    let q : m ≡ nat_abs z = e ∙ ap nat_abs (back w64 z f) in
    (q, omega (arith, mag_natAbs z 9223372036854775808 f.sfits))

-- the request's figures, those around each half, and the largest amounts
pub figures : map milli_ergs (pos 499999 ∷ pos 500000 ∷ pos 500001 ∷ pos 1500000 ∷ pos 2500000 ∷ pos 9223372036854775807 ∷ [])
    ≡ pos 0 ∷ pos 0 ∷ pos 1 ∷ pos 2 ∷ pos 2 ∷ pos 9223372036855 ∷ []
unfolding milli_ergs rounded
figures = refl

pub figures_below : map milli_ergs (negsuc 499998 ∷ negsuc 499999 ∷ negsuc 500000 ∷ negsuc 1499999 ∷ negsuc 2499999 ∷ negsuc 9223372036854775807 ∷ [])
    ≡ pos 0 ∷ pos 0 ∷ negsuc 0 ∷ negsuc 1 ∷ negsuc 1 ∷ negsuc 9223372036854 ∷ []
unfolding milli_ergs rounded
figures_below = refl
