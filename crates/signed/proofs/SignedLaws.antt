-- Laws of signed numbers: reading back what was stored, sign and absolute value, the checked answer.
-- A signed local is stated as `to_z w (of_z w z)`; the laws of single operations take it as a y with y ≡ z.
use Prim.Native.Nat.{ℕ, zero, suc, ◌+◌, ◌<◌, ◌≤◌, ◌^◌}
use mathlib.Core.Path.{◌≡◌, refl, sym, ap, ◌∙◌, subst}
use mathlib.Core.Bool.{Bool, true, false, cond}
use native.Mathlib.Omega.{arith}
use lib.Dec.{T, ltb, leb, eqb, leb-zero, leb-suc-zero, eqb-suc-zero}
use lib.IntN.{ℤ, pos, negsuc, nat_abs, neg_ℤ, ◌-ℤ◌, +ℤ_idl}
use lib.Signed.{mag, lt_z, le_z, non_neg}
use borrow.Author.Tests.{lt-ltb, le-ltb, ltb-true}
use mir.Syntax.{Width, w32, w64}
use mir.Val.{Fits, SFits, to_z, of_z, bits, hbits}
use mir.ValLaws.{to_z-of_z}
use mir.Facts.{sfits_widen, Fits-nat_abs}
use Rattle.signed.specs.Sign.{is_negative, wanted}
use Rattle.signed.specs.Checked.{checked}
use Rattle.std.specs.Prelude.{Some, None}

-- ---- what is read back of a stored number

pub back : (w : Width) (z : ℤ) → SFits w z → to_z w (of_z w z) ≡ z
back w z f = to_z-of_z w z f

-- the same of an element that was read or of a call's result, where the bare bound is at hand
pub back64 : (z : ℤ) → mag z < 9223372036854775808 → to_z w64 (of_z w64 z) ≡ z
back64 z h = back w64 z (record { sfits = h })

pub back32 : (z : ℤ) → mag z < 2147483648 → to_z w32 (of_z w32 z) ≡ z
back32 z h = back w32 z (record { sfits = h })

-- a 32-bit number, kept in 64 bits
pub wide : (z : ℤ) → SFits w32 z → SFits w64 z
wide z f = sfits_widen tt f

-- ---- sign and absolute value

pub natAbs_neg : (z : ℤ) → nat_abs (neg_ℤ z) ≡ nat_abs z
natAbs_neg (pos zero) = refl
natAbs_neg (pos (suc n)) = refl
natAbs_neg (negsuc n) = refl

-- a number that is not below zero is its absolute value
pub pos_nat_abs : (z : ℤ) → is_negative z ≡ false → pos (nat_abs z) ≡ z
pos_nat_abs (pos n) h = refl
pos_nat_abs (negsuc n) h = absurd (subst T h tt)

pub natAbs_above : (z : ℤ) → is_negative z ≡ false → nat_abs z ≡ mag z
natAbs_above (pos n) h = refl
natAbs_above (negsuc n) h = absurd (subst T h tt)

pub natAbs_below : (z : ℤ) → is_negative z ≡ true → nat_abs z ≡ mag z + 1
natAbs_below (pos n) h = absurd (subst T (sym h) tt)
natAbs_below (negsuc n) h = omega arith

-- ---- below 2^63, and -2^63

-- an absolute value below a bound is within it on both sides
pub natAbs_mag : (z : ℤ) (k : ℕ) → nat_abs z < k → mag z < k
natAbs_mag (pos n) k h = h
natAbs_mag (negsuc n) k h = omega arith

-- and is at most that bound where the number is within it
pub mag_natAbs : (z : ℤ) (k : ℕ) → mag z < k → nat_abs z ≤ k
mag_natAbs (pos n) k h = omega arith
mag_natAbs (negsuc n) k h = omega arith

-- the one number within 64 signed bits whose absolute value is not below 2^63 is -2^63
pub least : (z : ℤ) → mag z < 9223372036854775808 → 9223372036854775808 ≤ nat_abs z → z ≡ negsuc 9223372036854775807
least (pos n) h k = absurd (omega arith)
least (negsuc n) h k = ap negsuc (omega arith)

-- the negation is within any bound that the absolute value is below
pub neg_mag : (z : ℤ) (k : ℕ) → nat_abs z < k → mag (neg_ℤ z) < k
neg_mag z k h = natAbs_mag (neg_ℤ z) k (rw natAbs_neg h)

-- ---- the checked answer

pub checked_is : (z : ℤ) → mag z < 9223372036854775808 → checked z ≡ Some z
unfolding checked
checked_is z h = rw (lt-ltb _ _ h)

pub checked_out : (z : ℤ) → 9223372036854775808 ≤ mag z → checked z ≡ None
unfolding checked
checked_out z h = rw (le-ltb _ _ h)

-- what is answered is the number asked for, and within 64 signed bits
pub checked_fits : (z y : ℤ) → checked z ≡ Some y → (y ≡ z) × (mag y < 9223372036854775808)
unfolding checked
checked_fits z y e = by_test (ltb (mag z) 9223372036854775808) refl e
  where
    by_test : (t : Bool) → ltb (mag z) 9223372036854775808 ≡ t → cond t (Some z) None ≡ Some y → (y ≡ z) × (mag y < 9223372036854775808)
    by_test true p e = let q : y ≡ z = cc in (q, rw q (ltb-true _ _ p))
    by_test false p e = let q : ◌≡◌ {A = ℕ} 0 1 = cc in absurd (omega arith)

-- ---- single operations, each over the number z and what was read back of it, y

module _ (z y : ℤ) (e : y ≡ z) where
  pub sign_test : lt_z y (pos 0) ≡ is_negative z
  sign_test = rw e (by_sign z)
    where
      by_sign : (z : ℤ) → lt_z z (pos 0) ≡ is_negative z
      by_sign (pos n) = leb-suc-zero n
      by_sign (negsuc n) = refl

  -- the two tests of `is_wanted`
  pub spend_test : le_z (pos 0) y ≡ wanted true z
  spend_test = rw e (by_sign z)
    where
      by_sign : (z : ℤ) → le_z (pos 0) z ≡ wanted true z
      by_sign (pos n) = leb-zero n
      by_sign (negsuc n) = refl

  pub unspend_test : le_z y (pos 0) ≡ wanted false z
  unspend_test = rw e (by_sign z)
    where
      at_zero : (n : ℕ) → leb n 0 ≡ eqb n 0
      at_zero zero = refl
      at_zero (suc n) = leb-suc-zero n ∙ sym (eqb-suc-zero n)

      by_sign : (z : ℤ) → le_z z (pos 0) ≡ wanted false z
      by_sign (pos n) = at_zero n
      by_sign (negsuc n) = refl

  -- negation, at any width
  pub negated : pos 0 -ℤ y ≡ neg_ℤ z
  negated = +ℤ_idl (neg_ℤ y) ∙ ap neg_ℤ e

  pub negated_fits : (w : Width) → nat_abs z < 2 ^ hbits w → SFits w (pos 0 -ℤ y)
  negated_fits w h = rw negated (record { sfits = neg_mag z _ h })

  -- -1 - y
  pub complement_below : is_negative z ≡ true → negsuc 0 -ℤ y ≡ pos (mag z)
  complement_below h = rw e (by_sign z h)
    where
      by_sign : (z : ℤ) → is_negative z ≡ true → negsuc 0 -ℤ z ≡ pos (mag z)
      by_sign (pos n) h = absurd (subst T (sym h) tt)
      by_sign (negsuc n) h = rw (le-ltb (suc n) 1 (omega arith)) (ap pos (omega arith))

  pub complement_above : is_negative z ≡ false → negsuc 0 -ℤ y ≡ negsuc (mag z)
  complement_above h = rw e (by_sign z h)
    where
      by_sign : (z : ℤ) → is_negative z ≡ false → negsuc 0 -ℤ z ≡ negsuc (mag z)
      by_sign (pos zero) h = refl
      by_sign (pos (suc n)) h = ap negsuc (omega arith)
      by_sign (negsuc n) h = absurd (subst T h tt)

  -- a number that is not below zero, as an unsigned one
  pub unsigned_fits : (w w' : Width) → T (ltb (hbits w) (bits w')) → SFits w z → is_negative z ≡ false → T (non_neg y) × Fits w' (nat_abs y)
  unsigned_fits w w' t f h = rw e (is_non_neg z h, Fits-nat_abs t f)
    where
      is_non_neg : (z : ℤ) → is_negative z ≡ false → T (non_neg z)
      is_non_neg (pos n) h = tt
      is_non_neg (negsuc n) h = subst T h tt
