-- Laws of signed numbers and their coded ones, at every width.
use mathlib.Core.Path.{◌≡◌, refl, sym, ap, subst, ◌∙◌}
use mathlib.Core.Bool.{Bool, true, false, cond}
use Prim.Native.Nat.{ℕ, zero, suc, ◌+◌, ◌-◌, ◌*◌, ◌/◌, ◌%◌, ◌^◌, ◌<◌}
use native.Mathlib.Omega.{arith}
use lib.Dec.{T, eqb}
use lib.IntN.{ℤ, pos, negsuc, ◌-ℤ◌, nat_abs}
use lib.Signed.{lt_z, non_neg}
use borrow.Author.Tests.{eq-eqb, ne_eqb, le-ltb, ltb-true}
use mir.Syntax.{Width, w8, w16, w32, w64, w128}
use mir.Val.{Fits, SFits, bits, hbits, to_z, of_z}
use mir.Facts.{to_z-of_z, to_z_pos}
use Rattle.vlq_core.specs.Zigzag.{zig, zag}

zag_even : (n c : ℕ) → c ≡ 2 * n → zag c ≡ pos n
zag_even n c e = rw (eq-eqb (c % 2) 0 (omega arith)) (ap pos (omega arith))

zag_odd : (n c : ℕ) → c ≡ 2 * n + 1 → zag c ≡ negsuc n
zag_odd n c e = rw (ne_eqb (c % 2) 0 (omega arith)) (ap negsuc (omega arith))

-- a number that is coded is decoded
pub zag_zig : (z : ℤ) → zag (zig z) ≡ z
zag_zig (pos n) = zag_even n _ refl
zag_zig (negsuc n) = zag_odd n _ refl

-- a width's power is twice that of its numbers without the sign
double : (w : Width) → 2 ^ bits w ≡ 2 * 2 ^ hbits w
double w8 = refl
double w16 = refl
double w32 = refl
double w64 = refl
double w128 = refl

pub zig_fits : (w : Width) (z : ℤ) → SFits w z → Fits w (zig z)
zig_fits w (pos n) f = record { fits = omega (arith, double w, f.sfits) }
zig_fits w (negsuc n) f = record { fits = omega (arith, double w, f.sfits) }

pub zag_fits : (w : Width) (c : ℕ) → c < 2 ^ bits w → SFits w (zag c)
zag_fits w c h = by_test (eqb (c % 2) 0)
  where
    by_test : (t : Bool) → SFits w (cond t (pos (c / 2)) (negsuc (c / 2)))
    by_test true = record { sfits = omega (arith, double w) }
    by_test false = record { sfits = omega (arith, double w) }

-- -1 - n, of either sign
flip_pos : (n : ℕ) → negsuc 0 -ℤ pos n ≡ negsuc n
flip_pos zero = refl
flip_pos (suc n) = ap negsuc (omega arith)

flip_neg : (n : ℕ) → negsuc 0 -ℤ negsuc n ≡ pos n
flip_neg n = rw (le-ltb (suc n) 1 (omega arith)) (ap pos (omega arith))

-- ---- coding, as the code does it at the width w. A signed local holds bits: x is what is read of z's, and v of -1 - x's.

-- v doubled and one more is z's code
pub record CodesNeg (w : Width) (z y v : ℤ) : Type 0 where
  pub sub : SFits w y
  pub cast : T (non_neg v) × Fits w (nat_abs v)
  pub mul : Fits w (2 * nat_abs v)
  pub add : Fits w (2 * nat_abs v + 1)
  pub is : 2 * nat_abs v + 1 ≡ zig z

pub record CodesPos (w : Width) (z x : ℤ) : Type 0 where
  pub cast : T (non_neg x) × Fits w (nat_abs x)
  pub mul : Fits w (2 * nat_abs x)
  pub is : 2 * nat_abs x ≡ zig z

module _ (w : Width) where
  codes_neg : (z : ℤ) → SFits w z → lt_z z (pos 0) ≡ true → CodesNeg w z (negsuc 0 -ℤ z) (to_z w (of_z w (negsuc 0 -ℤ z)))
  codes_neg (pos n) f t = absurd (omega (arith, ltb-true n 0 t))
  codes_neg (negsuc n) f t =
      let g : SFits w (pos n) = record { sfits = f.sfits } in
      rw (flip_neg n) (subst (CodesNeg w (negsuc n) (pos n)) (sym (to_z-of_z g)) (record {
        sub = g;
        cast = (tt, record { fits = omega (arith, double w, f.sfits) });
        mul = record { fits = omega (arith, double w, f.sfits) };
        add = record { fits = omega (arith, double w, f.sfits) };
        is = refl;
      }))

  codes_pos : (z : ℤ) → SFits w z → lt_z z (pos 0) ≡ false → CodesPos w z z
  codes_pos (pos n) f t = record {
    cast = (tt, record { fits = omega (arith, double w, f.sfits) });
    mul = record { fits = omega (arith, double w, f.sfits) };
    is = refl;
  }
  codes_pos (negsuc n) f t = let no : ◌≡◌ {A = Bool} true false = t in absurd (subst T no tt)

  pub coded_neg : (z : ℤ) → SFits w z → lt_z (to_z w (of_z w z)) (pos 0) ≡ true
      → CodesNeg w z (negsuc 0 -ℤ to_z w (of_z w z)) (to_z w (of_z w (negsuc 0 -ℤ to_z w (of_z w z))))
  coded_neg z f t = rw (to_z-of_z f) (codes_neg z f (rw (to_z-of_z f) at t))

  pub coded_pos : (z : ℤ) → SFits w z → lt_z (to_z w (of_z w z)) (pos 0) ≡ false → CodesPos w z (to_z w (of_z w z))
  coded_pos z f t = rw (to_z-of_z f) (codes_pos z f (rw (to_z-of_z f) at t))

-- ---- decoding, as the code does it

pub record Decodes (w : Width) (c : ℕ) : Type 0 where
  pub half : SFits w (pos (c / 2))
  pub flip : SFits w (negsuc 0 -ℤ to_z w (c / 2))
  pub even : c % 2 ≡ 0 → to_z w (c / 2) ≡ zag c
  pub odd : (c % 2 ≡ 0 → ⊥) → to_z w (of_z w (negsuc 0 -ℤ to_z w (c / 2))) ≡ zag c

pub decodes : (w : Width) (c : ℕ) → Fits w c → Decodes w c
decodes w c f =
    let h : c / 2 < 2 ^ hbits w = omega (arith, double w, f.fits) in
    let g : SFits w (negsuc (c / 2)) = record { sfits = h } in
    let r : to_z w (c / 2) ≡ pos (c / 2) = to_z_pos w h in
    let y : negsuc 0 -ℤ to_z w (c / 2) ≡ negsuc (c / 2) = ap (λ (z : ℤ). negsuc 0 -ℤ z) r ∙ flip_pos (c / 2) in record {
      half = record { sfits = h };
      flip = subst (SFits w) (sym y) g;
      even = λ e. r ∙ sym (zag_even (c / 2) c (omega arith));
      odd = λ e. ap (λ (z : ℤ). to_z w (of_z w z)) y ∙ to_z-of_z g ∙ sym (zag_odd (c / 2) c (omega arith));
    }
