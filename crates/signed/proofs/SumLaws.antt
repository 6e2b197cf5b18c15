-- Checked sums at any width, whose numbers are -(M + 1) to M: the test before the sum says whether it is in range.
-- `omega` reads no signed number, so these go through `off K z`, which is K + z as a natural number.
use Prim.Native.Nat.{ℕ, zero, suc, ◌+◌, ◌-◌, ◌*◌, ◌<◌, ◌≤◌}
use mathlib.Core.Path.{◌≡◌, refl, sym, ap, ◌∙◌, subst}
use mathlib.Core.Bool.{Bool, true, false, cond}
use native.Mathlib.Omega.{arith}
use lib.Dec.{T, ltb}
use lib.IntN.{ℤ, pos, negsuc, neg_ℤ, sub_ℕ, ◌+ℤ◌, ◌-ℤ◌, neg_ℤ-neg_ℤ}
use lib.Signed.{mag, lt_z}
use borrow.Author.Tests.{ltb-true, ltb-false}
use mir.Syntax.{w64}
use mir.Val.{SFits, to_z, of_z}
use Rattle.signed.specs.Sign.{is_negative}
use Rattle.signed.specs.Checked.{checked}
use Rattle.std.specs.Prelude.{Some, None}
use Rattle.signed.proofs.SignedLaws.{back, back64, sign_test, checked_is, checked_out}

-- K + z, where z is at least -K
abbrev off : ℕ → ℤ → ℕ
off K (pos n) = K + n
off K (negsuc n) = K - suc n

module _ (K : ℕ) where
  off_sub : (a b : ℕ) → b ≤ K → off K (sub_ℕ a b) + b ≡ K + a
  off_sub a b h = by_test (ltb a b) refl
    where
      by_test : (t : Bool) → ltb a b ≡ t → off K (cond t (negsuc (b - suc a)) (pos (a - b))) + b ≡ K + a
      by_test true e = omega (arith, ltb-true a b e)
      by_test false e = omega (arith, ltb-false a b e)

  off_add : (a b : ℤ) → suc (mag a) + suc (mag b) ≤ K → off K (a +ℤ b) + K ≡ off K a + off K b
  off_add (pos m) (pos n) h = omega arith
  off_add (pos m) (negsuc n) h = omega (arith, off_sub m (suc n) (omega arith))
  off_add (negsuc m) (pos n) h = omega (arith, off_sub n (suc m) (omega arith))
  off_add (negsuc m) (negsuc n) h = omega arith

  off_neg : (a : ℤ) → suc (mag a) ≤ K → off K (neg_ℤ a) + off K a ≡ K + K
  off_neg (pos zero) h = omega arith
  off_neg (pos (suc n)) h = omega arith
  off_neg (negsuc n) h = omega arith

  -- the order of two numbers is that of their offsets
  off_lt : (a b : ℤ) → suc (mag a) ≤ K → suc (mag b) ≤ K → lt_z a b ≡ true → off K a < off K b
  off_lt (pos m) (pos n) h k e = omega (arith, ltb-true m n e)
  off_lt (pos m) (negsuc n) h k e = absurd (subst T (sym e) tt)
  off_lt (negsuc m) (pos n) h k e = omega arith
  off_lt (negsuc m) (negsuc n) h k e = omega (arith, ltb-true n m e)

  off_ge : (a b : ℤ) → suc (mag a) ≤ K → suc (mag b) ≤ K → lt_z a b ≡ false → off K b ≤ off K a
  off_ge (pos m) (pos n) h k e = omega (arith, ltb-false m n e)
  off_ge (pos m) (negsuc n) h k e = omega arith
  off_ge (negsuc m) (pos n) h k e = absurd (subst T e tt)
  off_ge (negsuc m) (negsuc n) h k e = omega (arith, ltb-false n m e)

  -- being within a bound, as offsets
  off_range : (H : ℕ) (z : ℤ) → mag z < H → H < K → (K ≤ off K z + H) × (off K z < K + H)
  off_range H (pos n) h k = (omega arith, omega arith)
  off_range H (negsuc n) h k = (omega arith, omega arith)

  off_in : (H : ℕ) (z : ℤ) → H < K → K ≤ off K z + H → off K z < K + H → mag z < H
  off_in H (pos n) h l u = omega arith
  off_in H (negsuc n) h l u = omega arith

  off_below : (H : ℕ) (z : ℤ) → off K z + H < K → H ≤ mag z
  off_below H (pos n) h = omega arith
  off_below H (negsuc n) h = omega arith

  off_above : (H : ℕ) (z : ℤ) → K + H ≤ off K z → 0 < H → H ≤ mag z
  off_above H (pos n) h p = omega arith
  off_above H (negsuc n) h p = omega arith

mag_neg : (a : ℤ) → mag (neg_ℤ a) ≤ suc (mag a)
mag_neg (pos zero) = omega arith
mag_neg (pos (suc n)) = omega arith
mag_neg (negsuc n) = omega arith

-- what a sum z is tested by: a limit that is itself within the width; the test passes where z is out of range and only there
pub record Tested (M : ℕ) (limit : ℤ) (test : Bool) (z : ℤ) : Type 0 where
  pub room : mag limit < suc M
  pub out : test ≡ true → suc M ≤ mag z
  pub within : test ≡ false → mag z < suc M

-- ---- a within the width, b at most one beyond

module _ (M : ℕ) (a b : ℤ) (ha : mag a < suc M) (hb : mag b < suc (suc M)) where
  abbrev K : ℕ
  K = 4 * suc M + 8

  -- what omega is told of a difference and of the sum
  diff : (x : ℤ) → mag x < suc M → off K (x -ℤ b) + off K b ≡ off K x + K
  diff x h =
      let m = mag_neg b in let n = off_neg K b (omega arith) in
      let s = off_add K x (neg_ℤ b) (omega arith) in omega arith

  total : off K (a +ℤ b) + K ≡ off K a + off K b
  total = off_add K a b (omega arith)

  range : (K ≤ off K a + suc M) × (off K a < K + suc M)
  range = off_range K (suc M) a ha (omega arith)

  -- b from -(M + 1) to 0: the sum is out of range below -(M + 1), tested as a < -(M + 1) - b
  down : off K b ≤ K → K ≤ off K b + suc M → Tested M (negsuc M -ℤ b) (lt_z a (negsuc M -ℤ b)) (a +ℤ b)
  down h k =
      let l = negsuc M -ℤ b in let d = diff (negsuc M) (omega arith) in let s = total in let r = range in
      let m : mag l < suc M = off_in K (suc M) l (omega arith) (omega arith) (omega arith) in
      record {
        room = m;
        out = λ e. let g = off_lt K a l (omega arith) (omega arith) e in off_below K (suc M) (a +ℤ b) (omega arith);
        within = λ e. let g = off_ge K a l (omega arith) (omega arith) e in off_in K (suc M) (a +ℤ b) (omega arith) (omega arith) (omega arith);
      }

  -- b from 0 to M + 1: the sum is out of range above M, tested as M - b < a
  up : K ≤ off K b → off K b ≤ K + suc M → Tested M (pos M -ℤ b) (lt_z (pos M -ℤ b) a) (a +ℤ b)
  up h k =
      let l = pos M -ℤ b in let d = diff (pos M) (omega arith) in let s = total in let r = range in
      let m : mag l < suc M = off_in K (suc M) l (omega arith) (omega arith) (omega arith) in
      record {
        room = m;
        out = λ e. let g = off_lt K l a (omega arith) (omega arith) e in off_above K (suc M) (a +ℤ b) (omega arith) (omega arith);
        within = λ e. let g = off_ge K l a (omega arith) (omega arith) e in off_in K (suc M) (a +ℤ b) (omega arith) (omega arith) (omega arith);
      }

off_sign : (K M : ℕ) (b : ℤ) (t : Bool) → is_negative b ≡ t → mag b < suc M → M < K
    → cond t ((off K b ≤ K) × (K ≤ off K b + suc M) × (K ≤ off K (neg_ℤ b)) × (off K (neg_ℤ b) ≤ K + suc M))
    ((K ≤ off K b) × (off K b ≤ K + suc M) × (off K (neg_ℤ b) ≤ K) × (K ≤ off K (neg_ℤ b) + suc M))
off_sign K M (pos zero) false e h k = (omega arith, omega arith, omega arith, omega arith)
off_sign K M (pos (suc n)) false e h k = (omega arith, omega arith, omega arith, omega arith)
off_sign K M (pos n) true e h k = absurd (subst T (sym e) tt)
off_sign K M (negsuc n) true e h k = (omega arith, omega arith, omega arith, omega arith)
off_sign K M (negsuc n) false e h k = absurd (subst T e tt)

-- ---- sums and differences of two numbers within the width, by the sign of the second: a difference is the sum with the negation

module _ (M : ℕ) (a b : ℤ) (ha : mag a < suc M) (hb : mag b < suc M) where
  pub add_below : is_negative b ≡ true → Tested M (negsuc M -ℤ b) (lt_z a (negsuc M -ℤ b)) (a +ℤ b)
  add_below e = let s = off_sign (4 * suc M + 8) M b true e hb (omega arith) in down M a b ha (omega arith) s.0 s.1

  pub add_above : is_negative b ≡ false → Tested M (pos M -ℤ b) (lt_z (pos M -ℤ b) a) (a +ℤ b)
  add_above e = let s = off_sign (4 * suc M + 8) M b false e hb (omega arith) in up M a b ha (omega arith) s.0 s.1

  pub sub_below : is_negative b ≡ true → Tested M (pos M +ℤ b) (lt_z (pos M +ℤ b) a) (a -ℤ b)
  sub_below e =
      let s = off_sign (4 * suc M + 8) M b true e hb (omega arith) in
      rw neg_ℤ-neg_ℤ at (up M a (neg_ℤ b) ha (omega (arith, mag_neg b)) s.2 s.3)

  pub sub_above : is_negative b ≡ false → Tested M (negsuc M +ℤ b) (lt_z a (negsuc M +ℤ b)) (a -ℤ b)
  sub_above e =
      let s = off_sign (4 * suc M + 8) M b false e hb (omega arith) in
      rw neg_ℤ-neg_ℤ at (down M a (neg_ℤ b) ha (omega (arith, mag_neg b)) s.2 s.3)

-- ---- the arms of a checked operation at 64 bits, over the operands as they are read back

abbrev pub M64 : ℕ
M64 = 9223372036854775807

-- z as a 64-bit local holds it
abbrev pub kept : ℤ → ℤ
kept z = to_z w64 (of_z w64 z)

pub kept_fits : (z : ℤ) → SFits w64 z → mag (kept z) < suc M64
kept_fits z f = rw (back w64 z f) f.sfits

pub kept_sign : (z : ℤ) (t : Bool) → lt_z (kept z) (pos 0) ≡ t → is_negative (kept z) ≡ t
kept_sign z t e = sym (sign_test (kept z) (kept z) refl) ∙ e

-- the test on the limit as it is read back
pub arm : (limit : ℤ) (test : ℤ → Bool) (z : ℤ) → Tested M64 limit (test limit) z → Tested M64 limit (test (kept limit)) z
arm limit test z t = rw (back64 limit t.room) t

module _ {limit z : ℤ} {test : Bool} (t : Tested M64 limit test z) where
  pub limit_fits : SFits w64 limit
  limit_fits = record { sfits = t.room }

  pub result_fits : test ≡ false → SFits w64 z
  result_fits e = record { sfits = t.within e }

  -- the answers; x is the result of the operands themselves
  pub answer_out : {x : ℤ} → z ≡ x → test ≡ true → None ≡ checked x
  answer_out q e = sym (ap checked (sym q) ∙ checked_out z (t.out e))

  pub answer_is : {x : ℤ} → z ≡ x → test ≡ false → Some (kept z) ≡ checked x
  answer_is q e = ap Some (back64 z (t.within e)) ∙ sym (ap checked (sym q) ∙ checked_is z (t.within e))
