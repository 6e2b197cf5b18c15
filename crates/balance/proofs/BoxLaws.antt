-- Laws of whole boxes: the buffers' test, and one law for each way out.
use Prim.Native.Nat.{ℕ, ◌*◌, ◌<◌, ◌≤◌, ◌/◌}
use native.Mathlib.Omega.{arith}
use mathlib.Core.Path.{◌≡◌, refl, sym, ◌∙◌}
use mathlib.Core.Bool.{Bool, true, false, cond, ◌&&◌}
use mathlib.Core.List.{List}
use lib.ListN.{length}
use lib.Dec.{leb}
use lib.IntN.{ℤ, pos, ◌-ℤ◌}
use lib.Signed.{mag, lt_z}
use borrow.Author.Tests.{le-leb, lt-leb, leb-true, leb-false}
use Rattle.std.specs.Prelude.{Option, Some, None}
use Rattle.signed.specs.Checked.{checked}
use Rattle.signed.proofs.SignedLaws.{checked_fits}
use Rattle.balance.specs.declared.Balance.{Balance}
use Rattle.balance_tokens.specs.Tokens.{Changed, change_tokens}
use Rattle.balance.specs.Boxes.{buffers_ok, stopped, nanos_after, refused, held_by, settled, change_box}

-- ---- 25

module _ (count : ℕ) (ids : List ℕ) (amounts : List ℤ) (n : ℕ) where
  pub count_above : 128 < count → false ≡ buffers_ok count ids amounts n
  unfolding buffers_ok
  count_above h = sym (rw (lt-leb _ _ h))

  pub amounts_short : count ≤ 128 → length amounts < n → false ≡ buffers_ok count ids amounts n
  unfolding buffers_ok
  amounts_short h g = sym (rw (le-leb _ _ h, lt-leb _ _ g))

  pub ids_decide : count ≤ 128 → n ≤ length amounts → leb n (length ids / 32) ≡ buffers_ok count ids amounts n
  unfolding buffers_ok
  ids_decide h g = by_test (leb n (length ids / 32)) refl ∙ sym (rw (le-leb _ _ h, le-leb _ _ g))
    where
      by_test : (t : Bool) → leb n (length ids / 32) ≡ t → t ≡ leb (n * 32) (length ids)
      by_test true e = let u = leb-true n (length ids / 32) e in sym (le-leb (n * 32) (length ids) (omega arith))
      by_test false e = let u = leb-false n (length ids / 32) e in sym (lt-leb (n * 32) (length ids) (omega arith))

  -- what the test says where it passes
  pub record Fit : Type 0 where
    pub few : count ≤ 128
    pub amounts_there : n ≤ length amounts
    pub ids_there : n * 32 ≤ length ids

  pub fit : buffers_ok count ids amounts n ≡ true → Fit
  unfolding buffers_ok
  fit e = by_test (leb count 128) (leb n (length amounts)) (leb (n * 32) (length ids)) refl refl refl e
    where
      by_test : (s t u : Bool) → leb count 128 ≡ s → leb n (length amounts) ≡ t → leb (n * 32) (length ids) ≡ u → s && (t && u) ≡ true → Fit
      by_test true true true a b d e = record { few = leb-true _ _ a; amounts_there = leb-true _ _ b; ids_there = leb-true _ _ d }
      by_test true true false a b d e = let q : ◌≡◌ {A = ℕ} 0 1 = cc in absurd (omega arith)
      by_test true false u a b d e = let q : ◌≡◌ {A = ℕ} 0 1 = cc in absurd (omega arith)
      by_test false t u a b d e = let q : ◌≡◌ {A = ℕ} 0 1 = cc in absurd (omega arith)

-- ---- the nanoErgs

-- they are within 64 signed bits
pub nanos_fit : (adding : Bool) (old nanos v : ℤ) → Some v ≡ nanos_after adding old nanos → mag v < 9223372036854775808
nanos_fit true old nanos v e = (checked_fits _ v (sym e)).1
nanos_fit false old nanos v e = by_check (checked (old -ℤ nanos)) refl e
  where
    by_check : (x : Option ℤ) → checked (old -ℤ nanos) ≡ x → Some v ≡ stopped x → mag v < 9223372036854775808
    by_check (Some w) q e = by_test (lt_z w (pos 0)) e
      where
        by_test : (t : Bool) → Some v ≡ Some (cond t (pos 0) w) → mag v < 9223372036854775808
        by_test true e = let z : v ≡ pos 0 = cc in rw z (omega arith)
        by_test false e = let z : v ≡ w = cc in rw z (checked_fits _ w q).1
    by_check None q e = let z : ◌≡◌ {A = ℕ} 0 1 = cc in absurd (omega arith)

-- ---- the ways out of a box, added or subtracted

module _ (adding : Bool) (b : Balance) (nanos : ℤ) (ids : List ℕ) (amounts : List ℤ) (n : ℕ) where
  pub box_25 : buffers_ok b.count ids amounts n ≡ false → refused 25 b ≡ change_box adding b nanos ids amounts n
  unfolding change_box
  box_25 e = sym (rw e)

  module _ (ok : buffers_ok b.count ids amounts n ≡ true) where
    pub box_23 : None ≡ nanos_after adding b.nanos nanos → refused 23 b ≡ change_box adding b nanos ids amounts n
    unfolding change_box
    box_23 e = sym (rw (ok, ← e))

    -- the tokens decide
    pub box_on : (v : ℤ) → Some v ≡ nanos_after adding b.nanos nanos → (x : Changed) → x ≡ change_tokens adding ids amounts 0 n (held_by b)
        → settled b v x ≡ change_box adding b nanos ids amounts n
    unfolding change_box
    box_on v e x q = sym (rw (ok, ← e, ← q))
