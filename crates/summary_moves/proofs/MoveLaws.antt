-- Laws of the tests of 36: which of them decides.
use Prim.Native.Nat.{ℕ, ◌≤◌, ◌<◌}
use mathlib.Core.Path.{◌≡◌}
use mathlib.Core.Bool.{Bool, true, false, ◌||◌}
use lib.Dec.{ltb, leb}
use lib.IntN.{ℤ, nat_abs}
use borrow.Author.Tests.{lt-ltb, le-ltb, le-leb, lt-leb}
use Rattle.signed.specs.Sign.{is_negative}
use Rattle.index_types.specs.declared.HeadCounts.{HeadCounts}
use Rattle.summary_core.specs.Moves.{too_few_lines, no_free_line}

-- ---- an append

module _ (h : HeadCounts) (number : ℤ) (lines : ℕ) where
  abbrev pub missing : Bool
  missing = too_few_lines h lines || no_free_line h number lines

  pub missing_11 : is_negative h.spills ≡ true → false ≡ missing
  missing_11 e = rw e

  module _ (e : is_negative h.spills ≡ false) (n : ℕ) (a : n ≡ nat_abs h.spills) where
    pub missing_few : lines < n → true ≡ missing
    missing_few f = rw (e, ← a, lt-ltb lines n f)

    module _ (f : n ≤ lines) where
      pub missing_17 : is_negative number ≡ true → false ≡ missing
      missing_17 d = rw (e, ← a, le-ltb lines n f, d)

      module _ (d : is_negative number ≡ false) where
        pub missing_none : h.len < 512 → false ≡ missing
        missing_none k = rw (e, ← a, le-ltb lines n f, d, lt-ltb h.len 512 k)

        module _ (k : 512 ≤ h.len) where
          pub missing_18 : 2147483647 ≤ n → false ≡ missing
          missing_18 l = rw (e, ← a, le-ltb lines n f, d, le-ltb h.len 512 k, le-leb 2147483647 n l)

          pub missing_full : n < 2147483647 → leb lines n ≡ missing
          missing_full l = rw (e, ← a, le-ltb lines n f, d, le-ltb h.len 512 k, lt-leb 2147483647 n l)

-- ---- a pop

module _ (h : HeadCounts) (lines : ℕ) where
  pub few_11 : is_negative h.spills ≡ true → false ≡ too_few_lines h lines
  few_11 e = rw e

  pub few_is : is_negative h.spills ≡ false → (n : ℕ) → n ≡ nat_abs h.spills → ltb lines n ≡ too_few_lines h lines
  few_is e n a = rw (e, ← a)
