-- Laws of reading the spill counts, one for each way out; x and y are what locals hold of the numbers b and t that were read.
use Prim.Native.Nat.{ℕ}
use mathlib.Core.Path.{◌≡◌, sym, ap₂, ◌∙◌}
use mathlib.Core.Bool.{true, false}
use mathlib.Core.List.{List}
use lib.IntN.{ℤ}
use Rattle.signed.specs.Sign.{is_negative}
use Rattle.std.specs.Prelude.{Ok, Err}
use Rattle.vlq_core.specs.Reading.{read_at, signed_of, int_of}
use Rattle.vlq_core.proofs.ReadLaws.{int_number, int_refused}
use Rattle.segment_core.specs.Answers.{Counts}
use Rattle.segment_core.specs.Reading.{both_counts, counts_at}

module _ (s : List ℕ) (at : ℕ) where
  second : ℤ → ℕ → Counts
  second b n = signed_of (both_counts b) Err (read_at 32 s n)

  pub counts_bad_1 : (r : ℕ) → int_of (read_at 32 s at) ≡ Err r → Err r ≡ counts_at s at
  unfolding counts_at second
  counts_bad_1 r e = sym (int_refused second Err (read_at 32 s at) r e)

  module _ (b : ℤ) (n : ℕ) (e : int_of (read_at 32 s at) ≡ Ok (b, n)) where
    pub counts_bad_2 : (r : ℕ) → int_of (read_at 32 s n) ≡ Err r → Err r ≡ counts_at s at
    unfolding counts_at second
    counts_bad_2 r f = sym (int_number second Err (read_at 32 s at) b n e ∙ int_refused (both_counts b) Err (read_at 32 s n) r f)

    module _ (t : ℤ) (m : ℕ) (f : int_of (read_at 32 s n) ≡ Ok (t, m)) (x y : ℤ) (p : x ≡ b) (q : y ≡ t) where
      counts_are : both_counts x y m ≡ counts_at s at
      unfolding counts_at second
      counts_are =
          ap₂ (λ (u v : ℤ). both_counts u v m) p q
          ∙ sym (int_number second Err (read_at 32 s at) b n e ∙ int_number (both_counts b) Err (read_at 32 s n) t m f)

      pub counts_6_b : is_negative x ≡ true → Err 6 ≡ counts_at s at
      counts_6_b h = rw h at counts_are

      module _ (h : is_negative x ≡ false) where
        pub counts_6_t : is_negative y ≡ true → Err 6 ≡ counts_at s at
        counts_6_t k = rw (h, k) at counts_are

        pub counts_ok : is_negative y ≡ false → Ok (x, y, m) ≡ counts_at s at
        counts_ok k = rw (h, k) at counts_are
