-- Laws of reading the token count, tested as the code does: z was read, x is what a local holds of it, k its absolute value.
use Prim.Native.Nat.{ℕ, ◌-◌, ◌/◌, ◌≤◌, ◌<◌}
use mathlib.Core.Path.{◌≡◌, refl, sym, ap, ◌∙◌}
use mathlib.Core.Bool.{Bool, true, false, cond}
use mathlib.Core.List.{List}
use native.Mathlib.Omega.{arith}
use lib.Dec.{ltb}
use lib.IntN.{ℤ, pos, negsuc, nat_abs}
use lib.ListN.{length}
use borrow.Author.Tests.{lt-ltb, le-ltb, ltb-false}
use Rattle.signed.specs.Sign.{is_negative}
use Rattle.std.specs.Prelude.{Ok, Err}
use Rattle.vlq_core.specs.Answers.{Got}
use Rattle.vlq_core.specs.Zigzag.{zag}
use Rattle.vlq_core.specs.Reading.{read_at, signed_of, int_of}
use Rattle.vlq_core.proofs.ReadLaws.{int_number, int_refused}
use Rattle.segment_core.proofs.ListLaws.{not_negative}
use Rattle.address_core.specs.Reading.{count_of, count_at}
use Rattle.index_types.proofs.AnswerLaws.{pair_same}

module _ (s : List ℕ) (at : ℕ) (z : ℤ) (n : ℕ) (e : int_of (read_at 32 s at) ≡ Ok (z, n)) (x : ℤ) (q : x ≡ z) where
  count_is : count_of s x n ≡ count_at s at
  unfolding count_at
  count_is = ap (λ (y : ℤ). count_of s y n) q ∙ sym (int_number (count_of s) Err (read_at 32 s at) z n e)

  pub count_3 : is_negative x ≡ true → Err 3 ≡ count_at s at
  count_3 h = by_sign x h ∙ count_is
    where
      by_sign : (y : ℤ) → is_negative y ≡ true → Err 3 ≡ count_of s y n
      by_sign (pos j) g = let p : ◌≡◌ {A = ℕ} 0 1 = cc in absurd (omega arith)
      by_sign (negsuc j) g = refl

  module _ (h : is_negative x ≡ false) (k : ℕ) (a : k ≡ nat_abs x) where
    count_pos : count_of s (pos k) n ≡ count_at s at
    count_pos = ap (λ (y : ℤ). count_of s y n) (sym (not_negative x k h a)) ∙ count_is

    pub count_5 : (length s - n) / 33 < k → Err 5 ≡ count_at s at
    count_5 b = rw (lt-ltb ((length s - n) / 33) k b) at count_pos

    pub count_24 : k ≤ (length s - n) / 33 → 128 < k → Err 24 ≡ count_at s at
    count_24 b d = rw (le-ltb ((length s - n) / 33) k b, lt-ltb 128 k d) at count_pos

    pub count_ok : k ≤ (length s - n) / 33 → k ≤ 128 → Ok (k, n) ≡ count_at s at
    count_ok b d = rw (le-ltb ((length s - n) / 33) k b, le-ltb 128 k d) at count_pos

pub count_bad : (s : List ℕ) (at r : ℕ) → int_of (read_at 32 s at) ≡ Err r → Err r ≡ count_at s at
unfolding count_at
count_bad s at r e = sym (int_refused (count_of s) Err (read_at 32 s at) r e)

-- a count that was accepted is within 128
pub count_most : (s : List ℕ) (at k n : ℕ) → count_at s at ≡ Ok (k, n) → k ≤ 128
unfolding count_at
count_most s at k n e = by_answer (read_at 32 s at) e
  where
    by_tests : (p q : Bool) (j m : ℕ) → ltb 128 j ≡ q → cond {A = Got} p (Err 5) (cond q (Err 24) (Ok (j, m))) ≡ Ok (k, n) → k ≤ 128
    by_tests true q j m f h = let x : ◌≡◌ {A = ℕ} 0 1 = cc in absurd (omega arith)
    by_tests false true j m f h = let x : ◌≡◌ {A = ℕ} 0 1 = cc in absurd (omega arith)
    by_tests false false j m f h = let a : j ≡ k = (pair_same h).0 in let c = ltb-false 128 j f in omega arith

    by_sign : (z : ℤ) (m : ℕ) → count_of s z m ≡ Ok (k, n) → k ≤ 128
    by_sign (pos j) m h = by_tests (ltb ((length s - m) / 33) j) (ltb 128 j) j m refl h
    by_sign (negsuc j) m h = let x : ◌≡◌ {A = ℕ} 0 1 = cc in absurd (omega arith)

    by_answer : (g : Got) → signed_of (count_of s) Err g ≡ Ok (k, n) → k ≤ 128
    by_answer (Ok (v, m)) h = by_sign (zag v) m h
    by_answer (Err r) h = let x : ◌≡◌ {A = ℕ} 0 1 = cc in absurd (omega arith)
