-- Laws of a number of at most four groups, read group by group.
use mathlib.Core.Path.{◌≡◌, sym, ap, ap₂, ◌∙◌}
use mathlib.Core.List.{List}
use mathlib.Core.Logic.{inl, inr, ◌≢◌}
use mathlib.Core.Bool.{false}
use Prim.Native.Nat.{ℕ, ◌+◌, ◌-◌, ◌*◌, ◌%◌, ◌<◌, ◌≤◌}
use native.Mathlib.Omega.{arith}
use lib.ListN.{length, drop, get_or}
use borrow.Author.Tests.{ne_eqb}
use Rattle.std.specs.Prelude.{Ok}
use Rattle.vlq_core.specs.declared.Short.{Short}
use Rattle.vlq_core.specs.Reading.{dec, read_any, padded, read_at, short_of}
use Rattle.vlq_core.proofs.LoopLaws.{onto, onto_start, loop_last, loop_more}
use Rattle.vlq_core.proofs.ReadLaws.{any_64, short_form, read_short}

-- the bytes a, b, c, d from position `at` on; each but the last has its top bit set
module _ (s : List ℕ) (at : ℕ) (h : at + 4 ≤ length s) (a : ℕ) (ea : a ≡ get_or s at 0) where
  after_0 : onto 0 1 (dec 9 (drop at s) at) ≡ read_any 64 s at
  after_0 = sym (onto_start _) ∙ any_64 s at

  -- a step to position i, which the laws of the loop call j
  moved : (f sum scale i j : ℕ) → i ≡ j → onto sum scale (dec f (drop i s) i) ≡ onto sum scale (dec f (drop j s) j)
  moved f sum scale i j e = ap (λ (k : ℕ). onto sum scale (dec f (drop k s) k)) e

  any_1 : a < 128 → Ok (a, at + 1) ≡ read_any 64 s at
  any_1 k = ap (λ (x : ℕ). Ok (x, at + 1)) (omega arith) ∙ sym (loop_last s at 0 1 a (omega arith) ea 9 (omega arith) k) ∙ after_0

  module _ (ka : 128 ≤ a) (b : ℕ) (eb : b ≡ get_or s (at + 1) 0) where
    after_1 : onto (0 + 1 * (a % 128)) (1 * 128) (dec 8 (drop (at + 1) s) (at + 1)) ≡ read_any 64 s at
    after_1 = sym (loop_more s at 0 1 a (omega arith) ea 9 (omega arith) ka) ∙ after_0

    any_2 : b < 128 → Ok (a % 128 + 128 * b, at + 2) ≡ read_any 64 s at
    any_2 k = ap₂ (λ x y. Ok (x, y)) (omega arith) (omega arith) ∙ sym (loop_last s (at + 1) _ _ b (omega arith) eb 8 (omega arith) k) ∙ after_1

    module _ (kb : 128 ≤ b) (c : ℕ) (ec : c ≡ get_or s (at + 2) 0) where
      after_2 : onto (0 + 1 * (a % 128) + 1 * 128 * (b % 128)) (1 * 128 * 128) (dec 7 (drop (at + 2) s) (at + 2)) ≡ read_any 64 s at
      after_2 = moved 7 _ _ (at + 2) (at + 1 + 1) (omega arith) ∙ sym (loop_more s (at + 1) _ _ b (omega arith) eb 8 (omega arith) kb) ∙ after_1

      any_3 : c < 128 → Ok (a % 128 + 128 * (b % 128) + 16384 * c, at + 3) ≡ read_any 64 s at
      any_3 k = ap₂ (λ x y. Ok (x, y)) (omega arith) (omega arith) ∙ sym (loop_last s (at + 2) _ _ c (omega arith) ec 7 (omega arith) k) ∙ after_2

      module _ (kc : 128 ≤ c) (d : ℕ) (ed : d ≡ get_or s (at + 3) 0) where
        after_3 : onto (0 + 1 * (a % 128) + 1 * 128 * (b % 128) + 1 * 128 * 128 * (c % 128)) (1 * 128 * 128 * 128) (dec 6 (drop (at + 3) s) (at + 3)) ≡ read_any 64 s at
        after_3 = moved 6 _ _ (at + 3) (at + 2 + 1) (omega arith) ∙ sym (loop_more s (at + 2) _ _ c (omega arith) ec 7 (omega arith) kc) ∙ after_2

        any_4 : d < 128 → Ok (a % 128 + 128 * (b % 128) + 16384 * (c % 128) + 2097152 * d, at + 4) ≡ read_any 64 s at
        any_4 k = ap₂ (λ x y. Ok (x, y)) (omega arith) (omega arith) ∙ sym (loop_last s (at + 3) _ _ d (omega arith) ed 6 (omega arith) k) ∙ after_3

-- the same in the shortest form
module _ (s : List ℕ) (at : ℕ) (h : at + 4 ≤ length s) (a : ℕ) (ea : a ≡ get_or s at 0) where
  pub short_1 : a < 128 → Ok (a, at + 1) ≡ read_at 64 s at
  short_1 k = read_short 64 s at _ _ (any_1 s at h a ea k) (short_form s at (at + 1) (inl (omega arith)))

  -- the last byte
  ends : (j x : ℕ) → x ≡ get_or s (at + j) 0 → x ≢ 0 → padded s at (at + (j + 1)) ≡ false
  ends j x e n = short_form s at (at + (j + 1)) (inr (λ q. let i : at + (j + 1) - 1 ≡ at + j = omega arith in n (e ∙ rw i at q)))

  module _ (ka : 128 ≤ a) (b : ℕ) (eb : b ≡ get_or s (at + 1) 0) where
    pub short_2 : b ≢ 0 → b < 128 → Ok (a % 128 + 128 * b, at + 2) ≡ read_at 64 s at
    short_2 n k = read_short 64 s at _ _ (any_2 s at h a ea ka b eb k) (ends 1 b eb n)

    module _ (kb : 128 ≤ b) (c : ℕ) (ec : c ≡ get_or s (at + 2) 0) where
      pub short_3 : c ≢ 0 → c < 128 → Ok (a % 128 + 128 * (b % 128) + 16384 * c, at + 3) ≡ read_at 64 s at
      short_3 n k = read_short 64 s at _ _ (any_3 s at h a ea ka b eb kb c ec k) (ends 2 c ec n)

      module _ (kc : 128 ≤ c) (d : ℕ) (ed : d ≡ get_or s (at + 3) 0) where
        pub short_4 : d ≢ 0 → d < 128 → Ok (a % 128 + 128 * (b % 128) + 16384 * (c % 128) + 2097152 * d, at + 4) ≡ read_at 64 s at
        short_4 n k = read_short 64 s at _ _ (any_4 s at h a ea ka b eb kb c ec kc d ed k) (ends 3 d ed n)

-- what a short number says
pub short_read : (s : List ℕ) (at : ℕ) (r : Short) → short_of r at (read_at 64 s at) ≡ read_at 64 s at → 0 < r.size → Ok (r.coded, at + r.size) ≡ read_at 64 s at
short_read s at r e h = rw (ne_eqb r.size 0 (omega arith)) at e
