-- Reading a segment row (document 01, "Segment row" and the table's row "Reader"): "Lengths and spill counts are 32-bit, the rest 64-bit.
-- Each length is checked for 3, 4, 5 in that order, spill counts after both are read."
-- Refusals: 1, 2 as a coded number; 3 negative length; 4 list above 512; 5 length above bytes left; 6 negative spill count; 8 bytes left over;
-- 25 row above the limit.
use Rattle.std.specs.Prelude.{ℕ, zero, suc, ◌-◌, Bool, true, cond, ◌||◌, not, List, [], ◌∷◌, leb, ltb, eqb, ℤ, pos, negsuc, length, Ok, Err}
use Rattle.index_types.specs.Limits.{segment_threshold}
use Rattle.signed.specs.Sign.{is_negative}
use Rattle.vlq_core.specs.Answers.{Got}
use Rattle.vlq_core.specs.Reading.{read_at, signed_of}
use Rattle.segment_core.specs.Answers.{Counts}
use Rattle.segment_core.specs.Row.{row_bytes}

-- ---- a length: 3, then 4, then 5, which counts the bytes of s behind the length

abbrev pub length_of : List ℕ → ℤ → ℕ → Got
length_of s (pos k) n = cond (ltb segment_threshold k) (Err 4) (cond (ltb (length s - n) k) (Err 5) (Ok (k, n)))
length_of s (negsuc k) n = Err 3

unfoldable pub length_at : List ℕ → ℕ → Got
length_at s at = signed_of (length_of s) Err (read_at 32 s at)

-- ---- a list: its numbers and the position after them, or the refusal

pub data Nums : Type 0 where
  nums : List ℤ → ℕ → Nums
  bad : ℕ → Nums

abbrev pub cons_nums : ℤ → Nums → Nums
cons_nums z (nums zs n) = nums (z ∷ zs) n
cons_nums z (bad r) = bad r

-- k numbers from position `at` on
unfoldable pub numbers_at : ℕ → List ℕ → ℕ → Nums
numbers_at zero s at = nums [] at
numbers_at (suc k) s at = signed_of (λ z n. cons_nums z (numbers_at k s n)) bad (read_at 64 s at)

-- a length and its numbers
abbrev pub numbers_from : List ℕ → Got → Nums
numbers_from s (Ok (k, n)) = numbers_at k s n
numbers_from s (Err r) = bad r

unfoldable pub list_at : List ℕ → ℕ → Nums
list_at s at = numbers_from s (length_at s at)

-- ---- the spill counts, of boxes and of transactions: both are read before either is tested

abbrev pub both_counts : ℤ → ℤ → ℕ → Counts
both_counts b t n = cond (is_negative b || is_negative t) (Err 6) (Ok (b, t, n))

unfoldable pub counts_at : List ℕ → ℕ → Counts
counts_at s at = signed_of (λ b n. signed_of (both_counts b) Err (read_at 32 s n)) Err (read_at 32 s at)

-- ---- a segment: transactions, boxes, box spill count, tx spill count, and the position after them; or the refusal

pub data Seg : Type 0 where
  seg : List ℤ → List ℤ → ℤ → ℤ → ℕ → Seg
  no_seg : ℕ → Seg

abbrev pub list_then : (List ℤ → ℕ → Seg) → Nums → Seg
list_then f (nums zs n) = f zs n
list_then f (bad r) = no_seg r

abbrev pub counts_then : (ℤ → ℤ → ℕ → Seg) → Counts → Seg
counts_then f (Ok (b, t, n)) = f b t n
counts_then f (Err r) = no_seg r

-- the segment at position `at` of s, whatever follows it
unfoldable pub segment_at : List ℕ → ℕ → Seg
segment_at s at = list_then (λ ts p. list_then (λ bs q. counts_then (seg ts bs) (counts_at s q)) (list_at s p)) (list_at s at)

-- 8 where it must end the bytes and does not; `len` is how many there are
abbrev pub ended : Bool → ℕ → Seg → Seg
ended must len (seg ts bs b t n) = cond (not must || eqb n len) (seg ts bs b t n) (no_seg 8)
ended must len (no_seg r) = no_seg r

-- a row of at most `limit` bytes: its segment, and nothing behind it
unfoldable pub row_of : ℕ → List ℕ → Seg
row_of limit s = cond (leb (length s) limit) (ended true (length s) (segment_at s 0)) (no_seg 25)

-- ---- the row s with other boxes: its transactions and spill counts stay
abbrev pub with_boxes : Seg → List ℕ → List ℤ → List ℕ
with_boxes (seg ts bs b t n) s bs' = row_bytes ts bs' b t
with_boxes (no_seg r) s bs' = s

unfoldable pub redo : List ℕ → List ℤ → List ℕ
redo s bs' = with_boxes (segment_at s 0) s bs'
