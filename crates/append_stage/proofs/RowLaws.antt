-- Laws of the row of a head's first 512 numbers: how long its body is at most.
use Prim.Native.Nat.{ℕ, zero, suc, ◌+◌, ◌*◌, ◌/◌, ◌%◌, ◌≤◌}
use mathlib.Core.Bool.{Bool, true, false, cond}
use mathlib.Core.List.{List, [], ◌∷◌}
use native.Mathlib.Omega.{arith}
use lib.Dec.{ltb}
use lib.IntN.{ℤ, pos}
use lib.ListN.{length, take, length-append}
use lib.Seq.{length-take-le}
use Rattle.vlq_core.specs.Zigzag.{zig}
use Rattle.vlq_core.specs.Groups.{groups, enc}
use Rattle.segment_id.specs.declared.Kind.{Kind}
use Rattle.segment_id.specs.declared.Kind.TheVariants.{Box, Tx}
use Rattle.segment_core.specs.Row.{numbers_bytes, list_bytes, counts_bytes, row_bytes, row_limit}
use Rattle.segment_core.proofs.RowLaws.{length_size, row_length}
use Rattle.buffer_core.specs.Edition.{spill_bytes}

-- ---- the body of a spill's row

groups_most : (f c : ℕ) → length (groups f c) ≤ suc f
unfolding groups
groups_most zero c = omega arith
groups_most (suc f) c = by_test (ltb c 128) (groups_most f (c / 128))
  where
    by_test : (t : Bool) → length (groups f (c / 128)) ≤ suc f → length (cond t (c ∷ []) ((128 + c % 128) ∷ groups f (c / 128))) ≤ suc (suc f)
    by_test true h = omega arith
    by_test false h = omega arith

enc_most : (c : ℕ) → length (enc c) ≤ 10
unfolding enc
enc_most c = groups_most 9 c

numbers_most : (zs : List ℤ) → length (numbers_bytes zs) ≤ 10 * length zs
unfolding numbers_bytes
numbers_most [] = omega arith
numbers_most (z ∷ zs) = omega (arith, length-append (enc (zig z)) (numbers_bytes zs), numbers_most zs, enc_most (zig z))

list_most : (zs : List ℤ) → length zs ≤ 512 → length (list_bytes zs) ≤ 5122
list_most zs h = omega (arith, length-append (enc (zig (pos (length zs)))) (numbers_bytes zs), numbers_most zs, length_size (length zs) h)

counts_most : length (counts_bytes (pos 0) (pos 0)) ≤ 4
counts_most = omega (arith, length-append (enc (zig (pos 0))) (enc (zig (pos 0))), length_size 0 (omega arith))

row_most : (ts bs : List ℤ) → length ts ≤ 512 → length bs ≤ 512 → length (row_bytes ts bs (pos 0) (pos 0)) ≤ row_limit
row_most ts bs h k = omega (arith, row_length ts bs (pos 0) (pos 0), list_most ts h, list_most bs k, counts_most)

-- whatever the numbers are
pub spill_most : (kind : Kind) (zs : List ℤ) → length zs ≤ 512 → length (spill_bytes kind zs) ≤ row_limit
spill_most Box zs h = row_most [] zs (omega arith) h
spill_most Tx zs h = row_most zs [] h (omega arith)

-- ---- the row of a head's first 512 numbers

pub head_row_most : (kind : Kind) (head : List ℤ) → 512 ≤ length head → length (spill_bytes kind (take 512 head)) ≤ row_limit
head_row_most kind head k = spill_most kind (take 512 head) (omega (arith, length-take-le 512 head k))
