-- Rows that are written, whatever the numbers and counts: a number has at most ten bytes, so that a row of 512 fits; and a row that is read, written anew with other
-- boxes, fits and is read back, since a header that is read has a 32-bit spill number.
use Prim.Native.Nat.{ℕ, zero, suc, ◌+◌, ◌*◌, ◌^◌, ◌/◌, ◌%◌, ◌≤◌, ◌<◌}
use mathlib.Core.Path.{◌≡◌, refl, sym, ◌∙◌, ap}
use mathlib.Core.Bool.{Bool, true, false, cond, ◌&&◌}
use mathlib.Core.List.{List, [], ◌∷◌, ◌++◌}
use native.Mathlib.Omega.{arith}
use lib.Dec.{leb, ltb, eqb}
use lib.IntN.{ℤ, pos}
use lib.ListN.{length, take, get_or, length-append}
use borrow.Author.Tests.{eqb-true}
use Rattle.stores.specs.Equal.{same_bytes}
use Rattle.vlq_core.specs.Zigzag.{zig}
use Rattle.vlq_core.specs.Groups.{groups, enc}
use Rattle.std.specs.Prelude.{Ok, Err}
use Rattle.vlq_core.specs.Answers.{Got}
use Rattle.vlq_core.specs.Reading.{read_at}
use Rattle.vlq_core.proofs.ReadLaws.{read_fits}
use Rattle.segment_id.specs.declared.Kind.{Kind}
use Rattle.segment_id.specs.declared.Kind.TheVariants.{Box, Tx}
use Rattle.segment_core.specs.Row.{numbers_bytes, list_bytes, counts_bytes, row_bytes, row_limit}
use Rattle.segment_core.specs.Reading.{Seg, seg, no_seg, segment_at, ended}
use Rattle.segment_core.proofs.BackLaws.{All64}
use Rattle.index_types.specs.declared.RowEdition.{RowEdition}
use Rattle.index_types.specs.declared.RowEdition.TheVariants.{One, Two}
use Rattle.buffer_core.specs.Edition.{good, row_limit_of, number_at, kind_byte, header, says, spill_bytes, numbers_of, named, body_then, row_under, redo_under}
use Rattle.buffer_core.proofs.BackLaws.{within, redo_short, redo_back}

-- ---- a row of any 512 numbers
groups_most : (f c : ℕ) → length (groups f c) ≤ suc f
unfolding groups
groups_most zero c = omega arith
groups_most (suc f) c = by_size (ltb c 128) (groups_most f (c / 128))
  where
    by_size : (x : Bool) → length (groups f (c / 128)) ≤ suc f → length (cond x (c ∷ []) ((128 + c % 128) ∷ groups f (c / 128))) ≤ suc (suc f)
    by_size true h = omega arith
    by_size false h = omega arith

number_most : (c : ℕ) → length (enc c) ≤ 10
unfolding enc
number_most c = groups_most 9 c

numbers_most : (l : List ℤ) → length (numbers_bytes l) ≤ 10 * length l
unfolding numbers_bytes
numbers_most [] = omega arith
numbers_most (z ∷ l) = omega (arith, length-append (enc (zig z)) (numbers_bytes l), number_most (zig z), numbers_most l)

row_most : (ts bs : List ℤ) (b t : ℤ) → length ts + length bs ≤ 512 → length (row_bytes ts bs b t) ≤ row_limit
unfolding row_bytes
row_most ts bs b t h = omega (
  arith,
  length-append (list_bytes ts) (list_bytes bs ++ counts_bytes b t),
  length-append (list_bytes bs) (counts_bytes b t),
  length-append (enc (zig (pos (length ts)))) (numbers_bytes ts),
  length-append (enc (zig (pos (length bs)))) (numbers_bytes bs),
  length-append (enc (zig b)) (enc (zig t)),
  number_most (zig (pos (length ts))),
  number_most (zig (pos (length bs))),
  number_most (zig b),
  number_most (zig t),
  numbers_most ts,
  numbers_most bs,
)

spill_most : (k : Kind) (l : List ℤ) → length l ≤ 512 → length (spill_bytes k l) ≤ row_limit
spill_most Box l h = row_most [] l (pos 0) (pos 0) (omega arith)
spill_most Tx l h = row_most l [] (pos 0) (pos 0) (omega arith)

pub encode_short : (v : RowEdition) (k : Kind) (p : List ℕ) → length p ≡ 32 → (n : ℕ) → n < 2147483648 → (l : List ℤ) → length l ≤ 512
    → length (header v k p (pos n) ++ spill_bytes k l) ≤ row_limit_of v
encode_short v k p e n u l h = omega (arith, length-append (header v k p (pos n)) (spill_bytes k l), spill_most k l h, within k p e n u v)

-- ---- a row of edition 2 that is read says its number in 32 bits
low_read : (p : List ℕ) (n : ℕ) (s : List ℕ) (l : List ℤ) → numbers_of Box (row_under Two Box p (pos n) s) ≡ good l → n < 2147483648
unfolding row_under
low_read p n s l e = by_limit (leb (length s) (row_limit_of Two)) (read_at 32 s number_at) refl e
  where
    by_name : (c : ℕ) → c < 2 ^ 32 → (x y z : Bool) → eqb c (2 * n) ≡ z → (g : Seg) → numbers_of Box (named (x && (y && z)) g) ≡ good l → n < 2147483648
    by_name c h x y z q (no_seg r) e = let w : ◌≡◌ {A = ℕ} 0 1 = cc in absurd (omega arith)
    by_name c h true true true q (seg us cs d f i) e = omega (arith, eqb-true c (2 * n) q)
    by_name c h true true false q (seg us cs d f i) e = let w : ◌≡◌ {A = ℕ} 0 1 = cc in absurd (omega arith)
    by_name c h true false z q (seg us cs d f i) e = let w : ◌≡◌ {A = ℕ} 0 1 = cc in absurd (omega arith)
    by_name c h false y z q (seg us cs d f i) e = let w : ◌≡◌ {A = ℕ} 0 1 = cc in absurd (omega arith)

    by_limit : (x : Bool) (g : Got) → read_at 32 s number_at ≡ g
        → numbers_of Box (cond x (body_then (λ c at. named (says Two Box p (pos n) s c) (ended true (length s) (segment_at s at))) g) (no_seg 25)) ≡ good l → n < 2147483648
    by_limit false g q e = let w : ◌≡◌ {A = ℕ} 0 1 = cc in absurd (omega arith)
    by_limit true (Err r) q e = let w : ◌≡◌ {A = ℕ} 0 1 = cc in absurd (omega arith)
    by_limit true (Ok (c, at)) q e =
        by_name c (read_fits 32 s number_at c at (sym q)) (same_bytes (take 32 s) p) (eqb (get_or s 32 0) (kind_byte Box)) (eqb c (2 * n)) refl (ended true (length s) (segment_at s at)) e

-- in edition 1 the spill number is not written
one_same : (p : List ℕ) (n : ℕ) (s : List ℕ) → row_under One Box p (pos n) s ≡ row_under One Box p (pos 0) s
unfolding row_under
one_same p n s = refl

one_redo : (p : List ℕ) (n : ℕ) (s : List ℕ) (new : List ℤ) → redo_under One p (pos n) s new ≡ redo_under One p (pos 0) s new
unfolding redo_under row_under
one_redo p n s new = refl

-- ---- a row that was read, with other boxes
module _ (p : List ℕ) (long : length p ≡ 32) (n : ℕ) (row : List ℕ) (l new : List ℤ) (few : length new ≤ 512) (fit : All64 new) where
  pub redone : (v : RowEdition) → numbers_of Box (row_under v Box p (pos n) row) ≡ good l
      → (length (redo_under v p (pos n) row new) ≤ row_limit_of v) × (numbers_of Box (row_under v Box p (pos n) (redo_under v p (pos n) row new)) ≡ good new)
  redone One e =
      let f = ap (numbers_of Box) (sym (one_same p n row)) ∙ e in
      let q = one_redo p n row new in (
        omega (arith, ap length q, redo_short One p long 0 (omega arith) row l new few fit f),
        ap (numbers_of Box) (ap (row_under One Box p (pos n)) q ∙ one_same p n (redo_under One p (pos 0) row new)) ∙ redo_back One p long 0 (omega arith) row l new few fit f,
      )
  redone Two e =
      let low = low_read p n row l e in
      (redo_short Two p long n low row l new few fit e, redo_back Two p long n low row l new few fit e)
