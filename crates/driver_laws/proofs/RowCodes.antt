-- No refusal of a row is the number 0.
use Prim.Native.Nat.{ℕ, ◌<◌}
use mathlib.Core.Path.{◌≡◌, refl}
use mathlib.Core.Logic.{inl, inr}
use mathlib.Core.Bool.{Bool, true, not, ◌||◌}
use mathlib.Core.List.{List}
use native.Mathlib.Omega.{arith}
use lib.Dec.{eqb, leb}
use lib.IntN.{ℤ, pos}
use lib.ListN.{length}
use Rattle.records.specs.declared.Place.{Place}
use Rattle.records.specs.declared.Place.TheVariants.{Staged, Table, Missing}
use Rattle.segment_id.specs.declared.Kind.{Kind}
use Rattle.segment_id.specs.declared.Kind.TheVariants.{Box, Tx}
use Rattle.segment_core.specs.Row.{row_limit}
use Rattle.segment_core.specs.Reading.{Seg, seg, no_seg, segment_at, ended}
use Rattle.segment_core.proofs.CodecLaws.{Few, segment_refusals}
use Rattle.buffer_core.specs.Edition.{edition_1, RowRead, good, bad, numbers_of, named, row_under}
use Rattle.buffer_core.specs.Spills.{Sources, place_at, read_placed, spill_read}
use Rattle.buffer_core.proofs.RefusedLaws.{both}

abbrev SegNotZero : Seg → Type 0
SegNotZero (seg ts bs b t n) = Unit {0}
SegNotZero (no_seg r) = 0 < r

few_coded : (r : ℕ) → Few 6 r → 0 < r
few_coded r (inl p) = omega (arith, p.0)
few_coded r (inr e) = omega (arith, e)

segment_coded : (s : List ℕ) (at : ℕ) (x : Seg) → segment_at s at ≡ x → SegNotZero x
segment_coded s at (seg ts bs b t n) e = tt
segment_coded s at (no_seg r) e = few_coded r (segment_refusals s at r e)

ended_coded : (must : Bool) (len : ℕ) (x : Seg) → SegNotZero x → SegNotZero (ended must len x)
ended_coded must len (seg ts bs b t n) h = both SegNotZero (not must || eqb n len) tt (omega arith)
ended_coded must len (no_seg r) h = h

named_coded : (is : Bool) (x : Seg) → SegNotZero x → SegNotZero (named is x)
named_coded is (seg ts bs b t n) h = both SegNotZero is tt (omega arith)
named_coded is (no_seg r) h = h

abbrev pub RowNotZero : RowRead → Type 0
RowNotZero (bad r) = 0 < r
RowNotZero (good zs) = Unit {0}

numbers_coded : (kind : Kind) (x : Seg) → SegNotZero x → RowNotZero (numbers_of kind x)
numbers_coded Box (seg ts bs b t n) h = tt
numbers_coded Tx (seg ts bs b t n) h = tt
numbers_coded Box (no_seg r) h = h
numbers_coded Tx (no_seg r) h = h

decode_coded : (kind : Kind) (parent : List ℕ) (n : ℤ) (row : List ℕ) → RowNotZero (edition_1.decode kind parent n row)
unfolding row_under
decode_coded kind parent n row =
    both (λ (x : Seg). RowNotZero (numbers_of kind x)) (leb (length row) row_limit)
    (numbers_coded kind (named true (ended true (length row) (segment_at row 0)))
    (named_coded true (ended true (length row) (segment_at row 0)) (ended_coded true (length row) (segment_at row 0) (segment_coded row 0 (segment_at row 0) refl))))
    (numbers_coded kind (no_seg 25) (omega arith))

pub spill_coded : (kind : Kind) (w : Sources) (n : ℕ) → RowNotZero (spill_read edition_1 kind w n)
unfolding spill_read
spill_coded kind w n = by (place_at edition_1 kind w n)
  where
    by : (x : Place) → RowNotZero (read_placed edition_1 kind w n x)
    by (Staged i) = decode_coded kind w.parent (pos n) _
    by (Table i) = decode_coded kind w.parent (pos n) _
    by Missing = omega arith
