-- Rows of edition 2, computed: the order of 1, 8 and 35, and what a row of another spill gives.
use mathlib.Core.Path.{◌≡◌, refl}
use mathlib.Core.List.{List, [], ◌∷◌, ◌++◌}
use Prim.Native.Nat.{ℕ}
use lib.IntN.{pos}
use lib.ListN.{replicate}
use Rattle.stores.specs.Equal.{same_bytes}
use Rattle.vlq_core.specs.Reading.{dec, read_any, read_at}
use Rattle.segment_core.specs.Reading.{Seg, seg, no_seg, length_at, numbers_at, list_at, counts_at, segment_at}
use Rattle.segment_id.specs.declared.Kind.{Kind}
use Rattle.segment_id.specs.declared.Kind.TheVariants.{Box, Tx}
use Rattle.index_types.specs.declared.RowEdition.TheVariants.{Two}
use Rattle.buffer_core.specs.Edition.{row_under}

-- a row without entries that writes a parent of 32 equal bytes, a kind byte and a coded number; `more` stands behind it
abbrev pub small_row : (byte kind coded : ℕ) (more : List ℕ) → List ℕ
small_row b k c more = replicate 32 b ++ (k ∷ c ∷ 0 ∷ 0 ∷ 0 ∷ 0 ∷ more)

-- read as spill 1 of the parent of 32 sevens
abbrev pub as_first : Kind → List ℕ → Seg
as_first kind row = row_under Two kind (replicate 32 7) (pos 1) row

pub own_row : as_first Tx (small_row 7 2 2 []) ≡ seg [] [] (pos 0) (pos 0) 38
unfolding row_under same_bytes dec read_any read_at length_at numbers_at list_at counts_at segment_at
own_row = refl

pub row_of_another_parent : as_first Box (small_row 8 1 2 []) ≡ no_seg 35
unfolding row_under same_bytes dec read_any read_at length_at numbers_at list_at counts_at segment_at
row_of_another_parent = refl

pub row_of_another_kind : as_first Box (small_row 7 2 2 []) ≡ no_seg 35
unfolding row_under same_bytes dec read_any read_at length_at numbers_at list_at counts_at segment_at
row_of_another_kind = refl

pub row_of_another_number : as_first Box (small_row 7 1 0 []) ≡ no_seg 35
unfolding row_under same_bytes dec read_any read_at length_at numbers_at list_at counts_at segment_at
row_of_another_number = refl

-- "tested after the row is decoded": 8 comes first, and so does 1
pub longer_row_of_another : as_first Box (small_row 8 1 2 (0 ∷ [])) ≡ no_seg 8
unfolding row_under same_bytes dec read_any read_at length_at numbers_at list_at counts_at segment_at
longer_row_of_another = refl

pub cut_header : as_first Box (replicate 32 8 ++ (1 ∷ [])) ≡ no_seg 1
unfolding row_under same_bytes dec read_any read_at length_at numbers_at list_at counts_at segment_at
cut_header = refl
