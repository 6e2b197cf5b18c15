-- The test vectors of document 01 for rows, computed by the definitions, and read back: one table, in one theorem.
use mathlib.Core.Path.{◌≡◌, refl}
use mathlib.Core.List.{[], ◌∷◌}
use lib.IntN.{pos, negsuc}
use Rattle.vlq_core.specs.Groups.{groups, enc}
use Rattle.vlq_core.specs.Reading.{dec, read_any, read_at}
use Rattle.segment_core.specs.Row.{numbers_bytes, row_bytes, row_limit}
use Rattle.segment_core.specs.Reading.{length_at, numbers_at, list_at, counts_at, segment_at, row_of, seg, no_seg}

-- txs [1], boxes [-1], counts 0 and 1; the empty row; and that row with a byte left over
pub vectors :
    (row_bytes (pos 1 ∷ []) (negsuc 0 ∷ []) (pos 0) (pos 1) ≡ 2 ∷ 2 ∷ 2 ∷ 1 ∷ 0 ∷ 2 ∷ [])
    × (row_bytes [] [] (pos 0) (pos 0) ≡ 0 ∷ 0 ∷ 0 ∷ 0 ∷ [])
    × (row_of row_limit (2 ∷ 2 ∷ 2 ∷ 1 ∷ 0 ∷ 2 ∷ []) ≡ seg (pos 1 ∷ []) (negsuc 0 ∷ []) (pos 0) (pos 1) 6)
    × (row_of row_limit (0 ∷ 0 ∷ 0 ∷ 0 ∷ 0 ∷ []) ≡ no_seg 8)
unfolding row_bytes numbers_bytes enc groups row_of segment_at list_at length_at numbers_at counts_at read_at read_any dec
vectors = (refl, refl, refl, refl)
