-- The segment row as bytes (document 01, "Segment row"): "Transaction list length, its numbers, box list length, its numbers,
-- box spill count, tx spill count." Every one of them is a coded number.
use Rattle.std.specs.Prelude.{ℕ, ◌+◌, ◌≤◌, ◌⊎◌, List, [], ◌∷◌, ◌++◌, ℤ, pos, length}
use Rattle.index_types.specs.Limits.{segment_threshold}
use Rattle.vlq_core.specs.Zigzag.{zig}
use Rattle.vlq_core.specs.Groups.{enc}

-- numbers, one after the other
unfoldable pub numbers_bytes : List ℤ → List ℕ
numbers_bytes [] = []
numbers_bytes (z ∷ zs) = enc (zig z) ++ numbers_bytes zs

-- a list: its length, then its numbers
abbrev pub list_bytes : List ℤ → List ℕ
list_bytes zs = enc (zig (pos (length zs))) ++ numbers_bytes zs

-- the box spill count, then the tx spill count
abbrev pub counts_bytes : ℤ → ℤ → List ℕ
counts_bytes b t = enc (zig b) ++ enc (zig t)

-- transactions ts, boxes bs, box spill count b, tx spill count t
unfoldable pub row_bytes : List ℤ → List ℤ → ℤ → ℤ → List ℕ
row_bytes ts bs b t = list_bytes ts ++ (list_bytes bs ++ counts_bytes b t)

-- the most bytes of a row, in edition 1
abbrev pub row_limit : ℕ
row_limit = 10254

-- the first n numbers of xs are a list that a row may hold
abbrev pub Held : ℕ → List ℤ → Type 0
Held n xs = (n ≤ segment_threshold) × (n ≤ length xs)

-- room for the bytes s from position `at` on in len places: for s itself, or for the most bytes that such a part can have
abbrev pub Room : ℕ → ℕ → List ℕ → ℕ → Type 0
Room at len s most = (at + length s ≤ len) ⊎ (at + most ≤ len)
