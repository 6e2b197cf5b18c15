-- What stands before the body of a row (document 02, U7), with the kind as its byte, 1 box or 2 transaction, and any signed 32-bit spill number: what the
-- converters write, and what they test.
use Rattle.std.specs.Prelude.{ℕ, Bool, ◌&&◌, ◌||◌, List, [], ◌∷◌, ◌++◌, eqb, ℤ, take, get_or}
use Rattle.stores.specs.Equal.{same_bytes}
use Rattle.vlq_core.specs.Zigzag.{zig}
use Rattle.vlq_core.specs.Groups.{enc}
use Rattle.index_types.specs.declared.RowEdition.{RowEdition}
use Rattle.index_types.specs.declared.RowEdition.TheVariants.{One, Two}

-- "a kind byte (1 box, 2 transaction)"
abbrev pub is_kind : ℕ → Bool
is_kind k = eqb k 1 || eqb k 2

-- what stands before the body: `header` of the editions, with the kind as its byte
abbrev pub front : RowEdition → (parent : List ℕ) → (kind : ℕ) → ℤ → List ℕ
front One parent k n = []
front Two parent k n = parent ++ (k ∷ enc (zig n))

-- whether the row s, which writes the coded number c, is of the three that are given: `says` of the editions, with the kind as its byte
abbrev pub tells : RowEdition → (parent : List ℕ) → (kind : ℕ) → ℤ → List ℕ → ℕ → Bool
tells One parent k n s c = is_kind k
tells Two parent k n s c = is_kind k && (same_bytes (take 32 s) parent && (eqb (get_or s 32 0) k && eqb c (zig n)))
