-- What refusal 25 asks of a list (document 01, table, row "Buffers"): "a record count above capacity, segment row above 10,254 bytes, ..
-- a key standing twice in one record or key list, or a lent buffer too short for its stated capacity".
use Rattle.std.specs.Prelude.{ℕ, ◌*◌, ◌≤◌, ◌≡◌, Bool, true, ◌&&◌, List, [], ◌∷◌, leb, length}
use Rattle.index_types.specs.declared.ListCounts.{ListCounts}
use Rattle.records.specs.Records.{records, keys, stored_length}
use Rattle.records.specs.Find.{distinct}

-- the count is at most the capacity, and the capacity's records lie within the bytes; the product is the true one
abbrev pub in_bounds : (size : ℕ) → ListCounts → List ℕ → Bool
in_bounds size c l = leb c.count c.capacity && leb (c.capacity * size) (length l)

-- every record states a length of at most the row limit
unfoldable pub lengths_ok : (limit : ℕ) → List (List ℕ) → Bool
lengths_ok limit [] = true
lengths_ok limit (r ∷ rs) = leb (stored_length r) limit && lengths_ok limit rs

-- a record list passes 25
unfoldable pub records_ok : (size limit : ℕ) → ListCounts → List ℕ → Bool
records_ok size limit c l = in_bounds size c l && lengths_ok limit (records size c.count l) && distinct (keys size c.count l)

-- a key list passes 25
unfoldable pub keys_ok : ListCounts → List ℕ → Bool
keys_ok c l = in_bounds 32 c l && distinct (keys 32 c.count l)

-- ---- the same as facts, for functions that require them

-- the bounds of a list that passes
pub record InBounds (size : ℕ) (c : ListCounts) (l : List ℕ) : Type 0 where
  pub counted : c.count ≤ c.capacity
  pub room : c.capacity * size ≤ length l
  pub within : c.count * size ≤ length l

-- what `records_ok` says
pub record RecordsOk (size limit : ℕ) (c : ListCounts) (l : List ℕ) : Type 0 where
  pub bounds : InBounds size c l
  pub lengths : lengths_ok limit (records size c.count l) ≡ true
  pub apart : distinct (keys size c.count l) ≡ true

-- what `keys_ok` says
pub record KeysOk (c : ListCounts) (l : List ℕ) : Type 0 where
  pub bounds : InBounds 32 c l
  pub apart : distinct (keys 32 c.count l) ≡ true
