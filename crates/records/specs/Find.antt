-- Where a key stands in a list of keys, whether a key stands twice, and the row under a key
-- (document 01, "Shelf and staging": "shows the row's bytes from staging if the key is there, otherwise from the shelf").
use Rattle.std.specs.Prelude.{ℕ, suc, ◌*◌, Bool, true, false, cond, not, ◌&&◌, List, [], ◌∷◌, take, drop, Option, Some, None}
use Rattle.stores.specs.Equal.{same_bytes}
use Rattle.records.specs.declared.Place.{Place}
use Rattle.records.specs.declared.Place.TheVariants.{Staged, Table, Missing}
use Rattle.records.specs.Records.{keys, stored_row}

-- the index of the first key of ks that is equal, where the first of ks has index i
unfoldable pub find_from : List ℕ → ℕ → List (List ℕ) → Option ℕ
find_from key i [] = None
find_from key i (k ∷ ks) = cond (same_bytes k key) (Some i) (find_from key (suc i) ks)

-- the index of the first key that is equal
abbrev pub find_key : List ℕ → List (List ℕ) → Option ℕ
find_key key ks = find_from key 0 ks

abbrev pub is_found : Option ℕ → Bool
is_found (Some i) = true
is_found None = false

-- no key stands twice
unfoldable pub distinct : List (List ℕ) → Bool
distinct [] = true
distinct (k ∷ ks) = not (is_found (find_key k ks)) && distinct ks

-- the row of the record with an index
abbrev pub row_at : (size index : ℕ) → List ℕ → List ℕ
row_at size index l = stored_row (take size (drop (index * size) l))

-- staged spills come before the table
abbrev pub place_of : (staged table : Option ℕ) → Place
place_of (Some i) f = Staged i
place_of None (Some i) = Table i
place_of None None = Missing

-- where a key stands
abbrev pub locate_key : (size : ℕ) → List ℕ → (staged_count : ℕ) → List ℕ → (table_count : ℕ) → List ℕ → Place
locate_key size key m staged n table = place_of (find_key key (keys size m staged)) (find_key key (keys size n table))

-- the row that stands at a place
abbrev pub placed_row : (size : ℕ) → (staged table : List ℕ) → Place → List ℕ
placed_row size staged table (Staged i) = row_at size i staged
placed_row size staged table (Table i) = row_at size i table
placed_row size staged table Missing = []
