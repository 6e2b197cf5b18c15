-- What a flush does to a database that maps keys to rows: put each staged row whose key is not deleted, then remove each deleted key, in list order.
use Rattle.std.specs.Prelude.{ℕ, cond, List, [], ◌∷◌}
use Rattle.stores.specs.Equal.{same_bytes}
use Rattle.records.specs.Records.{records, key_of, stored_row}
use Rattle.records.specs.Find.{find_key, is_found}
use Rattle.buffer_core.specs.Edition.{Edition}
use Rattle.buffer_core.specs.Pop.{Lists}
use Rattle.buffer_core.specs.Flush.{deleted_keys}
use Rattle.working_set.specs.Part.{Held, absent, held}

abbrev pub Map : Type 0
Map = List ℕ → Held

abbrev pub put_row : (key row : List ℕ) → Map → Map
put_row key row m k = cond (same_bytes key k) (held row) (m k)

abbrev pub remove_row : (key : List ℕ) → Map → Map
remove_row key m k = cond (same_bytes key k) absent (m k)

unfoldable pub put_rows : (deleted rs : List (List ℕ)) → Map → Map
put_rows deleted [] m = m
put_rows deleted (r ∷ rs) m = put_rows deleted rs (cond (is_found (find_key (key_of r) deleted)) m (put_row (key_of r) (stored_row r) m))

unfoldable pub remove_rows : List (List ℕ) → Map → Map
remove_rows [] m = m
remove_rows (k ∷ ks) m = remove_rows ks (remove_row k m)

-- the transaction of a flush
unfoldable pub transaction : Edition → Lists → Map → Map
transaction E b m = remove_rows (deleted_keys E b) (put_rows (deleted_keys E b) (records E.size b.staged_counts.count b.staged) m)
