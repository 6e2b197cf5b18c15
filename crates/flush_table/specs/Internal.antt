-- What the steps of a flush ask and give at the table. The flush itself is defined in `buffer_core`, Flush.
use Rattle.std.specs.Prelude.{ℕ, Bool, not, ◌&&◌, cond, List, take}
use Rattle.records.specs.Find.{find_key, is_found}
use Rattle.index_types.specs.declared.RowEdition.{RowEdition}
use Rattle.buffer_core.specs.Edition.{edition_of}
use Rattle.buffer_core.specs.Flush.{Listed, put_staged}

-- a key stands neither in the table nor among the deleted ones
abbrev pub is_new : (table deleted : List (List ℕ)) → List ℕ → Bool
is_new table deleted k = not (is_found (find_key k deleted)) && not (is_found (find_key k table))

-- a staged record goes to the table, unless its key is deleted
unfoldable pub put_unless_deleted : RowEdition → (deleted : List (List ℕ)) → List ℕ → Listed → Listed
put_unless_deleted v deleted r t = cond (is_found (find_key (take 32 r) deleted)) t (put_staged (edition_of v) r t)
