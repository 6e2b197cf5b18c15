-- Flush (document 01): "Staged rows whose key is not deleted are written, then deleted keys removed, each in list order; staging and deletion list end
-- empty, all zero. A row spilled again after its key was deleted is thus lost."
-- Refusal: "22 staged undeleted keys not on the shelf outnumber its free records, those of deleted keys not counted free".
use Rattle.std.specs.Prelude.{ℕ, ◌+◌, ◌-◌, not, ◌&&◌, cond, List, [], ◌∷◌, leb, Option, Ok, Err}
use Rattle.entries.specs.Tally.{one_if}
use Rattle.index_types.specs.declared.ListCounts.{ListCounts}
use Rattle.records.specs.Records.{records, key_of, keys, stored_row, record_of}
use Rattle.records.specs.Find.{find_key, is_found}
use Rattle.records.specs.Changes.{count_after, with_count, put_record, clear_records}
use Rattle.index_types.specs.Answers.{Flushed}
use Rattle.buffer_core.specs.Edition.{Edition}
use Rattle.buffer_core.specs.Pop.{Lists, count_without, bytes_without, lists_ok}

-- the answer, and the three lists at exit
pub record Flushing : Type 0 where
  pub answer : Flushed
  pub table : List ℕ
  pub staged : List ℕ
  pub deleted : List ℕ

abbrev pub flushing : Flushed → (table staged deleted : List ℕ) → Flushing
flushing a table staged deleted = record { answer = a; table = table; staged = staged; deleted = deleted }

-- how many keys of ks stand neither among the deleted ones nor in the table
unfoldable pub new_count : (table deleted ks : List (List ℕ)) → ℕ
new_count table deleted [] = 0
new_count table deleted (k ∷ ks) = one_if (not (is_found (find_key k deleted)) && not (is_found (find_key k table))) + new_count table deleted ks

-- a record list with its counts
pub record Listed : Type 0 where
  pub counts : ListCounts
  pub bytes : List ℕ

abbrev pub listed : ListCounts → List ℕ → Listed
listed c l = record { counts = c; bytes = l }

module _ (E : Edition) where
  abbrev pub found_in : List ℕ → Listed → Option ℕ
  found_in key t = find_key key (keys E.size t.counts.count t.bytes)

  -- a staged record's row is put under its key
  unfoldable pub put_staged : List ℕ → Listed → Listed
  put_staged r t =
      listed (with_count (count_after (found_in (key_of r) t) t.counts.count) t.counts)
      (put_record E.size t.counts.count (key_of r) (record_of E.size (key_of r) (stored_row r)) t.bytes)

  -- "Staged rows whose key is not deleted are written", in list order
  unfoldable pub put_undeleted : (deleted rs : List (List ℕ)) → Listed → Listed
  put_undeleted deleted [] t = t
  put_undeleted deleted (r ∷ rs) t = put_undeleted deleted rs (cond (is_found (find_key (key_of r) deleted)) t (put_staged r t))

  -- a key's record leaves the list
  unfoldable pub remove_key : List ℕ → Listed → Listed
  remove_key k t = listed (count_without (found_in k t) t.counts) (bytes_without E.size (found_in k t) t.counts t.bytes)

  -- "then deleted keys removed", in list order
  unfoldable pub remove_keys : List (List ℕ) → Listed → Listed
  remove_keys [] t = t
  remove_keys (k ∷ ks) t = remove_keys ks (remove_key k t)

  abbrev pub deleted_keys : Lists → List (List ℕ)
  deleted_keys b = keys 32 b.deleted_counts.count b.deleted

  unfoldable pub table_after : Lists → Listed
  table_after b =
      remove_keys (deleted_keys b)
      (put_undeleted (deleted_keys b) (records E.size b.staged_counts.count b.staged) (listed b.table_counts b.table))

  unfoldable pub flushed : Lists → Flushing
  flushed b =
      flushing (Ok ((table_after b).counts, with_count 0 b.staged_counts, with_count 0 b.deleted_counts)) (table_after b).bytes
      (clear_records E.size b.staged_counts.capacity b.staged) (clear_records 32 b.deleted_counts.capacity b.deleted)

  abbrev pub new_keys : Lists → ℕ
  new_keys b = new_count (keys E.size b.table_counts.count b.table) (deleted_keys b) (keys E.size b.staged_counts.count b.staged)

  -- 22, or the flush
  unfoldable pub flush_core : Lists → Flushing
  flush_core b =
      cond (leb (new_keys b) (b.table_counts.capacity - b.table_counts.count)) (flushed b) (flushing (Err 22) b.table b.staged b.deleted)

  unfoldable pub flush_of : Lists → Flushing
  flush_of b = cond (lists_ok E b) (flush_core b) (flushing (Err 25) b.table b.staged b.deleted)
