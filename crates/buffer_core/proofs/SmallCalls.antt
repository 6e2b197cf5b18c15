-- Small calls, computed: what a flush leaves of a staged row whose key is deleted or not, where the halving ends, and what a spend writes to a row. Records have 36 bytes here.
use mathlib.Core.Path.{◌≡◌, refl}
use mathlib.Core.List.{List, [], ◌∷◌, ◌++◌}
use Prim.Native.Nat.{ℕ, zero, suc, ◌+◌, ◌*◌}
use lib.IntN.{ℤ, pos, negsuc}
use lib.ListN.{get_or, replicate}
use Rattle.stores.specs.Stores.{write}
use Rattle.stores.specs.Equal.{same_bytes}
use Rattle.index_types.specs.declared.ListCounts.{ListCounts}
use Rattle.records.specs.Records.{records, stored_row, record_of}
use Rattle.records.specs.Find.{find_from, distinct}
use Rattle.records.specs.Checks.{lengths_ok, records_ok, keys_ok}
use Rattle.buffer_core.specs.declared.Direction.{Direction}
use Rattle.buffer_core.specs.declared.Direction.TheVariants.{Spend, Unspend}
use Rattle.std.specs.Prelude.{Ok}
use Rattle.buffer_core.specs.Edition.{Edition, good, edition_1}
use Rattle.buffer_core.specs.Spills.{place_at, spill_read}
use Rattle.buffer_core.specs.Append.{counts_of}
use Rattle.buffer_core.specs.Pop.{Lists, lists, lists_ok}
use Rattle.buffer_core.specs.Flip.{flip_of, flip_ok, flip_core, flip_effect, in_order, in_rows, search_by, search_in, walk_from, look_in, stage_at, row_flipped}
use Rattle.buffer_core.specs.Flush.{flush_of, flush_core, flushed, table_after, put_undeleted, put_staged, remove_key, remove_keys, new_count}

abbrev pub one_place : (count : ℕ) → ListCounts
one_place n = record { count = n; capacity = 1 }

-- ---- a flush
abbrev pub short_records : Edition
short_records = record { size = 36; limit = 2; key = edition_1.key; encode = edition_1.encode; decode = edition_1.decode; with_boxes = edition_1.with_boxes }

-- one staged row, its key (32 zeros) deleted or not, and a table that has room for it
abbrev pub staged_row_lists : (deleted : ℕ) → Lists
staged_row_lists n = lists (one_place 1) (replicate 36 0) (one_place 0) (replicate 36 0) (one_place n) (replicate 32 0)

-- "Staged rows whose key is not deleted are written"; "staging and deletion list end empty"
pub flush_writes : (flush_of short_records (staged_row_lists 0)).answer ≡ Ok (one_place 1, one_place 0, one_place 0)
unfolding flush_of flush_core flushed table_after put_undeleted put_staged remove_key remove_keys new_count lists_ok records_ok keys_ok lengths_ok distinct records find_from same_bytes
flush_writes = refl

pub flush_leaves_out : (flush_of short_records (staged_row_lists 1)).answer ≡ Ok (one_place 0, one_place 0, one_place 0)
unfolding flush_of flush_core flushed table_after put_undeleted put_staged remove_key remove_keys new_count lists_ok records_ok keys_ok lengths_ok distinct records find_from same_bytes
flush_leaves_out = refl

-- ---- the halving: of rows that begin with 1, 11 and 21 the first two may hold 15
pub halving_ends : search_in (λ n. Ok (n * 10 + 1)) 15 0 3 ≡ Ok 2
unfolding search_by
halving_ends = refl

-- ---- a spend in a row: rows of one byte, 512 times the number 5, the first of them spent where the byte is not 0
abbrev first_five : ℕ → ℤ
first_five zero = pos 5
first_five (suc n) = negsuc 4

abbrev mark_of : List ℤ → ℕ
mark_of [] = 0
mark_of (pos n ∷ zs) = 0
mark_of (negsuc n ∷ zs) = 1

abbrev pub marked_rows : Edition
marked_rows = record {
  size = 36;
  limit = 2;
  key = λ kind parent n. replicate 32 0;
  encode = λ kind parent n zs. mark_of zs ∷ [];
  decode = λ kind parent n row. good (first_five (get_or row 0 0) ∷ replicate 511 (pos 5));
  with_boxes = λ parent n row zs. mark_of zs ∷ [];
}

-- the record of a row with that mark
abbrev pub marked_row : (mark : ℕ) → List ℕ
marked_row m = replicate 32 0 ++ (0 ∷ 1 ∷ m ∷ 0 ∷ [])

-- what is staged after a flip of 5, with one row in the table and an empty head
abbrev staged_after : Direction → (mark : ℕ) → List ℕ
staged_after d m = (flip_of marked_rows d [] (counts_of 0 (pos 1)) (pos 5) (one_place 0) (replicate 36 0) (one_place 1) (marked_row m) (replicate 512 (pos 0))).staged

pub spend_stages : staged_after Spend 0 ≡ marked_row 1
unfolding flip_of flip_ok flip_core flip_effect in_order in_rows search_by walk_from look_in stage_at row_flipped place_at spill_read records_ok lengths_ok distinct records find_from stored_row record_of same_bytes write
spend_stages = refl

pub unspend_stages : staged_after Unspend 1 ≡ marked_row 0
unfolding flip_of flip_ok flip_core flip_effect in_order in_rows search_by walk_from look_in stage_at row_flipped place_at spill_read records_ok lengths_ok distinct records find_from stored_row record_of same_bytes write
unspend_stages = refl
