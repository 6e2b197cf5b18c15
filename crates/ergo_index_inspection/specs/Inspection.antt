-- What the exports on spill rows leave: which list holds the row under a key (1 the staged spills, 2 the segments table), and the index of its record, or
-- where the row begins and how long it is. A key in neither list is no refusal where a row is located (list 0), and refusal 12 where it is inspected.
-- A record has 32 bytes of the key, 2 of the length, then the row. A refusal changes nothing.
use Rattle.std.specs.Prelude.{ℕ, ◌+◌, ◌*◌, List, length}
use Rattle.spill_places.specs.declared.Located.{Located}
use Rattle.spill_places.specs.declared.Located.TheVariants as located
use Rattle.spill_places.specs.Inspection.{locate_row, inspect_code, inspect_row}
use Rattle.index_types.specs.declared.RowEdition.{RowEdition}
use Rattle.buffer_core.specs.Edition.{record_size, row_limit_of}
use Rattle.ergo_index_lists.specs.Lists.{list_of}

-- ---- the record: the code, the list and the index
pub record LocateOut : Type 0 where
  pub code : ℕ
  pub list : ℕ
  pub index : ℕ

abbrev pub locate_out : ℕ → ℕ → ℕ → LocateOut
locate_out code list index = record { code = code; list = list; index = index }

abbrev pub locate_export : ℕ → ℕ → Located → LocateOut
locate_export list index (located.Staged i) = locate_out 0 1 i
locate_export list index (located.Table i) = locate_out 0 2 i
locate_export list index located.Missing = locate_out 0 0 0
locate_export list index (located.Refused code) = locate_out code list index

abbrev pub locate_call : RowEdition → (s s_capacity : ℕ) → List ℕ → (t t_capacity : ℕ) → List ℕ → (key : List ℕ) → (list index : ℕ) → LocateOut
locate_call v s sc staged t tc table key list index =
    locate_export list index (locate_row (record_size v) (row_limit_of v) (list_of s sc) staged (list_of t tc) table key)

-- ---- the row: the code, the list, where the row begins in it and how long it is
pub record InspectOut : Type 0 where
  pub code : ℕ
  pub list : ℕ
  pub offset : ℕ
  pub size : ℕ

abbrev pub inspect_out : ℕ → ℕ → ℕ → ℕ → InspectOut
inspect_out code list offset size = record { code = code; list = list; offset = offset; size = size }

-- records have z bytes; code and row-size are the code that `inspect_spill` answers and the length of the row that it shows
abbrev pub inspect_export : (z code row_size list offset size : ℕ) → Located → InspectOut
inspect_export z code row_size list offset size (located.Staged i) = inspect_out code 1 (i * z + 34) row_size
inspect_export z code row_size list offset size (located.Table i) = inspect_out code 2 (i * z + 34) row_size
inspect_export z code row_size list offset size located.Missing = inspect_out code list offset size
inspect_export z code row_size list offset size (located.Refused c) = inspect_out code list offset size

abbrev pub inspect_call : RowEdition → (s s_capacity : ℕ) → List ℕ → (t t_capacity : ℕ) → List ℕ → (key : List ℕ) → (list offset size : ℕ) → InspectOut
inspect_call v s sc staged t tc table key list offset size =
    inspect_export (record_size v) (inspect_code (record_size v) (row_limit_of v) (list_of s sc) staged (list_of t tc) table key) (length (inspect_row (record_size v) (row_limit_of v) (list_of s sc) staged (list_of t tc) table key)) list offset size
    (locate_row (record_size v) (row_limit_of v) (list_of s sc) staged (list_of t tc) table key)
