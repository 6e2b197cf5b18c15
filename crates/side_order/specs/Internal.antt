-- The steps of comparing two sides: what of a side is still to compare, and what the functions ask of their callers.
use Rattle.std.specs.Prelude.{ℕ, ◌+◌, ◌*◌, ◌-◌, ◌≤◌, ◌<◌, ◌≡◌, true, cond, List, [], ◌++◌, leb, ℤ, length, take, drop, Ok}
use Rattle.index_types.specs.Limits.{segment_threshold}
use Rattle.index_types.specs.declared.RowEdition.{RowEdition}
use Rattle.segment_id.specs.declared.Kind.{Kind}
use Rattle.records.specs.Records.{keys}
use Rattle.records.specs.Find.{distinct}
use Rattle.buffer_core.specs.Edition.{RowRead, edition_of, record_size}
use Rattle.buffer_core.specs.Spills.{Sources}
use Rattle.buffer_core.specs.Rows.{rows_up}
use Rattle.row_edition.specs.Answers.{SpillRead}
use Rattle.row_edition.specs.Internal.{SpillInto}
use Rattle.spill_rows.specs.Internal.{read_of}
use Rattle.side_order.specs.declared.Cursor.{Cursor}
use Rattle.side_order.specs.Side.{row_taken, numbers_in}

-- the rows from number n up, f reads them, and then the head; nothing where the head has been taken as well
unfoldable pub from_row : (ℕ → RowRead) → (spills : ℕ) → (head : List ℤ) → ℕ → List ℤ
from_row f spills head n = cond (leb n spills) (numbers_in (rows_up f n (spills - n)) ++ head) []

-- what is left of the row in hand, then the rows behind it
unfoldable pub to_compare : (ℕ → RowRead) → (spills : ℕ) → (head : List ℤ) → Cursor → List ℤ → List ℤ
to_compare f spills head c row = take (c.end - c.at) (drop c.at row) ++ from_row f spills head c.next

-- the answer r and the 512 numbers at exit of reading the row x
pub record TakenInto (x : RowRead) (r : SpillRead) (out : List ℤ) : Type 0 where
  pub read : SpillInto x r out

-- the bounds of the lists, and that no key of the table stands twice
pub record RowsReady (v : RowEdition) (w : Sources) (spills : ℕ) : Type 0 where
  pub in_staged : w.staged_count * record_size v ≤ length w.staged
  pub in_table : w.table_count * record_size v ≤ length w.table
  pub apart : distinct (keys (record_size v) w.table_count w.table) ≡ true
  pub few_rows : spills < 2147483648

-- the same, and a head of len numbers
pub record SideReady (v : RowEdition) (w : Sources) (spills : ℕ) (head : List ℤ) (len : ℕ) : Type 0 where
  pub rows : RowsReady v w spills
  pub places : segment_threshold ≤ length head
  pub few : len ≤ segment_threshold

-- a cursor stands in its row, and no row behind it is refused
pub record Standing (v : RowEdition) (kind : Kind) (w : Sources) (spills : ℕ) (c : Cursor) (row : List ℤ) : Type 0 where
  pub within : c.at ≤ c.end
  pub bounded : c.end ≤ segment_threshold
  pub counted : c.next ≤ spills + 1
  pub long : length row ≡ segment_threshold
  pub taken : read_of (rows_up (row_taken (edition_of v) kind w) c.next (spills - c.next)) ≡ Ok tt

-- a cursor d that stands where there is an entry, if there is one, with the same to compare as at c
pub record Filled (v : RowEdition) (kind : Kind) (w : Sources) (spills : ℕ) (head : List ℤ) (c : Cursor) (before : List ℤ) (d : Cursor) (row : List ℤ) : Type 0 where
  pub standing : Standing v kind w spills d row
  pub same : to_compare (row_taken (edition_of v) kind w) spills head d row ≡ to_compare (row_taken (edition_of v) kind w) spills head c before
  pub ended : d.end ≤ d.at → to_compare (row_taken (edition_of v) kind w) spills head d row ≡ []

-- a side that passed its checks
pub record TakenSide (v : RowEdition) (kind : Kind) (w : Sources) (spills : ℕ) (head : List ℤ) (len : ℕ) : Type 0 where
  pub ready : SideReady v w spills head len
  pub taken : read_of (rows_up (row_taken (edition_of v) kind w) 0 spills) ≡ Ok tt

-- its entries as one list
abbrev pub side_entries : RowEdition → Kind → Sources → (spills : ℕ) → (head : List ℤ) → List ℤ
side_entries v kind w spills head = numbers_in (rows_up (row_taken (edition_of v) kind w) 0 spills) ++ head
