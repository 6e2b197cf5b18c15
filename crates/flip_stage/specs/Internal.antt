-- What staging a row with an entry negated asks of its caller, and what it answers and leaves.
use Rattle.std.specs.Prelude.{ℕ, ◌*◌, ◌≤◌, ◌<◌, ◌≡◌, true, List, [], ℤ, pos, nat_abs, length, take, get_or}
use Rattle.index_types.specs.declared.ListCounts.{ListCounts}
use Rattle.records.specs.Records.{keys}
use Rattle.records.specs.Find.{distinct}
use Rattle.records.specs.Checks.{InBounds}
use Rattle.index_types.specs.Answers.{Flipped}
use Rattle.index_types.specs.declared.RowEdition.{RowEdition}
use Rattle.buffer_core.specs.Edition.{RowRead, good, record_size, row_limit_of, edition_of}
use Rattle.buffer_core.specs.Spills.{sources}
use Rattle.buffer_core.specs.Flip.{Effect, flipping, done_by, row_flipped}

-- what a step that reads rows asks of the staged spills and of the table
pub record RowsReady (v : RowEdition) (c : ListCounts) (staged : List ℕ) (table_count : ℕ) (table : List ℕ) : Type 0 where
  pub bounds : InBounds (record_size v) c staged
  pub within : table_count * record_size v ≤ length table
  pub apart : distinct (keys (record_size v) table_count table) ≡ true

-- a row was read, and the number at a place of it can be negated
pub record Takes (x : RowRead) (at : ℕ) : Type 0 where
  pub numbers : List ℤ
  pub read : x ≡ good numbers
  pub inside : at < length numbers
  pub small : nat_abs (get_or numbers at (pos 0)) < 9223372036854775808

-- a row of the parent's spill n with the entry at a place negated
abbrev pub flipped_under : RowEdition → (parent : List ℕ) (n : ℕ) (row : List ℕ) (at : ℕ) → List ℕ
flipped_under v parent n row at = row_flipped (edition_of v) (sources parent [] 0 [] 0) n row at

-- the answer r of a writer of the row bs to the front of a buffer, which is out at exit
abbrev pub Written : RowEdition → List ℕ → ℕ → List ℕ → Type 0
Written v bs r out = (r ≤ row_limit_of v) × (take r out ≡ bs)

-- the answer r and the staged spills at exit are what the effect says of them, and it leaves every head
abbrev pub Stages : RowEdition → Effect → ListCounts → (staged : List ℕ) → Flipped → (staged' : List ℕ) → Type 0
Stages v e c staged r staged' = (head : List ℤ) → flipping r head staged' ≡ done_by (edition_of v) e c head staged
