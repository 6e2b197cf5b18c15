-- The machine of the theorem: the index in bytes with what is borrowed for it, every list empty at the start.
use Rattle.std.specs.Prelude.{List, ℕ, ◌*◌, ◌≤◌, ℤ, pos, length}
use Rattle.index_types.specs.Limits.{segment_threshold}
use Rattle.index_types.specs.declared.ListCounts.{ListCounts}
use Rattle.buffer_core.specs.Edition.{Edition}
use Rattle.buffer_core.specs.Append.{counts_of}
use Rattle.buffer_core.specs.Pop.{lists}
use Rattle.ledger.specs.Ledger.{Series}
use Rattle.history.specs.Index.{Index, index, part}

-- what is borrowed at the start, whatever it holds: 512 places for each head, and three lists with room for their capacities
pub record Borrowed (E : Edition) : Type 0 where
  pub table_cap : ℕ
  pub staged_cap : ℕ
  pub deleted_cap : ℕ
  pub places : Series → List ℤ
  pub table : List ℕ
  pub staged : List ℕ
  pub deleted : List ℕ
  pub places_in : (ch : Series) → segment_threshold ≤ length (places ch)
  pub table_in : table_cap * E.size ≤ length table
  pub staged_in : staged_cap * E.size ≤ length staged
  pub deleted_in : deleted_cap * 32 ≤ length deleted

abbrev pub none_of : ℕ → ListCounts
none_of cap = record { count = 0; capacity = cap }

-- "Empty: each count, length and nanoErgs 0"
abbrev pub start : (E : Edition) → Borrowed E → Index
start E B =
    index (λ ch. part (counts_of 0 (pos 0)) (B.places ch))
    (lists (none_of B.staged_cap) B.staged (none_of B.table_cap) B.table (none_of B.deleted_cap) B.deleted)
