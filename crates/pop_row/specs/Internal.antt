-- What a pop asks of its caller: the facts that the test of refusal 25 establishes.
use Rattle.std.specs.Prelude.{◌≤◌, ◌≡◌, true, List, ℤ, length}
use Rattle.index_types.specs.Limits.{segment_threshold}
use Rattle.records.specs.Records.{keys}
use Rattle.records.specs.Find.{distinct}
use Rattle.records.specs.Checks.{InBounds}
use Rattle.index_types.specs.declared.RowEdition.{RowEdition}
use Rattle.buffer_core.specs.Edition.{record_size}
use Rattle.buffer_core.specs.Pop.{Lists}

-- the bounds of the head's places and of the three lists, and that no key of the table stands twice
pub record PopReady (v : RowEdition) (b : Lists) (head : List ℤ) : Type 0 where
  pub long : segment_threshold ≤ length head
  pub in_staged : InBounds (record_size v) b.staged_counts b.staged
  pub in_table : InBounds (record_size v) b.table_counts b.table
  pub in_deleted : InBounds 32 b.deleted_counts b.deleted
  pub apart : distinct (keys (record_size v) b.table_counts.count b.table) ≡ true
