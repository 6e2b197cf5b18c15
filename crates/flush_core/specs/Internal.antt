-- What the steps of a flush ask and give. The flush itself is defined in `buffer_core`, Flush.
use Rattle.std.specs.Prelude.{◌+◌, ◌*◌, ◌≤◌, ◌≡◌, true, length}
use Rattle.records.specs.Records.{keys}
use Rattle.records.specs.Find.{distinct}
use Rattle.records.specs.Checks.{InBounds}
use Rattle.index_types.specs.declared.RowEdition.{RowEdition}
use Rattle.buffer_core.specs.Edition.{edition_of, record_size}
use Rattle.buffer_core.specs.Pop.{Lists}
use Rattle.buffer_core.specs.Flush.{new_keys}

-- what a flush needs once refusal 25 has passed
pub record FlushReady (v : RowEdition) (b : Lists) : Type 0 where
  pub in_table : InBounds (record_size v) b.table_counts b.table
  pub in_staged : InBounds (record_size v) b.staged_counts b.staged
  pub in_deleted : InBounds 32 b.deleted_counts b.deleted
  pub apart : distinct (keys (record_size v) b.table_counts.count b.table) ≡ true

-- and once 22 has passed: all new keys have room
pub record RoomReady (v : RowEdition) (b : Lists) : Type 0 where
  pub bounds : FlushReady v b
  pub room : (b.table_counts.count + new_keys (edition_of v) b) * record_size v ≤ length b.table
