-- What a spill asks of its caller: a spill count that fits, and facts that the test of refusal 25 establishes.
use Rattle.std.specs.Prelude.{ℕ, ◌≤◌, ◌<◌, List, ℤ, length}
use Rattle.index_types.specs.Limits.{segment_threshold}
use Rattle.index_types.specs.declared.ListCounts.{ListCounts}
use Rattle.records.specs.Checks.{InBounds}
use Rattle.index_types.specs.declared.RowEdition.{RowEdition}
use Rattle.buffer_core.specs.Edition.{record_size}

pub record SpillReady (v : RowEdition) (spills : ℕ) (c : ListCounts) (head : List ℤ) (staged : List ℕ) : Type 0 where
  pub below : spills < 2147483648
  pub long : segment_threshold ≤ length head
  pub bounds : InBounds (record_size v) c staged
