-- What an append asks of its caller: the facts that the test of refusal 25 establishes.
use Rattle.std.specs.Prelude.{ℕ, ◌≤◌, List, ℤ, length}
use Rattle.index_types.specs.Limits.{segment_threshold}
use Rattle.index_types.specs.declared.ListCounts.{ListCounts}
use Rattle.records.specs.Checks.{InBounds}
use Rattle.index_types.specs.declared.HeadCounts.{HeadCounts}
use Rattle.index_types.specs.declared.RowEdition.{RowEdition}
use Rattle.buffer_core.specs.Edition.{record_size}

pub record AppendReady (v : RowEdition) (h : HeadCounts) (c : ListCounts) (head : List ℤ) (staged : List ℕ) : Type 0 where
  pub few : h.len ≤ segment_threshold
  pub long : segment_threshold ≤ length head
  pub bounds : InBounds (record_size v) c staged
