-- What the call runner starts with.
use Rattle.std.specs.Prelude.{ℕ, List, replicate}
use Rattle.call_steps.specs.State.{parent_ids}
use Rattle.stores.specs.Stores.{write}
use Rattle.index_types.specs.declared.ListCounts.{ListCounts}
use Rattle.index_types.specs.declared.SpillCounts.{SpillCounts}

-- no record in a list of so many places
abbrev pub none_of : ℕ → ListCounts
none_of capacity = record { count = 0; capacity = capacity }

-- "Shelf 2, staging 1, deletion list 2, all empty"
abbrev pub lists_empty : SpillCounts
lists_empty = record { staged = none_of 1; table = none_of 2; deleted = none_of 2 }

-- the ids of the parents 0 and 1, each a byte 32 times before the 4,096 places of its tokens' ids
unfoldable pub two_ids : List ℕ
two_ids = write parent_ids (replicate 32 1) (replicate 8256 0)
