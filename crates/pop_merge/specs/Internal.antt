-- What merging a row back asks of its caller, and what it leaves.
use Rattle.std.specs.Prelude.{ℕ, ◌+◌, ◌*◌, ◌≤◌, ◌<◌, ◌≡◌, List, ℤ, length}
use Rattle.index_types.specs.Limits.{segment_threshold}
use Rattle.index_types.specs.declared.ListCounts.{ListCounts}
use Rattle.records.specs.Records.{keys}
use Rattle.records.specs.Find.{find_key}
use Rattle.records.specs.Changes.{slot}
use Rattle.segment_core.specs.Loading.{padded}
use Rattle.index_types.specs.declared.RowEdition.{RowEdition}
use Rattle.buffer_core.specs.Edition.{record_size, edition_of}
use Rattle.buffer_core.specs.Pop.{Popping, lists, merged}

-- n numbers at the front of a list of 512 can become the head, and the key can leave the staged spills and join the deleted ones
pub record MergeReady (v : RowEdition) (list : List ℤ) (n spills : ℕ) (key : List ℕ) (c : ListCounts) (staged : List ℕ) (e : ListCounts) (deleted : List ℕ) (head : List ℤ)
    : Type 0 where
  pub long : segment_threshold ≤ length head
  pub listed : length list ≡ segment_threshold
  pub some : 0 < n
  pub few : n ≤ segment_threshold
  pub below : spills < 2147483648
  pub keyed : length key ≡ 32
  pub within_staged : c.count * record_size v ≤ length staged
  pub within_deleted : e.count * 32 ≤ length deleted
  pub room : slot (find_key key (keys 32 e.count deleted)) e.count * 32 + 32 ≤ length deleted

-- what merging them back leaves, whatever numbers they are and whatever the table is
abbrev pub Merges : (v : RowEdition) (list : List ℤ) (n spills : ℕ) (key : List ℕ) (c : ListCounts) (staged : List ℕ) (e : ListCounts) (deleted : List ℕ) (head : List ℤ)
    → Popping → Type 0
Merges v list n spills key c staged e deleted head o =
    (zs : List ℤ) (d : ListCounts) (table : List ℕ) → list ≡ padded zs → n ≡ length zs
    → o ≡ merged (edition_of v) key spills zs (lists c staged d table e deleted) head
