-- The steps of looking for the row that is missing, and what they ask of their callers.
use Rattle.std.specs.Prelude.{ℕ, ◌-◌, ◌*◌, ◌≤◌, ◌≡◌, Bool, true, List, ◌++◌, length}
use Rattle.index_types.specs.declared.RowEdition.{RowEdition}
use Rattle.records.specs.Records.{keys}
use Rattle.records.specs.Find.{distinct}
use Rattle.buffer_core.specs.Edition.{Edition, record_size}
use Rattle.buffer_core.specs.Spills.{Sources}
use Rattle.buffer_core.specs.Flip.{lead_at, search_in}
use Rattle.working_set.specs.Reads.{search_reads, low_reads}

-- the bounds of the lists, and that no key of the table stands twice
pub record WorkReady (v : RowEdition) (w : Sources) : Type 0 where
  pub in_staged : w.staged_count * record_size v ≤ length w.staged
  pub in_table : w.table_count * record_size v ≤ length w.table
  pub apart : distinct (keys (record_size v) w.table_count w.table) ≡ true

-- the spill numbers that the halving between low and high reads, and then the walk
unfoldable pub reads_between : Edition → Sources → (target : ℕ) → (spend : Bool) → (low high : ℕ) → List ℕ
reads_between E w target d low high =
    search_reads (lead_at E w) target (high - low) low high ++ low_reads E w target d (search_in (lead_at E w) target low high)
