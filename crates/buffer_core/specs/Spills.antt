-- The row under a spill number, as inspection shows it (document 01, "Shelf and staging"): from the staged spills if its key is there, else from the
-- segments table. "12 missing", then the reader's refusals.
use Rattle.std.specs.Prelude.{ℕ, Bool, ◌&&◌, List, leb, ℤ, pos, length}
use Rattle.index_types.specs.Limits.{segment_threshold}
use Rattle.records.specs.declared.Place.{Place}
use Rattle.records.specs.declared.Place.TheVariants.{Staged, Table, Missing}
use Rattle.records.specs.Find.{row_at, locate_key}
use Rattle.segment_id.specs.declared.Kind.{Kind}
use Rattle.index_types.specs.declared.HeadCounts.{HeadCounts}
use Rattle.buffer_core.specs.Edition.{Edition, RowRead, bad}

-- what a call reads rows from: a parent, the staged spills and the segments table with the number of records in each
pub record Sources : Type 0 where
  pub parent : List ℕ
  pub staged : List ℕ
  pub staged_count : ℕ
  pub table : List ℕ
  pub table_count : ℕ

abbrev pub sources : (parent staged : List ℕ) → ℕ → (table : List ℕ) → ℕ → Sources
sources parent staged m table n = record { parent = parent; staged = staged; staged_count = m; table = table; table_count = n }

module _ (E : Edition) where
  abbrev pub key_at : Kind → Sources → ℕ → List ℕ
  key_at kind w n = E.key kind w.parent (pos n)

  -- where the row of a spill number stands
  unfoldable pub place_at : Kind → Sources → ℕ → Place
  place_at kind w n = locate_key E.size (key_at kind w n) w.staged_count w.staged w.table_count w.table

  -- the numbers of a kind in the row at a place, which should be that of spill number n
  abbrev pub read_placed : Kind → Sources → (n : ℕ) → Place → RowRead
  read_placed kind w n (Staged i) = E.decode kind w.parent (pos n) (row_at E.size i w.staged)
  read_placed kind w n (Table i) = E.decode kind w.parent (pos n) (row_at E.size i w.table)
  read_placed kind w n Missing = bad 12

  -- the numbers of a kind in the row of a spill number
  unfoldable pub spill_read : Kind → Sources → ℕ → RowRead
  spill_read kind w n = read_placed kind w n (place_at kind w n)

-- "25 head above 512, .. or a lent buffer too short for its stated capacity": a head has 512 places
abbrev pub head_ok : HeadCounts → List ℤ → Bool
head_ok h l = leb h.len segment_threshold && leb segment_threshold (length l)
