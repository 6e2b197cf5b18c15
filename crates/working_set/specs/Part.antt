-- What a record list shows under each key, and when one list is a part of another: the rows that are borrowed, of all the rows that are kept.
use Rattle.std.specs.Prelude.{ℕ, ◌≡◌, Bool, true, false, List, Option, Some, None}
use Rattle.records.specs.declared.Place.{Place}
use Rattle.records.specs.declared.Place.TheVariants.{Staged, Table, Missing}
use Rattle.index_types.specs.declared.ListCounts.{ListCounts}
use Rattle.records.specs.Records.{keys}
use Rattle.records.specs.Find.{find_key, row_at}
use Rattle.segment_id.specs.declared.Kind.{Kind}
use Rattle.buffer_core.specs.Edition.{Edition}
use Rattle.buffer_core.specs.Spills.{Sources, place_at}

-- what stands under a key
pub data Held : Type 0 where
  absent : Held
  held : List ℕ → Held

abbrev pub held_by : (size : ℕ) → List ℕ → Option ℕ → Held
held_by size l (Some i) = held (row_at size i l)
held_by size l None = absent

-- a record list as a map from keys to rows: what a database keeps
unfoldable pub held_in : (size count : ℕ) → List ℕ → (key : List ℕ) → Held
held_in size count l key = held_by size l (find_key key (keys size count l))

-- every row of f is the row of g under the same key
abbrev pub PartOf : (f g : List ℕ → Held) → Type 0
PartOf f g = (key row : List ℕ) → f key ≡ held row → g key ≡ held row

abbrev pub Part : Edition → ListCounts → (work : List ℕ) → ListCounts → (table : List ℕ) → Type 0
Part E c work e table = PartOf (held_in E.size c.count work) (held_in E.size e.count table)

abbrev pub is_missing : Place → Bool
is_missing (Staged i) = false
is_missing (Table i) = false
is_missing Missing = true

-- the row of a spill number is neither staged nor in the table that is borrowed
abbrev pub lacks : Edition → Kind → Sources → ℕ → Bool
lacks E kind w n = is_missing (place_at E kind w n)
