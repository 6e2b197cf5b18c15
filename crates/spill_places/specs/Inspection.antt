-- Inspection of spill rows (document 01, "Shelf and staging"): "Inspection (`inspect_spill`) shows the row's bytes from staging if the key
-- is there, otherwise from the shelf." Staging is the list of staged spills, the shelf the segments table.
use Rattle.std.specs.Prelude.{ℕ, ◌+◌, ◌*◌, ◌≤◌, Bool, cond, ◌&&◌, List, [], length}
use Rattle.index_types.specs.declared.ListCounts.{ListCounts}
use Rattle.records.specs.declared.Place.{Place}
use Rattle.records.specs.declared.Place.TheVariants as place
use Rattle.records.specs.Find.{locate_key, row_at, placed_row}
use Rattle.records.specs.Checks.{records_ok}
use Rattle.spill_places.specs.declared.Located.{Located}
use Rattle.spill_places.specs.declared.Located.TheVariants.{Staged, Table, Missing, Refused}

-- both lists pass refusal 25
unfoldable pub spills_ok : (size limit : ℕ) → ListCounts → List ℕ → ListCounts → List ℕ → Bool
spills_ok size limit sc staged tc table = records_ok size limit sc staged && records_ok size limit tc table

-- an answer for each place
abbrev pub located : Place → Located
located (place.Staged i) = Staged i
located (place.Table i) = Table i
located place.Missing = Missing

-- where the row under a key stands; 25 is tested first
unfoldable pub locate_row : (size limit : ℕ) → ListCounts → List ℕ → ListCounts → List ℕ → (key : List ℕ) → Located
locate_row size limit sc staged tc table key =
    cond (spills_ok size limit sc staged tc table) (located (locate_key size key sc.count staged tc.count table)) (Refused 25)

-- the code of what was located
abbrev pub located_code : Located → ℕ
located_code (Staged i) = 0
located_code (Table i) = 0
located_code Missing = 12
located_code (Refused code) = code

-- the row at what was located, empty where there is none
abbrev pub located_row : (size : ℕ) → (staged table : List ℕ) → Located → List ℕ
located_row size staged table (Staged i) = row_at size i staged
located_row size staged table (Table i) = row_at size i table
located_row size staged table Missing = []
located_row size staged table (Refused code) = []

-- the record that was located lies within its list
abbrev pub Within : (size : ℕ) → (staged table : List ℕ) → Located → Type 0
Within size staged table (Staged i) = i * size + size ≤ length staged
Within size staged table (Table i) = i * size + size ≤ length table
Within size staged table Missing = 0 ≤ 0
Within size staged table (Refused code) = 0 ≤ 0

-- the code beside a row: 25 is tested first, 12 stands for a key that is in neither list
unfoldable pub inspect_code : (size limit : ℕ) → ListCounts → List ℕ → ListCounts → List ℕ → (key : List ℕ) → ℕ
inspect_code size limit sc staged tc table key = located_code (locate_row size limit sc staged tc table key)

-- the row under a key, empty where the key is missing and where 25 is refused
unfoldable pub inspect_row : (size limit : ℕ) → ListCounts → List ℕ → ListCounts → List ℕ → (key : List ℕ) → List ℕ
inspect_row size limit sc staged tc table key =
    cond (spills_ok size limit sc staged tc table) (placed_row size staged table (locate_key size key sc.count staged tc.count table)) []
