-- What is promised of a driver's steps, batches and undos over a working set ("W stays a part of T, and what does not end by 12 is as on T").
use Rattle.std.specs.Prelude.{ℕ, ◌≤◌, ◌≡◌, Bool, true, false, List, ℤ, length}
use Rattle.records.specs.Changes.{full_for}
use Rattle.records.specs.Checks.{records_ok}
use Rattle.buffer_core.specs.Edition.{edition_1}
use Rattle.buffer_core.specs.Append.{counts_with, bytes_with}
use Rattle.working_set.specs.Part.{held, held_in}
use Rattle.call_steps.specs.State.{State}
use Rattle.driver_core.specs.Bytes.{Journal}
use Rattle.driver_core.specs.Apply.{Applying, Undoing, apply_of, undo_of}
use Rattle.working_steps.specs.Beside.{with_table, Beside, Act, act, ActOf, ActsOf, Outcome, says, left, Without}

-- every step of a driver
abbrev pub StepLaw : Type 0
StepLaw = (parents : ℕ) (a : Act) → ActOf parents a → (w t : State) → Beside parents w t → Outcome parents w t (act a w) (act a t)

-- any list of them: where none says 12 and no flush 22, all say and leave what they do on T
abbrev pub StepsLaw : Type 0
StepsLaw =
    (parents : ℕ) (acts : List Act) → ActsOf parents acts → (w t : State) → Beside parents w t
    → Without 12 (says w acts) → Without 22 (says w acts) → Without 22 (says t acts)
    → (says w acts ≡ says t acts) × Beside parents (left w acts) (left t acts)

-- what two batches leave is the same, but for the table
pub record SameBatch (parents : ℕ) (x y : Applying) : Type 0 where
  pub beside : Beside parents x.now y.now
  pub kept : x.kept ≡ y.kept
  pub at : x.at ≡ y.at
  pub made : x.made ≡ y.made
  pub ended : x.ended ≡ y.ended
  pub answers : x.answers ≡ y.answers
  pub popped : x.popped ≡ y.popped

-- a batch with or without a journal that does not end by 12, where neither table is full
abbrev pub BatchLaw : Type 0
BatchLaw =
    (journaled : Bool) (parents : ℕ) (input : List ℕ) (w t : State) (j : Journal) (answers : List ℕ) (numbers : List ℤ) → Beside parents w t
    → ((apply_of journaled parents input w j answers numbers).ended ≡ 12 → ⊥)
    → ((apply_of journaled parents input w j answers numbers).ended ≡ 22 → ⊥)
    → ((apply_of journaled parents input t j answers numbers).ended ≡ 22 → ⊥)
    → SameBatch parents (apply_of journaled parents input w j answers numbers) (apply_of journaled parents input t j answers numbers)

pub record SameUndo (parents : ℕ) (x y : Undoing) : Type 0 where
  pub beside : Beside parents x.now y.now
  pub kept : x.kept ≡ y.kept
  pub code : x.code ≡ y.code

-- an undo to a mark likewise
abbrev pub UndoLaw : Type 0
UndoLaw =
    (parents mark : ℕ) (w t : State) (j : Journal) → Beside parents w t
    → ((undo_of parents mark w j).code ≡ 12 → ⊥)
    → ((undo_of parents mark w j).code ≡ 22 → ⊥)
    → ((undo_of parents mark t j).code ≡ 22 → ⊥)
    → SameUndo parents (undo_of parents mark w j) (undo_of parents mark t j)

-- ---- what keeps a working set beside its table: a row of T is put into W, which has room; or W is dropped
abbrev pub FetchLaw : Type 0
FetchLaw =
    (parents : ℕ) (w t : State) (key row : List ℕ) → Beside parents w t → length key ≡ 32 → length row ≤ edition_1.limit
    → held_in edition_1.size t.lists.table_counts.count t.lists.table key ≡ held row
    → full_for edition_1.size w.lists.table_counts key w.lists.table ≡ false
    → Beside parents
    (with_table (counts_with edition_1 key w.lists.table_counts w.lists.table) (bytes_with edition_1 key row w.lists.table_counts w.lists.table) w) t

abbrev pub DropLaw : Type 0
DropLaw =
    (parents : ℕ) (w t : State) (cap : ℕ) (work : List ℕ) → Beside parents w t
    → records_ok edition_1.size edition_1.limit (record { count = 0; capacity = cap }) work ≡ true → Beside parents (with_table (record { count = 0; capacity = cap }) work w) t
