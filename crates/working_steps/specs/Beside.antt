-- A state that borrows a working set W, some rows of the segments table T, beside the state that borrows all of T: "equal but for the table".
use Rattle.std.specs.Prelude.{ℕ, ◌<◌, ◌≡◌, List, [], ◌∷◌}
use Rattle.index_types.specs.declared.ListCounts.{ListCounts}
use Rattle.buffer_core.specs.Edition.{edition_1}
use Rattle.buffer_core.specs.Pop.{lists}
use Rattle.call_steps.specs.declared.Said.{Said}
use Rattle.call_steps.specs.State.{State, state, Ready}
use Rattle.call_steps.specs.Steps.{Stepping, refused}
use Rattle.ledger.specs.Ledger.{parent_of}
use Rattle.ledger.specs.Calls.{Call, append, spend, credit, debit}
use Rattle.working_set.specs.Part.{Part}
use Rattle.driver_core.specs.Steps.{make, unmake, flushing, Taking, unspends, pops, take}

-- the state with another table
abbrev pub with_table : ListCounts → List ℕ → State → State
with_table c table s =
    state s.ids s.numbers s.lengths s.spills
    (lists s.lists.staged_counts s.lists.staged c table s.lists.deleted_counts s.lists.deleted)

-- w borrows a part of the table of t, and all else is the same; both have passed refusal 25
pub record Beside (parents : ℕ) (w t : State) : Type 0 where
  pub work_ready : Ready parents w
  pub table_ready : Ready parents t
  pub same : with_table t.lists.table_counts t.lists.table w ≡ t
  pub part : Part edition_1 w.lists.table_counts w.lists.table t.lists.table_counts t.lists.table

-- ---- one step of a driver
pub data Act : Type 0 where
  makes unmakes : Call → Act
  takes : Taking → Act
  flushes : Act

abbrev pub act : Act → State → Stepping
act (makes a) s = make a s
act (unmakes a) s = unmake a s
act (takes t) s = take t s
act flushes s = flushing s

-- of one of so many parents
abbrev pub CallOf : (parents : ℕ) → Call → Type 0
CallOf parents (append ch n) = parent_of ch < parents
CallOf parents (spend p t) = p < parents
CallOf parents (credit p n ts) = p < parents
CallOf parents (debit p n ts) = p < parents

abbrev pub TakingOf : (parents : ℕ) → Taking → Type 0
TakingOf parents (unspends p t) = p < parents
TakingOf parents (pops k p) = p < parents

abbrev pub ActOf : (parents : ℕ) → Act → Type 0
ActOf parents (makes a) = CallOf parents a
ActOf parents (unmakes a) = CallOf parents a
ActOf parents (takes t) = TakingOf parents t
ActOf parents flushes = Unit {0}

unfoldable pub ActsOf : (parents : ℕ) → List Act → Type 0
ActsOf parents [] = Unit {0}
ActsOf parents (a ∷ rest) = ActOf parents a × ActsOf parents rest

-- x on W, y on T: the step says and leaves what it does on T, and W stays a part; or it says 12, and nothing has changed; or a flush says 22, which may come of one
-- table and not of the other, and nothing has changed there
pub data Outcome (parents : ℕ) (w t : State) (x y : Stepping) : Type 0 where
  as_table : x.said ≡ y.said → Beside parents x.after y.after → Outcome parents w t x y
  lacks : x.said ≡ refused 12 → x.after ≡ w → Outcome parents w t x y
  full : x.said ≡ refused 22 → x.after ≡ w → Outcome parents w t x y
  full_table : y.said ≡ refused 22 → y.after ≡ t → Outcome parents w t x y

-- ---- steps one after the other: what each says, and what is left
unfoldable pub says : State → List Act → List Said
says s [] = []
says s (a ∷ rest) = (act a s).said ∷ says (act a s).after rest

unfoldable pub left : State → List Act → State
left s [] = s
left s (a ∷ rest) = left (act a s).after rest

-- none says the number
unfoldable pub Without : ℕ → List Said → Type 0
Without n [] = Unit {0}
Without n (a ∷ rest) = (a.code ≡ n → ⊥) × Without n rest
