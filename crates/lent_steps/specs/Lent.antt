-- A state w that borrows staged and deleted spills with places of its own number, and some rows of the segments table, beside a state t that has places enough and
-- all rows: "equal but for the table" and for what the places are.
use Rattle.std.specs.Prelude.{ℕ, ◌*◌, ◌≤◌, ◌≡◌, Bool, true, false, List, take}
use Rattle.index_types.specs.declared.ListCounts.{ListCounts}
use Rattle.buffer_core.specs.Edition.{edition_1}
use Rattle.buffer_core.specs.Pop.{Lists, lists}
use Rattle.call_steps.specs.State.{State, state, Ready}
use Rattle.call_steps.specs.Steps.{Stepping, refused}
use Rattle.driver_core.specs.Steps.{may_be_lifted}
use Rattle.working_steps.specs.Beside.{Beside, Act, act, ActOf}

-- a list of as many records, no more places, and in all of them the same bytes; what stands behind its places may be anything
pub record SameIn (size : ℕ) (c d : ListCounts) (l m : List ℕ) : Type 0 where
  pub count : c.count ≡ d.count
  pub fewer : c.capacity ≤ d.capacity
  pub bytes : take (c.capacity * size) l ≡ take (c.capacity * size) m

-- the state with the staged and the deleted spills of other lists
abbrev pub with_spills : Lists → State → State
with_spills b s =
    state s.ids s.numbers s.lengths s.spills
    (lists b.staged_counts b.staged s.lists.table_counts s.lists.table b.deleted_counts b.deleted)

-- both have passed refusal 25
pub record Lent (parents : ℕ) (w t : State) : Type 0 where
  pub ready : Ready parents w
  pub staged : SameIn edition_1.size w.lists.staged_counts t.lists.staged_counts w.lists.staged t.lists.staged
  pub deleted : SameIn 32 w.lists.deleted_counts t.lists.deleted_counts w.lists.deleted t.lists.deleted
  pub beside : Beside parents (with_spills t.lists w) t

-- x on w, y on t: the step says and leaves what it does on t; or it says what the driver lifts (12, 16, 21 or 22), and nothing has changed; or t has no room for a
-- flush
pub data Outcome (parents : ℕ) (w t : State) (x y : Stepping) : Type 0 where
  as_table : x.said ≡ y.said → may_be_lifted x.said.code ≡ false → Lent parents x.after y.after → Outcome parents w t x y
  lacks : may_be_lifted x.said.code ≡ true → x.after ≡ w → Outcome parents w t x y
  full_table : y.said ≡ refused 22 → Outcome parents w t x y

-- every step of a driver
abbrev pub LentLaw : Type 0
LentLaw = (parents : ℕ) (a : Act) → ActOf parents a → (w t : State) → Lent parents w t → Outcome parents w t (act a w) (act a t)
