-- What the exports of a driver leave: the code, and every out and borrowed list at exit, from the definitions of a batch and of an undo.
use Rattle.std.specs.Prelude.{ℕ, true, false, List, [], ℤ}
use Rattle.buffer_core.specs.Pop.{lists}
use Rattle.call_steps.specs.State.{State, state}
use Rattle.batch_answers.specs.Answers.{code_of, kept}
use Rattle.driver_core.specs.Bytes.{Journal, journal}
use Rattle.driver_core.specs.Apply.{Applying, apply_of, Undoing, undo_of}
use Rattle.ergo_index_lists.specs.Lists.{list_of}

-- ---- the state of all parents: the counts of the three lists and their capacities, and all that is borrowed
abbrev pub state_in : (s s_capacity t t_capacity d d_capacity : ℕ) → (ids : List ℕ) → (numbers : List ℤ) → (lengths : List ℕ) → (spills : List ℤ) → (staged table deleted : List ℕ) → State
state_in s sc t tc d dc ids numbers lengths spills staged table deleted =
    state ids numbers lengths spills (lists (list_of s sc) staged (list_of t tc) table (list_of d dc) deleted)

pub record StateOut : Type 0 where
  pub staged_count : ℕ
  pub table_count : ℕ
  pub deleted_count : ℕ
  pub ids : List ℕ
  pub numbers : List ℤ
  pub lengths : List ℕ
  pub spills : List ℤ
  pub staged : List ℕ
  pub table : List ℕ
  pub deleted : List ℕ

abbrev pub state_out : (s t d : ℕ) → (ids : List ℕ) → (numbers : List ℤ) → (lengths : List ℕ) → (spills : List ℤ) → (staged table deleted : List ℕ) → StateOut
state_out s t d ids numbers lengths spills staged table deleted =
    record {
      staged_count = s;
      table_count = t;
      deleted_count = d;
      ids = ids;
      numbers = numbers;
      lengths = lengths;
      spills = spills;
      staged = staged;
      table = table;
      deleted = deleted;
    }

abbrev pub state_left : State → StateOut
state_left x =
    state_out x.lists.staged_counts.count x.lists.table_counts.count x.lists.deleted_counts.count
    x.ids x.numbers x.lengths x.spills x.lists.staged x.lists.table x.lists.deleted

-- ---- a batch beside a journal: the code, the next byte, the calls made, how it ended, the journal's bytes and calls, the state, the journal and the answers
pub record ApplyOut : Type 0 where
  pub code : ℕ
  pub at : ℕ
  pub made : ℕ
  pub end : ℕ
  pub used : ℕ
  pub standing : ℕ
  pub left : StateOut
  pub entries : List ℕ
  pub answers : List ℕ

abbrev pub apply_out : (code at made end used standing : ℕ) → StateOut → (entries answers : List ℕ) → ApplyOut
apply_out code at made end used standing left entries answers =
    record { code = code; at = at; made = made; end = end; used = used; standing = standing; left = left; entries = entries; answers = answers }

abbrev pub apply_export : (at made end : ℕ) → Applying → ApplyOut
apply_export at made end o =
    apply_out (code_of o.ended) (kept o.ended at o.at) (kept o.ended made o.made) (kept o.ended end o.ended)
    o.kept.used o.kept.count (state_left o.now) o.kept.bytes o.answers

abbrev pub apply_call : (input : List ℕ) (parents : ℕ) → State → Journal → (answers : List ℕ) (at made end : ℕ) → ApplyOut
apply_call input parents x j answers at made end = apply_export at made end (apply_of true parents input x j answers [])

-- ---- a batch without one: no journal, and the popped numbers
pub record MakeOut : Type 0 where
  pub code : ℕ
  pub at : ℕ
  pub made : ℕ
  pub end : ℕ
  pub left : StateOut
  pub answers : List ℕ
  pub popped : List ℤ

abbrev pub make_out : (code at made end : ℕ) → StateOut → (answers : List ℕ) (popped : List ℤ) → MakeOut
make_out code at made end left answers popped = record { code = code; at = at; made = made; end = end; left = left; answers = answers; popped = popped }

abbrev pub make_export : (at made end : ℕ) → Applying → MakeOut
make_export at made end o =
    make_out (code_of o.ended) (kept o.ended at o.at) (kept o.ended made o.made) (kept o.ended end o.ended) (state_left o.now) o.answers o.popped

abbrev pub make_call : (input : List ℕ) (parents : ℕ) → State → (answers : List ℕ) (popped : List ℤ) (at made end : ℕ) → MakeOut
make_call input parents x answers popped at made end = make_export at made end (apply_of false parents input x (journal [] 0 0) answers popped)

-- ---- an undo: the code, the journal's bytes and calls, and the state
pub record UndoOut : Type 0 where
  pub code : ℕ
  pub used : ℕ
  pub standing : ℕ
  pub left : StateOut

abbrev pub undo_out : (code used standing : ℕ) → StateOut → UndoOut
undo_out code used standing left = record { code = code; used = used; standing = standing; left = left }

abbrev pub undo_export : Undoing → UndoOut
undo_export u = undo_out u.code u.kept.used u.kept.count (state_left u.now)

abbrev pub undo_call : (parents mark : ℕ) → State → Journal → UndoOut
undo_call parents mark x j = undo_export (undo_of parents mark x j)
