-- One call of the runner on the state: what the single functions define, each on the parent's part of it.
use Rattle.std.specs.Prelude.{ℕ, ◌+◌, ◌*◌, ◌≡◌, Bool, true, false, List, [], ◌∷◌, ℤ, pos, set, replicate, Ok, Err}
use Rattle.refusal.specs.Answers.{Answer}
use Rattle.segment_id.specs.declared.Kind.{Kind}
use Rattle.segment_id.specs.declared.Kind.TheVariants.{Box}
use Rattle.balance.specs.declared.Outcome.{Outcome}
use Rattle.balance.specs.Boxes.{change_box}
use Rattle.index_types.specs.declared.ListCounts.{ListCounts}
use Rattle.index_types.specs.declared.HeadCounts.{HeadCounts}
use Rattle.buffer_core.specs.declared.Direction.{Direction}
use Rattle.index_types.specs.Answers.{Appended}
use Rattle.index_types.specs.Answers.{Popped}
use Rattle.index_types.specs.Answers.{Flipped}
use Rattle.index_types.specs.Answers.{Flushed}
use Rattle.buffer_core.specs.Edition.{Edition, edition_1}
use Rattle.buffer_core.specs.Append.{Appending, append_ok, append_of}
use Rattle.buffer_core.specs.Pop.{Popping, Lists, lists, lists_ok, pop_ok, pop_of}
use Rattle.buffer_core.specs.Flip.{Flipping, flip_ok, flip_of}
use Rattle.buffer_core.specs.Flush.{Flushing, flush_of}
use Rattle.calls.specs.declared.Call.{Call}
use Rattle.calls.specs.declared.Call.TheVariants.{Append, Flip, Pop, Flush, Change, Bad, Cut, End}
use Rattle.call_steps.specs.declared.Said.{Said}
use Rattle.index_types.specs.declared.SpillCounts.{SpillCounts}
use Rattle.call_steps.specs.declared.Stepped.{Stepped}
use Rattle.call_steps.specs.State.{State, Within, state, parent_id, length_at, spills_at, head_counts, head_of, with_head, balance_of, ids_with, numbers_with, lengths_with}

-- ---- what a call says: "the refusal or 0, and a popped number"
abbrev pub refused : ℕ → Said
refused code = record { code = code; popped = false; number = pos 0 }

abbrev pub accepted : Said
accepted = refused 0

abbrev pub number_popped : ℤ → Said
number_popped n = record { code = 0; popped = true; number = n }

abbrev pub spill_counts : (staged table deleted : ListCounts) → SpillCounts
spill_counts c d e = record { staged = c; table = d; deleted = e }

abbrev pub counts_in : Lists → SpillCounts
counts_in b = spill_counts b.staged_counts b.table_counts b.deleted_counts

abbrev pub stepped : Said → SpillCounts → Stepped
stepped a c = record { said = a; counts = c }

abbrev pub with_staged : SpillCounts → ListCounts → SpillCounts
with_staged n c = spill_counts c n.table n.deleted

-- ---- a step: what the call says, and the state after it
pub record Stepping : Type 0 where
  pub said : Said
  pub after : State

abbrev pub stepping : Said → State → Stepping
stepping a s = record { said = a; after = s }

-- the lists with the counts that a step answers
abbrev pub lists_with : SpillCounts → (staged table deleted : List ℕ) → Lists
lists_with n staged table deleted = lists n.staged staged n.table table n.deleted deleted

-- a step's answer beside all that is borrowed, at exit
abbrev pub left_by : Stepped → (ids : List ℕ) → (numbers : List ℤ) → (lengths : List ℕ) → (spills : List ℤ) → (staged table deleted : List ℕ) → Stepping
left_by r ids numbers lengths spills staged table deleted =
    stepping r.said (state ids numbers lengths spills (lists_with r.counts staged table deleted))

-- ---- append and pop: the counts of the head, then all that is borrowed
pub record CountStep : Type 0 where
  pub answer : Stepped
  pub lengths : List ℕ
  pub spills : List ℤ

abbrev pub count_step : Stepped → List ℕ → List ℤ → CountStep
count_step r lengths spills = record { answer = r; lengths = lengths; spills = spills }

-- the lengths and the spill counts with those of a head
abbrev pub lengths_by : Kind → ℕ → HeadCounts → List ℕ → List ℕ
lengths_by k p h lengths = set lengths (length_at k p) h.len

abbrev pub spills_by : Kind → ℕ → HeadCounts → List ℤ → List ℤ
spills_by k p h spills = set spills (spills_at k p) h.spills

abbrev pub after_append : Appended → Kind → ℕ → SpillCounts → List ℕ → List ℤ → CountStep
after_append (Ok (h, c)) k p n lengths spills = count_step (stepped accepted (with_staged n c)) (lengths_by k p h lengths) (spills_by k p h spills)
after_append (Err code) k p n lengths spills = count_step (stepped (refused code) n) lengths spills

abbrev pub after_pop : Popped → Kind → ℕ → SpillCounts → List ℕ → List ℤ → CountStep
after_pop (Ok (z, h, c, e)) k p n lengths spills =
    count_step (stepped (number_popped z) (spill_counts c n.table e)) (lengths_by k p h lengths) (spills_by k p h spills)
after_pop (Err code) k p n lengths spills = count_step (stepped (refused code) n) lengths spills

pub record HeadStep : Type 0 where
  pub counted : CountStep
  pub numbers : List ℤ
  pub staged : List ℕ

abbrev pub head_step : CountStep → List ℤ → List ℕ → HeadStep
head_step c numbers staged = record { counted = c; numbers = numbers; staged = staged }

abbrev pub appended_by : Appending → Kind → ℕ → SpillCounts → List ℤ → List ℕ → List ℤ → HeadStep
appended_by o k p n numbers lengths spills = head_step (after_append o.answer k p n lengths spills) (with_head k p o.head numbers) o.staged

pub record PopStep : Type 0 where
  pub counted : CountStep
  pub numbers : List ℤ
  pub staged : List ℕ
  pub deleted : List ℕ

abbrev pub pop_step : CountStep → List ℤ → (staged deleted : List ℕ) → PopStep
pop_step c numbers staged deleted = record { counted = c; numbers = numbers; staged = staged; deleted = deleted }

abbrev pub popped_by : Popping → Kind → ℕ → SpillCounts → List ℤ → List ℕ → List ℤ → PopStep
popped_by o k p n numbers lengths spills = pop_step (after_pop o.answer k p n lengths spills) (with_head k p o.head numbers) o.staged o.deleted

-- ---- spend and unspend
abbrev pub after_flip : Flipped → SpillCounts → Stepped
after_flip (Ok c) n = stepped accepted (with_staged n c)
after_flip (Err code) n = stepped (refused code) n

pub record FlipStep : Type 0 where
  pub answer : Stepped
  pub numbers : List ℤ
  pub staged : List ℕ

abbrev pub flip_step : Stepped → List ℤ → List ℕ → FlipStep
flip_step r numbers staged = record { answer = r; numbers = numbers; staged = staged }

abbrev pub flipped_by : Flipping → ℕ → SpillCounts → List ℤ → FlipStep
flipped_by o p n numbers = flip_step (after_flip o.answer n) (with_head Box p o.head numbers) o.staged

-- ---- flush
pub record FlushStep : Type 0 where
  pub answer : Stepped
  pub table : List ℕ
  pub staged : List ℕ
  pub deleted : List ℕ

abbrev pub flush_step : Stepped → (table staged deleted : List ℕ) → FlushStep
flush_step r table staged deleted = record { answer = r; table = table; staged = staged; deleted = deleted }

abbrev pub after_flush : Flushed → SpillCounts → Stepped
after_flush (Ok (t, c, d)) n = stepped accepted (spill_counts c t d)
after_flush (Err code) n = stepped (refused code) n

abbrev pub flushed_by : Flushing → SpillCounts → FlushStep
flushed_by o n = flush_step (after_flush o.answer n) o.table o.staged o.deleted

-- ---- credit and debit: "ids are the byte 32 times"
pub record ChangeStep : Type 0 where
  pub said : Said
  pub ids : List ℕ
  pub numbers : List ℤ
  pub lengths : List ℕ

abbrev pub change_step : Said → List ℕ → List ℤ → List ℕ → ChangeStep
change_step a ids numbers lengths = record { said = a; ids = ids; numbers = numbers; lengths = lengths }

abbrev pub said_by : Answer → Said
said_by (Ok tt) = accepted
said_by (Err code) = refused code

abbrev pub changed_by : Outcome → ℕ → List ℕ → List ℤ → List ℕ → ChangeStep
changed_by o p ids numbers lengths =
    change_step (said_by o.answer) (ids_with p o.balance ids) (numbers_with p o.balance numbers) (lengths_with p o.balance lengths)

unfoldable pub change_of : (adding : Bool) → ℕ → (nanos : ℤ) → (token : ℕ) → (amount : ℤ) → (ids : List ℕ) → (numbers : List ℤ) → (lengths : List ℕ) → ChangeStep
change_of adding p nanos token amount ids numbers lengths =
    changed_by (change_box adding (balance_of p ids numbers lengths) nanos (replicate 32 token) (amount ∷ []) 1) p ids numbers lengths

-- ---- any call
abbrev pub of_append : HeadStep → State → Stepping
of_append o s = left_by o.counted.answer s.ids o.numbers o.counted.lengths o.counted.spills o.staged s.lists.table s.lists.deleted

abbrev pub of_flip : FlipStep → State → Stepping
of_flip o s = left_by o.answer s.ids o.numbers s.lengths s.spills o.staged s.lists.table s.lists.deleted

abbrev pub of_pop : PopStep → State → Stepping
of_pop o s = left_by o.counted.answer s.ids o.numbers o.counted.lengths o.counted.spills o.staged s.lists.table o.deleted

abbrev pub of_flush : FlushStep → State → Stepping
of_flush o s = left_by o.answer s.ids s.numbers s.lengths s.spills o.staged o.table o.deleted

abbrev pub of_change : ChangeStep → State → Stepping
of_change o s = stepping o.said (state o.ids o.numbers o.lengths s.spills s.lists)

-- "31 unknown kind, parent above 1, body cut"
abbrev pub no_call : State → Stepping
no_call s = stepping (refused 31) s

module _ (E : Edition) where
  unfoldable pub append_by : Kind → ℕ → ℤ → (ids : List ℕ) → (numbers : List ℤ) → (lengths : List ℕ) → (spills : List ℤ) → (staged : List ℕ) → SpillCounts → HeadStep
  append_by k p z ids numbers lengths spills staged n =
      appended_by (append_of E k (parent_id p ids) (head_counts k p lengths spills) z n.staged (head_of k p numbers) staged) k p n numbers lengths spills

  unfoldable pub flip_by : Direction → ℕ → ℤ → (ids : List ℕ) → (numbers : List ℤ) → (lengths : List ℕ) → (spills : List ℤ) → (staged table : List ℕ) → SpillCounts
      → FlipStep
  flip_by d p z ids numbers lengths spills staged table n =
      flipped_by (flip_of E d (parent_id p ids) (head_counts Box p lengths spills) z n.staged staged n.table table (head_of Box p numbers)) p n numbers

  unfoldable pub pop_by : Kind → ℕ → (ids : List ℕ) → (numbers : List ℤ) → (lengths : List ℕ) → (spills : List ℤ) → Lists → PopStep
  pop_by k p ids numbers lengths spills b =
      popped_by (pop_of E k (parent_id p ids) (head_counts k p lengths spills) b (head_of k p numbers)) k p (counts_in b) numbers lengths spills

  unfoldable pub flush_by : Lists → FlushStep
  flush_by b = flushed_by (flush_of E b) (counts_in b)

  unfoldable pub step_of : Call → State → Stepping
  step_of (Append k p z) s =
      of_append (append_by k p z s.ids s.numbers s.lengths s.spills s.lists.staged (counts_in s.lists)) s
  step_of (Flip d p z) s =
      of_flip (flip_by d p z s.ids s.numbers s.lengths s.spills s.lists.staged s.lists.table (counts_in s.lists)) s
  step_of (Pop k p) s = of_pop (pop_by k p s.ids s.numbers s.lengths s.spills s.lists) s
  step_of Flush s = of_flush (flush_by s.lists) s
  step_of (Change adding p nanos token amount) s = of_change (change_of adding p nanos token amount s.ids s.numbers s.lengths) s
  step_of Bad s = no_call s
  step_of Cut s = no_call s
  step_of End s = no_call s

-- ---- what a call asks once 25 is tested: its parent's block is there, and its own test passes
abbrev pub StepReady : Call → State → Type 0
StepReady (Append k p z) s =
    Within p s.ids s.numbers s.lengths s.spills
    × (append_ok edition_1 (head_counts k p s.lengths s.spills) s.lists.staged_counts (head_of k p s.numbers) s.lists.staged ≡ true)
StepReady (Flip d p z) s =
    Within p s.ids s.numbers s.lengths s.spills
    × (flip_ok edition_1 (head_counts Box p s.lengths s.spills) s.lists.staged_counts s.lists.staged s.lists.table_counts s.lists.table
    (head_of Box p s.numbers)
    ≡ true)
StepReady (Pop k p) s =
    Within p s.ids s.numbers s.lengths s.spills
    × (pop_ok edition_1 (head_counts k p s.lengths s.spills) s.lists (head_of k p s.numbers) ≡ true)
StepReady Flush s = lists_ok edition_1 s.lists ≡ true
StepReady (Change adding p nanos token amount) s = Within p s.ids s.numbers s.lengths s.spills
StepReady Bad s = Unit {0}
StepReady Cut s = Unit {0}
StepReady End s = Unit {0}
