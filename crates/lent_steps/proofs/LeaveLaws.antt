-- A step of the segment buffer that is refused leaves the state as it was.
use Prim.Native.Nat.{ℕ, ◌<◌}
use mathlib.Core.Path.{◌≡◌, refl, ◌∙◌, ap}
use mathlib.Core.List.{List}
use native.Mathlib.Omega.{arith}
use borrow.Rule.Slice.PartMut.{put_same}
use lib.IntN.{ℤ}
use Rattle.std.specs.Prelude.{Ok, Err}
use Rattle.index_types.specs.Answers.{Appended}
use Rattle.index_types.specs.Answers.{Popped}
use Rattle.index_types.specs.Answers.{Flipped}
use Rattle.index_types.specs.Answers.{Flushed}
use Rattle.segment_id.specs.declared.Kind.{Kind}
use Rattle.segment_id.specs.declared.Kind.TheVariants.{Box}
use Rattle.buffer_core.specs.declared.Direction.{Direction}
use Rattle.buffer_core.specs.Edition.{edition_1}
use Rattle.buffer_core.specs.Append.{append_of}
use Rattle.buffer_core.specs.Pop.{Popping, lists, pop_of}
use Rattle.buffer_core.specs.Flip.{flip_of}
use Rattle.buffer_core.specs.Flush.{Flushing, flush_of}
use Rattle.buffer_core.proofs.RefusedLaws.{append_same, pop_same, flip_same, flush_same}
use Rattle.calls.specs.declared.Call.{Call}
use Rattle.calls.specs.declared.Call.TheVariants.{Append, Flip, Pop, Flush, Change, Bad, Cut, End}
use Rattle.call_steps.specs.State.{State, state, head_at, parent_id, head_counts, head_of}
use Rattle.call_steps.specs.Steps.{Stepping, counts_in, appended_by, of_append, flipped_by, of_flip, popped_by, of_pop, flushed_by, of_flush, append_by, flip_by, pop_by, flush_by, step_of}
use Rattle.trial_laws.proofs.StepNear.{OfForks}

-- a step leaves the state where its code is not 0
abbrev Left : State → Stepping → Type 0
Left s x = 0 < x.said.code → x.after ≡ s

module _ (s : State) where
  -- ---- append and pop
  module _ (k : Kind) (p : ℕ) where
    put_head : (head : List ℤ) → head ≡ head_of k p s.numbers → Rattle.call_steps.specs.State.with_head k p head s.numbers ≡ s.numbers
    put_head head e = ap (λ (h : List ℤ). Rattle.call_steps.specs.State.with_head k p h s.numbers) e ∙ put_same (head_at k p) 512 s.numbers

    append_left : (a : Appended) (head : List ℤ) (staged : List ℕ) → ((code : ℕ) → a ≡ Err code → (head ≡ head_of k p s.numbers) × (staged ≡ s.lists.staged))
        → Left s (of_append (appended_by (record { answer = a; head = head; staged = staged }) k p (counts_in s.lists) s.numbers s.lengths s.spills) s)
    append_left (Ok (h, c)) head staged q z = absurd (omega (arith, z))
    append_left (Err code) head staged q z =
        let l = q code refl in
        let n = put_head head l.0 in
        λ i. state s.ids (n i) s.lengths s.spills (lists s.lists.staged_counts (l.1 i) s.lists.table_counts s.lists.table s.lists.deleted_counts s.lists.deleted)

    pop_left : (a : Popped) (head : List ℤ) (staged deleted : List ℕ)
        → ((code : ℕ) → a ≡ Err code → (head ≡ head_of k p s.numbers) × (staged ≡ s.lists.staged) × (deleted ≡ s.lists.deleted))
        → Left s (of_pop (popped_by (record { answer = a; head = head; staged = staged; deleted = deleted }) k p (counts_in s.lists) s.numbers s.lengths s.spills) s)
    pop_left (Ok (y, h, c, d)) head staged deleted q z = absurd (omega (arith, z))
    pop_left (Err code) head staged deleted q z =
        let l = q code refl in
        let n = put_head head l.0 in
        λ i. state s.ids (n i) s.lengths s.spills (lists s.lists.staged_counts (l.1 i) s.lists.table_counts s.lists.table s.lists.deleted_counts (l.2 i))

  -- ---- spend and unspend
  flip_left : (p : ℕ) (a : Flipped) (head : List ℤ) (staged : List ℕ) → ((code : ℕ) → a ≡ Err code → (head ≡ head_of Box p s.numbers) × (staged ≡ s.lists.staged))
      → Left s (of_flip (flipped_by (record { answer = a; head = head; staged = staged }) p (counts_in s.lists) s.numbers) s)
  flip_left p (Ok c) head staged q z = absurd (omega (arith, z))
  flip_left p (Err code) head staged q z =
      let l = q code refl in
      let n = put_head Box p head l.0 in
      λ i. state s.ids (n i) s.lengths s.spills (lists s.lists.staged_counts (l.1 i) s.lists.table_counts s.lists.table s.lists.deleted_counts s.lists.deleted)

  -- ---- flush
  flush_left : (a : Flushed) (table staged deleted : List ℕ)
      → ((code : ℕ) → a ≡ Err code → (table ≡ s.lists.table) × (staged ≡ s.lists.staged) × (deleted ≡ s.lists.deleted))
      → Left s (of_flush (flushed_by (record { answer = a; table = table; staged = staged; deleted = deleted }) (counts_in s.lists)) s)
  flush_left (Ok (t, c, d)) table staged deleted q z = absurd (omega (arith, z))
  flush_left (Err code) table staged deleted q z =
      let l = q code refl in
      λ i. state s.ids s.numbers s.lengths s.spills (lists s.lists.staged_counts (l.1 i) s.lists.table_counts (l.0 i) s.lists.deleted_counts (l.2 i))

  pub refused_leaves : (a e : ℕ) (x : Call) → OfForks edition_1 a e x → Left s (step_of edition_1 x s)
  unfolding step_of append_by flip_by pop_by flush_by
  refused_leaves a e (Append k p z) o =
      let h = head_counts k p s.lengths s.spills in
      let y = append_of edition_1 k (parent_id p s.ids) h z s.lists.staged_counts (head_of k p s.numbers) s.lists.staged in
      append_left k p y.answer y.head y.staged (append_same edition_1 (head_of k p s.numbers) s.lists.staged k (parent_id p s.ids) h z s.lists.staged_counts)
  refused_leaves a e (Flip d p z) o =
      let h = head_counts Box p s.lengths s.spills in
      let y = flip_of edition_1 d (parent_id p s.ids) h z s.lists.staged_counts s.lists.staged s.lists.table_counts s.lists.table (head_of Box p s.numbers) in
      flip_left p y.answer y.head y.staged
      (flip_same edition_1 d (parent_id p s.ids) h z s.lists.staged_counts s.lists.staged s.lists.table_counts s.lists.table (head_of Box p s.numbers))
  refused_leaves a e (Pop k p) o =
      let h = head_counts k p s.lengths s.spills in
      let y = pop_of edition_1 k (parent_id p s.ids) h s.lists (head_of k p s.numbers) in
      pop_left k p y.answer y.head y.staged y.deleted (pop_same edition_1 (head_of k p s.numbers) s.lists k (parent_id p s.ids) h)
  refused_leaves a e Flush o =
      let y = flush_of edition_1 s.lists in
      flush_left y.answer y.table y.staged y.deleted (flush_same edition_1 s.lists)
  refused_leaves a e (Change b p n t v) o = absurd o
  refused_leaves a e Bad o = absurd o
  refused_leaves a e Cut o = absurd o
  refused_leaves a e End o = absurd o
