-- Calls keep the capacities of the lists, so that a run's figures are within its own.
use mathlib.Core.Path.{◌≡◌, refl}
use mathlib.Core.Bool.{Bool, true, false, cond}
use mathlib.Core.List.{List}
use Prim.Native.Nat.{ℕ, ◌-◌}
use lib.Dec.{leb, ltb, eqb}
use lib.IntN.{ℤ, pos, nat_abs}
use lib.ListN.{length, take}
use Rattle.signed.specs.Sign.{is_negative}
use Rattle.std.specs.Prelude.{Option, Some, None, Ok, Err}
use Rattle.index_types.specs.declared.ListCounts.{ListCounts}
use Rattle.records.specs.Changes.{full_for}
use Rattle.segment_id.specs.declared.Kind.{Kind}
use Rattle.index_types.specs.declared.HeadCounts.{HeadCounts}
use Rattle.buffer_core.specs.declared.Direction.{Direction}
use Rattle.index_types.specs.Answers.{Appended}
use Rattle.index_types.specs.Answers.{Flipped}
use Rattle.index_types.specs.Answers.{Popped}
use Rattle.index_types.specs.Answers.{Flushed}
use Rattle.buffer_core.specs.Edition.{Edition, RowRead, bad, good}
use Rattle.buffer_core.specs.Spills.{sources, spill_read}
use Rattle.buffer_core.specs.Append.{Appending, append_of, append_core, spill_of, spilled, append_ok}
use Rattle.buffer_core.specs.Flip.{Flipping, Effect, refuse, flip_head, stage, done_by, flip_effect, flip_of, flip_core, flip_ok}
use Rattle.buffer_core.specs.Pop.{Lists, count_without, staged_at, merged, merge_of, unspill_of, pop_core, pop_of, pop_ok}
use Rattle.buffer_core.specs.Flush.{flush_of, flush_core, new_keys}
use Rattle.buffer_core.specs.Flush as Fl
use Rattle.buffer_core.specs.Pop as Pp
use Rattle.calls.specs.declared.Call.{Call}
use Rattle.calls.specs.declared.Call.TheVariants.{Append, Flip, Pop, Flush, Change, Bad, Cut, End}
use Rattle.call_steps.specs.State.{State, parent_id, head_counts, head_of}
use Rattle.call_steps.specs.Steps.{Stepping, counts_in, of_append, of_flip, of_pop, of_flush, appended_by, flipped_by, popped_by, flushed_by, append_by, flip_by, pop_by, flush_by, step_of}

-- both ways out
either : {A : Type 0} (P : A → Type 0) (w : Bool) (x y : A) → P x → P y → P (cond w x y)
either P true x y p q = p
either P false x y p q = q

module _ (E : Edition) where
  abbrev AppCap : ListCounts → Appended → Type 0
  AppCap c (Ok (h, x)) = x.capacity ≡ c.capacity
  AppCap c (Err k) = Unit {0}

  spilled_cap : (kind : Kind) (key parent : List ℕ) (n : ℕ) (z : ℤ) (c : ListCounts) (head : List ℤ) (l : List ℕ) → AppCap c (spilled E kind key parent n z c head l).answer
  unfolding spilled
  spilled_cap kind key parent n z c head l = refl

  append_cap : (kind : Kind) (parent : List ℕ) (h : HeadCounts) (z : ℤ) (c : ListCounts) (head : List ℤ) (l : List ℕ) → AppCap c (append_of E kind parent h z c head l).answer
  unfolding append_of append_core spill_of
  append_cap kind parent h z c head l =
      either (λ (o : Appending). AppCap c o.answer) (append_ok E h c head l) _ _
      (either (λ (o : Appending). AppCap c o.answer) (is_negative h.spills) _ _ tt
      (either (λ (o : Appending). AppCap c o.answer) (is_negative z) _ _ tt
      (either (λ (o : Appending). AppCap c o.answer) (ltb h.len 512) _ _ refl
      (either (λ (o : Appending). AppCap c o.answer) (leb 2147483647 (nat_abs h.spills)) _ _ tt
      (either (λ (o : Appending). AppCap c o.answer) (full_for E.size c (E.key kind parent (pos (nat_abs h.spills))) l) _ _ tt (spilled_cap kind (E.key kind parent (pos (nat_abs h.spills))) parent (nat_abs h.spills) z c head l)))))) tt

  abbrev FlipCap : ListCounts → Flipped → Type 0
  FlipCap c (Ok x) = x.capacity ≡ c.capacity
  FlipCap c (Err k) = Unit {0}

  done_cap : (f : Effect) (c : ListCounts) (head : List ℤ) (l : List ℕ) → FlipCap c (done_by E f c head l).answer
  done_cap (refuse k) c head l = tt
  done_cap (flip_head i) c head l = refl
  done_cap (stage slot k key row) c head l = refl

  flip_cap : (d : Direction) (parent : List ℕ) (h : HeadCounts) (z : ℤ) (c : ListCounts) (l : List ℕ) (t : ListCounts) (table : List ℕ) (head : List ℤ) → FlipCap c (flip_of E d parent h z c l t table head).answer
  unfolding flip_of flip_core
  flip_cap d parent h z c l t table head =
      either (λ (o : Flipping). FlipCap c o.answer) (flip_ok E h c l t table head) _ _
      (done_cap (flip_effect E (sources parent l c.count table t.count) c.capacity d z h.spills (take h.len head)) c head l) tt

  abbrev PopCap : Lists → Popped → Type 0
  PopCap b (Ok (z, h, x, y)) = (x.capacity ≡ b.staged_counts.capacity) × (y.capacity ≡ b.deleted_counts.capacity)
  PopCap b (Err k) = Unit {0}

  without_cap : (f : Option ℕ) (c : ListCounts) → (count_without f c).capacity ≡ c.capacity
  without_cap (Some i) c = refl
  without_cap None c = refl

  merge_cap : (r : RowRead) (key : List ℕ) (n : ℕ) (b : Lists) (head : List ℤ) → PopCap b (merge_of E r key n b head).answer
  unfolding merge_of merged
  merge_cap (bad k) key n b head = tt
  merge_cap (good zs) key n b head =
      either (λ (o : Pp.Popping). PopCap b o.answer) (eqb (length zs) 0) _ _ tt
      (either (λ (o : Pp.Popping). PopCap b o.answer) (full_for 32 b.deleted_counts key b.deleted) _ _ tt (without_cap (staged_at E key b) b.staged_counts, refl))

  pop_cap : (kind : Kind) (parent : List ℕ) (h : HeadCounts) (b : Lists) (head : List ℤ) → PopCap b (pop_of E kind parent h b head).answer
  unfolding pop_of pop_core unspill_of
  pop_cap kind parent h b head =
      either (λ (o : Pp.Popping). PopCap b o.answer) (pop_ok E h b head) _ _
      (either (λ (o : Pp.Popping). PopCap b o.answer) (is_negative h.spills) _ _ tt
      (either (λ (o : Pp.Popping). PopCap b o.answer) (ltb 0 h.len) _ _ (refl, refl)
      (either (λ (o : Pp.Popping). PopCap b o.answer) (eqb (nat_abs h.spills) 0) _ _ tt
      (merge_cap (spill_read E kind (sources parent b.staged b.staged_counts.count b.table b.table_counts.count) (nat_abs h.spills - 1)) (E.key kind parent (pos (nat_abs h.spills - 1))) (nat_abs h.spills - 1) b head)))) tt

  abbrev FlushCap : Lists → Flushed → Type 0
  FlushCap b (Ok (t, x, y)) = (x.capacity ≡ b.staged_counts.capacity) × (y.capacity ≡ b.deleted_counts.capacity)
  FlushCap b (Err k) = Unit {0}

  flush_cap : (b : Lists) → FlushCap b (flush_of E b).answer
  unfolding flush_of flush_core Fl.flushed
  flush_cap b =
      either (λ (o : Fl.Flushing). FlushCap b o.answer) (Pp.lists_ok E b) _ _
      (either (λ (o : Fl.Flushing). FlushCap b o.answer) (leb (new_keys E b) (b.table_counts.capacity - b.table_counts.count)) _ _ (refl, refl) tt) tt

  -- ---- a call keeps the two capacities
  abbrev pub Kept : State → Stepping → Type 0
  Kept s x = (x.after.lists.staged_counts.capacity ≡ s.lists.staged_counts.capacity) × (x.after.lists.deleted_counts.capacity ≡ s.lists.deleted_counts.capacity)

  app_kept : (s : State) (k : Kind) (p : ℕ) (A : Appended) (hd : List ℤ) (st : List ℕ) → AppCap s.lists.staged_counts A
      → Kept s (of_append (appended_by (record { answer = A; head = hd; staged = st }) k p (counts_in s.lists) s.numbers s.lengths s.spills) s)
  app_kept s k p (Ok (h, x)) hd st c = (c, refl)
  app_kept s k p (Err j) hd st c = (refl, refl)

  flip_kept : (s : State) (p : ℕ) (A : Flipped) (hd : List ℤ) (st : List ℕ) → FlipCap s.lists.staged_counts A
      → Kept s (of_flip (flipped_by (record { answer = A; head = hd; staged = st }) p (counts_in s.lists) s.numbers) s)
  flip_kept s p (Ok x) hd st c = (c, refl)
  flip_kept s p (Err j) hd st c = (refl, refl)

  pop_kept : (s : State) (k : Kind) (p : ℕ) (A : Popped) (o : Pp.Popping) → PopCap s.lists A
      → Kept s (of_pop (popped_by (record { answer = A; head = o.head; staged = o.staged; deleted = o.deleted }) k p (counts_in s.lists) s.numbers s.lengths s.spills) s)
  pop_kept s k p (Ok (z, h, x, y)) o c = c
  pop_kept s k p (Err j) o c = (refl, refl)

  flush_kept : (s : State) (A : Flushed) (o : Fl.Flushing) → FlushCap s.lists A
      → Kept s (of_flush (flushed_by (record { answer = A; table = o.table; staged = o.staged; deleted = o.deleted }) (counts_in s.lists)) s)
  flush_kept s (Ok (t, x, y)) o c = c
  flush_kept s (Err j) o c = (refl, refl)

  pub call_kept : (x : Call) (s : State) → Kept s (step_of E x s)
  unfolding step_of append_by flip_by pop_by flush_by
  call_kept (Append k p z) s =
      let o = append_of E k (parent_id p s.ids) (head_counts k p s.lengths s.spills) z s.lists.staged_counts (head_of k p s.numbers) s.lists.staged in
      app_kept s k p o.answer o.head o.staged (append_cap k (parent_id p s.ids) (head_counts k p s.lengths s.spills) z s.lists.staged_counts (head_of k p s.numbers) s.lists.staged)
  call_kept (Flip d p z) s =
      let h = head_counts Rattle.segment_id.specs.declared.Kind.TheVariants.Box p s.lengths s.spills in
      let hd = head_of Rattle.segment_id.specs.declared.Kind.TheVariants.Box p s.numbers in
      let o = flip_of E d (parent_id p s.ids) h z s.lists.staged_counts s.lists.staged s.lists.table_counts s.lists.table hd in
      flip_kept s p o.answer o.head o.staged (flip_cap d (parent_id p s.ids) h z s.lists.staged_counts s.lists.staged s.lists.table_counts s.lists.table hd)
  call_kept (Pop k p) s =
      let o = pop_of E k (parent_id p s.ids) (head_counts k p s.lengths s.spills) s.lists (head_of k p s.numbers) in
      pop_kept s k p o.answer o (pop_cap k (parent_id p s.ids) (head_counts k p s.lengths s.spills) s.lists (head_of k p s.numbers))
  call_kept Flush s = flush_kept s (flush_of E s.lists).answer (flush_of E s.lists) (flush_cap s.lists)
  call_kept (Change a p n t v) s = (refl, refl)
  call_kept Bad s = (refl, refl)
  call_kept Cut s = (refl, refl)
  call_kept End s = (refl, refl)
