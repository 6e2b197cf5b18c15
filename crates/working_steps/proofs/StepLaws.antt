-- One step of a driver over a working set, from the laws of the single calls.
use Prim.Native.Nat.{ℕ, ◌-◌, ◌<◌}
use mathlib.Core.Path.{◌≡◌, refl, sym, ap, ◌∙◌, subst}
use mathlib.Core.Bool.{Bool, true, false, cond}
use mathlib.Core.List.{List, [], ◌∷◌}
use borrow.Author.Tests.{leb-true}
use borrow.Rule.Slice.PartMut.{put_same}
use lib.Dec.{leb}
use lib.IntN.{ℤ}
use Rattle.records.specs.Checks.{records_ok}
use Rattle.records.proofs.CheckLaws.{and_left, and_right}
use Rattle.index_types.specs.declared.ListCounts.{ListCounts}
use Rattle.index_types.specs.declared.RowEdition.TheVariants.{One}
use Rattle.std.specs.Prelude.{Ok, Err}
use Rattle.index_types.specs.Answers.{Appended}
use Rattle.index_types.specs.Answers.{Popped}
use Rattle.index_types.specs.Answers.{Flipped}
use Rattle.segment_id.specs.declared.Kind.{Kind}
use Rattle.segment_id.specs.declared.Kind.TheVariants.{Box, Tx}
use Rattle.buffer_core.specs.declared.Direction.{Direction}
use Rattle.buffer_core.specs.declared.Direction.TheVariants.{Spend, Unspend}
use Rattle.buffer_core.specs.Edition.{edition_1}
use Rattle.buffer_core.specs.Append.{Appending, appending, append_of}
use Rattle.buffer_core.specs.Pop.{Popping, Lists, lists_ok, popping, pop_of}
use Rattle.buffer_core.specs.Flip.{Flipping, flipping, flip_of}
use Rattle.buffer_core.specs.Flush.{Flushing, flushing as flushing_as, new_keys, flushed as flushed_lists, flush_core, flush_of, table_after}
use Rattle.calls.specs.declared.Call.TheVariants.{Append, Flip, Pop, Flush}
use Rattle.call_steps.specs.declared.Said.{Said}
use Rattle.call_steps.specs.State.{State, Ready, head_at, parent_id, head_counts, head_of}
use Rattle.call_steps.specs.Steps.{Stepping, counts_in, appended_by, of_append, flipped_by, of_flip, popped_by, of_pop, flushed_by, of_flush, append_by, flip_by, pop_by, flush_by, step_of}
use Rattle.call_steps.proofs.KeepLaws.{step_kept}
use Rattle.ledger.specs.Calls.{Tokens, append, spend, credit, debit, boxes, txs}
use Rattle.working_set.specs.Part.{Part}
use Rattle.working_set.specs.Laws.{Working}
use Rattle.working_set.specs.Laws as set_laws
use Rattle.working_set.proofs.WorkingSets.{working_sets}
use Rattle.driver_core.specs.Steps.{change_with, flushing, unspends, pops}
use Rattle.driver_core.proofs.KeepLaws.{change_kept}
use Rattle.working_steps.specs.Beside.{with_table, Beside, Act, makes, unmakes, takes, flushes, act, ActOf, ActsOf, Outcome, as_table, lacks, full, full_table, says, left, Without}
use Rattle.working_steps.specs.Laws.{StepLaw, StepsLaw}

-- the table's own test
pub table_passed : (b : Lists) → lists_ok edition_1 b ≡ true → records_ok 10288 10254 b.table_counts b.table ≡ true
unfolding lists_ok
table_passed b e = and_left _ _ (and_right (records_ok 10288 10254 b.staged_counts b.staged) _ e)

-- ---- a flush is made, or refused with 22
abbrev has_room : Lists → Bool
has_room b = leb (new_keys edition_1 b) (b.table_counts.capacity - b.table_counts.count)

flush_made : (b : Lists) → lists_ok edition_1 b ≡ true → has_room b ≡ true → flush_of edition_1 b ≡ flushed_lists edition_1 b
flush_made b ok e = ((working_sets One).flushes b ok (leb-true (new_keys edition_1 b) (b.table_counts.capacity - b.table_counts.count) e)).0

flush_full : (b : Lists) → lists_ok edition_1 b ≡ true → has_room b ≡ false → flush_of edition_1 b ≡ flushing_as (Err 22) b.table b.staged b.deleted
unfolding flush_of flush_core
flush_full b ok e =
    ap (λ (t : Bool). cond t (flush_core edition_1 b) (flushing_as (Err 25) b.table b.staged b.deleted)) ok
    ∙ ap (λ (t : Bool). cond t (flushed_lists edition_1 b) (flushing_as (Err 22) b.table b.staged b.deleted)) e

flush_ready : (parents : ℕ) (s : State) → Ready parents s → Ready parents (of_flush (flushed_by (flush_of edition_1 s.lists) (counts_in s.lists)) s).after
unfolding step_of flush_by
flush_ready parents s r = step_kept parents s r Flush tt

module _ (parents : ℕ) (w : State) (tc : ListCounts) (table : List ℕ) (rw : Ready parents w) (ru : Ready parents (with_table tc table w))
    (part : Part edition_1 w.lists.table_counts w.lists.table tc table) where
  abbrev u : State
  u = with_table tc table w

  abbrev Out : Stepping → Stepping → Type 0
  Out x y = Outcome parents w u x y

  working : Working edition_1 w.lists.table_counts w.lists.table tc table
  working = record { work_ok = table_passed w.lists rw.listed; table_ok = table_passed u.lists ru.listed; part = part }

  -- ---- append
  module _ (k : Kind) (p : ℕ) where
    abbrev append_after : State → Appending → Stepping
    append_after s o = of_append (appended_by o k p (counts_in s.lists) s.numbers s.lengths s.spills) s

    append_same : (a : Appended) (head : List ℤ) (staged : List ℕ) → Ready parents (append_after w (appending a head staged)).after
        → Ready parents (append_after u (appending a head staged)).after → Out (append_after w (appending a head staged)) (append_after u (appending a head staged))
    append_same (Ok (g, c)) head staged x y = as_table refl (record { work_ready = x; table_ready = y; same = refl; part = part })
    append_same (Err code) head staged x y = as_table refl (record { work_ready = x; table_ready = y; same = refl; part = part })

  appends : (k : Kind) (p : ℕ) → p < parents → (z : ℤ) → Out (step_of edition_1 (Append k p z) w) (step_of edition_1 (Append k p z) u)
  unfolding step_of append_by
  appends k p h z =
      let o = append_of edition_1 k (parent_id p w.ids) (head_counts k p w.lengths w.spills) z w.lists.staged_counts (head_of k p w.numbers) w.lists.staged in
      append_same k p o.answer o.head o.staged (step_kept parents w rw (Append k p z) h) (step_kept parents u ru (Append k p z) h)

  -- ---- spend and unspend
  module _ (p : ℕ) where
    abbrev flip_after : State → Flipping → Stepping
    flip_after s o = of_flip (flipped_by o p (counts_in s.lists) s.numbers) s

    flip_same : (a : Flipped) (head : List ℤ) (staged : List ℕ) → Ready parents (flip_after w (flipping a head staged)).after → Ready parents (flip_after u (flipping a head staged)).after
        → Out (flip_after w (flipping a head staged)) (flip_after u (flipping a head staged))
    flip_same (Ok c) head staged x y = as_table refl (record { work_ready = x; table_ready = y; same = refl; part = part })
    flip_same (Err code) head staged x y = as_table refl (record { work_ready = x; table_ready = y; same = refl; part = part })

    flip_lack : (y : Stepping) (o : Flipping) → o ≡ flipping (Err 12) (head_of Box p w.numbers) w.lists.staged → Out (flip_after w o) y
    flip_lack y o e =
        lacks (ap (λ (x : Flipping). (flip_after w x).said) e)
        (ap (λ (x : Flipping). (flip_after w x).after) e ∙ (λ i. record { ids = w.ids; numbers = put_same (head_at Box p) 512 w.numbers i; lengths = w.lengths; spills = w.spills; lists = w.lists }))

  module _ (d : Direction) (p : ℕ) (z : ℤ) where
    abbrev flip_on : ListCounts → List ℕ → Flipping
    flip_on c l = flip_of edition_1 d (parent_id p w.ids) (head_counts Box p w.lengths w.spills) z w.lists.staged_counts w.lists.staged c l (head_of Box p w.numbers)

    abbrev flip_here : Flipping
    flip_here = flip_on w.lists.table_counts w.lists.table

    flip_out : {missing : ℕ → Bool} {on_part on_all : List ℕ}
        → set_laws.Outcome missing on_part on_all (flip_here ≡ flip_on tc table) (flip_here ≡ flipping (Err 12) (head_of Box p w.numbers) w.lists.staged)
        → Ready parents (flip_after p w flip_here).after → Ready parents (flip_after p u (flip_on tc table)).after → Out (flip_after p w flip_here) (flip_after p u (flip_on tc table))
    flip_out (set_laws.same m r e) x y =
        let o = flip_on tc table in
        subst (λ (q : Flipping). Out (flip_after p w q) (flip_after p u o)) (sym e)
        (flip_same p o.answer o.head o.staged (subst (λ (q : Flipping). Ready parents (flip_after p w q).after) e x) y)
    flip_out (set_laws.lack n m r i e) x y = flip_lack p (flip_after p u (flip_on tc table)) flip_here e

  flips : (d : Direction) (p : ℕ) → p < parents → (z : ℤ) → Out (step_of edition_1 (Flip d p z) w) (step_of edition_1 (Flip d p z) u)
  unfolding step_of flip_by
  flips d p h z =
      flip_out d p z
      ((working_sets One).spends_and_unspends d (parent_id p w.ids) (head_counts Box p w.lengths w.spills) z w.lists.staged_counts w.lists.staged
      w.lists.table_counts w.lists.table tc table (head_of Box p w.numbers) working)
      (step_kept parents w rw (Flip d p z) h) (step_kept parents u ru (Flip d p z) h)

  -- ---- pop
  module _ (k : Kind) (p : ℕ) where
    abbrev pop_after : State → Popping → Stepping
    pop_after s o = of_pop (popped_by o k p (counts_in s.lists) s.numbers s.lengths s.spills) s

    pop_same : (a : Popped) (head : List ℤ) (staged deleted : List ℕ) → Ready parents (pop_after w (popping a head staged deleted)).after
        → Ready parents (pop_after u (popping a head staged deleted)).after → Out (pop_after w (popping a head staged deleted)) (pop_after u (popping a head staged deleted))
    pop_same (Ok (z, g, c, e)) head staged deleted x y = as_table refl (record { work_ready = x; table_ready = y; same = refl; part = part })
    pop_same (Err code) head staged deleted x y = as_table refl (record { work_ready = x; table_ready = y; same = refl; part = part })

    pop_lack : (y : Stepping) (o : Popping) → o ≡ popping (Err 12) (head_of k p w.numbers) w.lists.staged w.lists.deleted → Out (pop_after w o) y
    pop_lack y o e =
        lacks (ap (λ (x : Popping). (pop_after w x).said) e)
        (ap (λ (x : Popping). (pop_after w x).after) e ∙ (λ i. record { ids = w.ids; numbers = put_same (head_at k p) 512 w.numbers i; lengths = w.lengths; spills = w.spills; lists = w.lists }))

    abbrev pop_on : Lists → Popping
    pop_on b = pop_of edition_1 k (parent_id p w.ids) (head_counts k p w.lengths w.spills) b (head_of k p w.numbers)

    pop_out : {missing : ℕ → Bool} {on_part on_all : List ℕ}
        → set_laws.Outcome missing on_part on_all (pop_on w.lists ≡ pop_on u.lists) (pop_on w.lists ≡ popping (Err 12) (head_of k p w.numbers) w.lists.staged w.lists.deleted)
        → Ready parents (pop_after w (pop_on w.lists)).after → Ready parents (pop_after u (pop_on u.lists)).after → Out (pop_after w (pop_on w.lists)) (pop_after u (pop_on u.lists))
    pop_out (set_laws.same m r e) x y =
        let o = pop_on u.lists in
        subst (λ (q : Popping). Out (pop_after w q) (pop_after u o)) (sym e)
        (pop_same o.answer o.head o.staged o.deleted (subst (λ (q : Popping). Ready parents (pop_after w q).after) e x) y)
    pop_out (set_laws.lack n m r i e) x y = pop_lack (pop_after u (pop_on u.lists)) (pop_on w.lists) e

  pops_done : (k : Kind) (p : ℕ) → p < parents → Out (step_of edition_1 (Pop k p) w) (step_of edition_1 (Pop k p) u)
  unfolding step_of pop_by
  pops_done k p h =
      pop_out k p
      ((working_sets One).pops k (parent_id p w.ids) (head_counts k p w.lengths w.spills) w.lists.staged_counts w.lists.staged
      w.lists.table_counts w.lists.table tc table w.lists.deleted_counts w.lists.deleted (head_of k p w.numbers) working)
      (step_kept parents w rw (Pop k p) h) (step_kept parents u ru (Pop k p) h)

  -- ---- flush
  abbrev flush_after : State → Flushing → Stepping
  flush_after s o = of_flush (flushed_by o (counts_in s.lists)) s

  flush_done : has_room w.lists ≡ true → has_room u.lists ≡ true → Out (flush_after w (flush_of edition_1 w.lists)) (flush_after u (flush_of edition_1 u.lists))
  unfolding flushed_lists
  flush_done a b =
      let e = flush_made w.lists rw.listed a in
      let f = flush_made u.lists ru.listed b in
      let n = (table_after edition_1 w.lists).counts in
      let m = (table_after edition_1 u.lists).counts in
      let p = (working_sets One).work_flushes w.lists.staged_counts w.lists.staged w.lists.table_counts w.lists.table tc table w.lists.deleted_counts w.lists.deleted rw.listed ru.listed
      (leb-true (new_keys edition_1 w.lists) (w.lists.table_counts.capacity - w.lists.table_counts.count) a)
      (leb-true (new_keys edition_1 u.lists) (tc.capacity - tc.count) b) part in
      let x : Ready parents (flush_after w (flush_of edition_1 w.lists)).after = flush_ready parents w rw in
      let y : Ready parents (flush_after u (flush_of edition_1 u.lists)).after = flush_ready parents u ru in
      subst (λ (o : Flushing). Out (flush_after w o) (flush_after u (flush_of edition_1 u.lists))) (sym e)
      (subst (λ (o : Flushing). Out (flush_after w (flushed_lists edition_1 w.lists)) (flush_after u o)) (sym f)
      (as_table refl
      (record {
        work_ready = subst (λ (o : Flushing). Ready parents (flush_after w o).after) e x;
        table_ready = subst (λ (o : Flushing). Ready parents (flush_after u o).after) f y;
        same = refl;
        part = subst (λ (o : Flushing). Part edition_1 n (flushed_lists edition_1 w.lists).table m o.table) f (subst (λ (o : Flushing). Part edition_1 n o.table m (flush_of edition_1 u.lists).table) e p);
      })))

  flush_out : Out (flush_after w (flush_of edition_1 w.lists)) (flush_after u (flush_of edition_1 u.lists))
  flush_out = by (has_room w.lists) (has_room u.lists) refl refl
    where
      by : (a b : Bool) → has_room w.lists ≡ a → has_room u.lists ≡ b → Out (flush_after w (flush_of edition_1 w.lists)) (flush_after u (flush_of edition_1 u.lists))
      by false b x y =
          let e = flush_full w.lists rw.listed x in
          full (ap (λ (o : Flushing). (flush_after w o).said) e) (ap (λ (o : Flushing). (flush_after w o).after) e)
      by true false x y =
          let e = flush_full u.lists ru.listed y in
          full_table (ap (λ (o : Flushing). (flush_after u o).said) e) (ap (λ (o : Flushing). (flush_after u o).after) e)
      by true true x y = flush_done x y

  flush_step : Out (flushing w) (flushing u)
  unfolding step_of flush_by
  flush_step = flush_out

  -- ---- credit and debit: neither reads a list
  change_out : (adding : Bool) (p : ℕ) → p < parents → (n : ℤ) (ts : Tokens) → Out (change_with adding p n ts w) (change_with adding p n ts u)
  unfolding change_with
  change_out adding p h n ts =
      as_table refl (record { work_ready = change_kept parents w rw adding p h n ts; table_ready = change_kept parents u ru adding p h n ts; same = refl; part = part })

  act_out : (a : Act) → ActOf parents a → Out (act a w) (act a u)
  act_out (makes (append (boxes p) n)) h = appends Box p h n
  act_out (makes (append (txs p) n)) h = appends Tx p h n
  act_out (makes (spend p n)) h = flips Spend p h n
  act_out (makes (credit p n ts)) h = change_out true p h n ts
  act_out (makes (debit p n ts)) h = change_out false p h n ts
  act_out (unmakes (append (boxes p) n)) h = pops_done Box p h
  act_out (unmakes (append (txs p) n)) h = pops_done Tx p h
  act_out (unmakes (spend p n)) h = flips Unspend p h n
  act_out (unmakes (credit p n ts)) h = change_out false p h n ts
  act_out (unmakes (debit p n ts)) h = change_out true p h n ts
  act_out (takes (unspends p n)) h = flips Unspend p h n
  act_out (takes (pops k p)) h = pops_done k p h
  act_out flushes h = flush_step

pub step_law : StepLaw
step_law parents a h w t b =
    subst (λ (v : State). Outcome parents w v (act a w) (act a v)) b.same
    (act_out parents w t.lists.table_counts t.lists.table b.work_ready (subst (Ready parents) (sym b.same) b.table_ready) b.part a h)

-- ---- one after the other
pub steps_law : StepsLaw
unfolding ActsOf says left Without
steps_law parents [] h w t b k l m = (refl, b)
steps_law parents (a ∷ rest) h w t b k l m =
    by (step_law parents a h.0 w t b) (λ c. steps_law parents rest h.1 (act a w).after (act a t).after c k.1 l.1 m.1)
  where
    by : Outcome parents w t (act a w) (act a t)
        → (Beside parents (act a w).after (act a t).after
        → (says (act a w).after rest ≡ says (act a t).after rest) × Beside parents (left (act a w).after rest) (left (act a t).after rest))
        → ((act a w).said ∷ says (act a w).after rest ≡ (act a t).said ∷ says (act a t).after rest) × Beside parents (left (act a w).after rest) (left (act a t).after rest)
    by (as_table e c) f = ((λ i. e i ∷ (f c).0 i), (f c).1)
    by (lacks e c) f = absurd (k.0 (ap (λ (x : Said). x.code) e))
    by (full e c) f = absurd (l.0 (ap (λ (x : Said). x.code) e))
    by (full_table e c) f = absurd (m.0 (ap (λ (x : Said). x.code) e))
