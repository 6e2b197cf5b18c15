-- One call of the simulation under two capacities.
use mathlib.Core.Path.{◌≡◌, refl, ap, subst}
use mathlib.Core.Logic.{◌≢◌}
use mathlib.Core.Bool.{true}
use mathlib.Core.List.{List}
use Prim.Native.Nat.{ℕ, ◌≤◌}
use lib.IntN.{ℤ}
use Rattle.index_types.specs.declared.ListCounts.{ListCounts}
use Rattle.segment_id.specs.declared.Kind.{Kind}
use Rattle.segment_id.specs.declared.Kind.TheVariants.{Box}
use Rattle.index_types.specs.declared.HeadCounts.{HeadCounts}
use Rattle.buffer_core.specs.declared.Direction.{Direction}
use Rattle.std.specs.Prelude.{Ok, Err}
use Rattle.index_types.specs.Answers.{Appended}
use Rattle.index_types.specs.Answers.{Flipped}
use Rattle.index_types.specs.Answers.{Popped}
use Rattle.index_types.specs.Answers.{Flushed}
use Rattle.buffer_core.specs.Edition.{Edition}
use Rattle.buffer_core.specs.Append.{append_of}
use Rattle.buffer_core.specs.Flip.{flip_of}
use Rattle.buffer_core.specs.Pop.{Lists, lists, Popping, lists_ok, pop_of}
use Rattle.buffer_core.specs.Flush.{Flushing, flush_of}
use Rattle.buffer_core.proofs.ListLaws.{lists_fit}
use Rattle.records.proofs.CheckLaws.{records_ok_test}
use Rattle.calls.specs.declared.Call.{Call}
use Rattle.calls.specs.declared.Call.TheVariants.{Append, Flip, Pop, Flush, Change, Bad, Cut, End}
use Rattle.call_steps.specs.State.{State, state, parent_id, head_counts, head_of, with_head}
use Rattle.call_steps.specs.Steps.{Stepping, refused, counts_in, appended_by, flipped_by, popped_by, flushed_by, of_append, of_flip, of_pop, of_flush, append_by, flip_by, pop_by, flush_by, step_of}
use Rattle.trial_laws.proofs.NearLaws.{Near}
use Rattle.trial_laws.proofs.CallNear as Cn
use Rattle.trial_laws.proofs.ListsNear.{Close}
use Rattle.trial_laws.proofs.ListsNear as Ln

module _ (E : Edition) (a e : ℕ) where
  -- two states that hold the same
  pub record Rel (s t : State) : Type 0 where
    pub ids : s.ids ≡ t.ids
    pub numbers : s.numbers ≡ t.numbers
    pub lengths : s.lengths ≡ t.lengths
    pub spills : s.spills ≡ t.spills
    pub lists : Close E a e s.lists t.lists

  pub record Tracks (x y : Stepping) : Type 0 where
    pub said : x.said ≡ y.said
    pub states : Rel x.after y.after

  -- no 16 and no 21, and within the figures
  pub record Fine (x : Stepping) : Type 0 where
    pub not_16 : x.said.code ≢ 16
    pub not_21 : x.said.code ≢ 21
    pub staged : x.after.lists.staged_counts.count ≤ a
    pub deleted : x.after.lists.deleted_counts.count ≤ e

  abbrev moved : State → Lists → State
  moved s b = state s.ids s.numbers s.lengths s.spills b

  module _ (s : State) (c : Lists) (N : Close E a e s.lists c) (ok : lists_ok E s.lists ≡ true) where
    abbrev b : Lists
    b = s.lists

    close : (x y : ListCounts) (st st' : List ℕ) → Near E.size E.limit a x y st st'
        → Close E a e (lists x st b.table_counts b.table b.deleted_counts b.deleted) (lists y st' c.table_counts c.table c.deleted_counts c.deleted)
    close x y st st' n = record { staged = n; deleted = N.deleted; table_counts = N.table_counts; table = N.table }

    -- ---- append
    module _ (k : Kind) (p : ℕ) where
      abbrev one : Appended → List ℤ → List ℕ → Stepping
      one A hd st = of_append (appended_by (record { answer = A; head = hd; staged = st }) k p (counts_in b) s.numbers s.lengths s.spills) s

      abbrev two : Appended → List ℤ → List ℕ → Stepping
      two A hd st = of_append (appended_by (record { answer = A; head = hd; staged = st }) k p (counts_in c) s.numbers s.lengths s.spills) (moved s c)

      abbrev Passes : Type 0
      Passes = Rattle.records.specs.Checks.records_ok E.size E.limit b.staged_counts b.staged ≡ true

      st_ok : Passes
      st_ok = records_ok_test _ _ _ _ (lists_fit E b ok).in_staged

      app_fine : (A : Appended) (hd : List ℤ) (st : List ℕ) → Fine (one A hd st) → Cn.AppFine E a b.staged_counts c.staged_counts b.staged c.staged N.staged st_ok A
      app_fine (Ok (h, x)) hd st F = F.staged
      app_fine (Err j) hd st F = F.not_16

      app_tracks : (A A' : Appended) (hd hd' : List ℤ) (st st' : List ℕ) → Cn.AppNear E a b.staged_counts c.staged_counts b.staged c.staged N.staged st_ok A A' hd hd' st st' → Tracks (one A hd st) (two A' hd' st')
      app_tracks (Ok (h, x)) (Ok (g, y)) hd hd' st st' n = record {
        said = refl;
        states = record {
          ids = refl;
          numbers = ap (λ (z : List ℤ). with_head k p z s.numbers) n.1;
          lengths = ap (λ (z : HeadCounts). Rattle.call_steps.specs.Steps.lengths_by k p z s.lengths) n.0;
          spills = ap (λ (z : HeadCounts). Rattle.call_steps.specs.Steps.spills_by k p z s.spills) n.0;
          lists = close x y st st' n.2;
        };
      }
      app_tracks (Ok (h, x)) (Err j) hd hd' st st' n = absurd n
      app_tracks (Err j) (Ok (g, y)) hd hd' st st' n = absurd n
      app_tracks (Err j) (Err i) hd hd' st st' n = record {
        said = ap refused n.0;
        states = record { ids = refl; numbers = ap (λ (z : List ℤ). with_head k p z s.numbers) n.1; lengths = refl; spills = refl; lists = close b.staged_counts c.staged_counts st st' n.2 };
      }

      pub append_step : (z : ℤ) → Fine (step_of E (Append k p z) s) → Tracks (step_of E (Append k p z) s) (step_of E (Append k p z) (moved s c))
      unfolding step_of append_by
      append_step z F =
          let o = append_of E k (parent_id p s.ids) (head_counts k p s.lengths s.spills) z b.staged_counts (head_of k p s.numbers) b.staged in
          let o' = append_of E k (parent_id p s.ids) (head_counts k p s.lengths s.spills) z c.staged_counts (head_of k p s.numbers) c.staged in
          app_tracks o.answer o'.answer o.head o'.head o.staged o'.staged
          (Cn.append_near E a b.staged_counts c.staged_counts b.staged c.staged N.staged st_ok k (parent_id p s.ids) (head_counts k p s.lengths s.spills) z (head_of k p s.numbers)
          (app_fine o.answer o.head o.staged F))

      -- ---- pop
      abbrev pop_one : Popped → Popping → Stepping
      pop_one P o = of_pop (popped_by (record { answer = P; head = o.head; staged = o.staged; deleted = o.deleted }) k p (counts_in b) s.numbers s.lengths s.spills) s

      abbrev pop_two : Popped → Popping → Stepping
      pop_two P o = of_pop (popped_by (record { answer = P; head = o.head; staged = o.staged; deleted = o.deleted }) k p (counts_in c) s.numbers s.lengths s.spills) (moved s c)

      pop_fine : (P : Popped) (o : Popping) → Fine (pop_one P o) → Ln.PopFine E a e b c N ok P
      pop_fine (Ok (z, h, x, y)) o F = F.deleted
      pop_fine (Err j) o F = F.not_21

      pop_tracks : (P P' : Popped) (o o' : Popping) → Ln.PopNear E a e b c N ok P P' o o' → Tracks (pop_one P o) (pop_two P' o')
      pop_tracks (Ok (z, h, x, y)) (Ok (z', h', x', y')) o o' n = record {
        said = ap Rattle.call_steps.specs.Steps.number_popped n.0;
        states = record {
          ids = refl;
          numbers = ap (λ (w : List ℤ). with_head k p w s.numbers) n.2;
          lengths = ap (λ (w : HeadCounts). Rattle.call_steps.specs.Steps.lengths_by k p w s.lengths) n.1;
          spills = ap (λ (w : HeadCounts). Rattle.call_steps.specs.Steps.spills_by k p w s.spills) n.1;
          lists = record { staged = n.3; deleted = n.4; table_counts = N.table_counts; table = N.table };
        };
      }
      pop_tracks (Ok (z, h, x, y)) (Err j) o o' n = absurd n
      pop_tracks (Err j) (Ok (z, h, x, y)) o o' n = absurd n
      pop_tracks (Err j) (Err i) o o' n = record {
        said = ap refused n.0;
        states = record {
          ids = refl;
          numbers = ap (λ (w : List ℤ). with_head k p w s.numbers) n.1;
          lengths = refl;
          spills = refl;
          lists = record { staged = n.2; deleted = n.3; table_counts = N.table_counts; table = N.table };
        };
      }

      pub pop_step : Fine (step_of E (Pop k p) s) → Tracks (step_of E (Pop k p) s) (step_of E (Pop k p) (moved s c))
      unfolding step_of pop_by
      pop_step F =
          let h = head_counts k p s.lengths s.spills in
          let o = pop_of E k (parent_id p s.ids) h b (head_of k p s.numbers) in
          let o' = pop_of E k (parent_id p s.ids) h c (head_of k p s.numbers) in
          pop_tracks o.answer o'.answer o o' (Ln.pop_near E a e b c N ok k (parent_id p s.ids) h (head_of k p s.numbers) (pop_fine o.answer o F))

    -- ---- spend and unspend
    module _ (d : Direction) (p : ℕ) where
      abbrev flip_one : Flipped → List ℤ → List ℕ → Stepping
      flip_one A hd st = of_flip (flipped_by (record { answer = A; head = hd; staged = st }) p (counts_in b) s.numbers) s

      abbrev flip_two : Flipped → List ℤ → List ℕ → Stepping
      flip_two A hd st = of_flip (flipped_by (record { answer = A; head = hd; staged = st }) p (counts_in c) s.numbers) (moved s c)

      flip_fine : (A : Flipped) (hd : List ℤ) (st : List ℕ) → Fine (flip_one A hd st) → Ln.FlipFine E a e b c N ok A
      flip_fine (Ok x) hd st F = F.staged
      flip_fine (Err j) hd st F = F.not_16

      flip_tracks : (A A' : Flipped) (hd hd' : List ℤ) (st st' : List ℕ) → Ln.FlipNear E a e b c N ok A A' hd hd' st st' → Tracks (flip_one A hd st) (flip_two A' hd' st')
      flip_tracks (Ok x) (Ok y) hd hd' st st' n = record {
        said = refl;
        states = record { ids = refl; numbers = ap (λ (z : List ℤ). with_head Box p z s.numbers) n.0; lengths = refl; spills = refl; lists = close x y st st' n.1 };
      }
      flip_tracks (Ok x) (Err j) hd hd' st st' n = absurd n
      flip_tracks (Err j) (Ok y) hd hd' st st' n = absurd n
      flip_tracks (Err j) (Err i) hd hd' st st' n = record {
        said = ap refused n.0;
        states = record { ids = refl; numbers = ap (λ (z : List ℤ). with_head Box p z s.numbers) n.1; lengths = refl; spills = refl; lists = close b.staged_counts c.staged_counts st st' n.2 };
      }

      pub flip_step : (z : ℤ) → Fine (step_of E (Flip d p z) s) → Tracks (step_of E (Flip d p z) s) (step_of E (Flip d p z) (moved s c))
      unfolding step_of flip_by
      flip_step z F =
          let h = head_counts Box p s.lengths s.spills in
          let o = flip_of E d (parent_id p s.ids) h z b.staged_counts b.staged b.table_counts b.table (head_of Box p s.numbers) in
          let o' = flip_of E d (parent_id p s.ids) h z c.staged_counts c.staged c.table_counts c.table (head_of Box p s.numbers) in
          flip_tracks o.answer o'.answer o.head o'.head o.staged o'.staged
          (Ln.flip_near E a e b c N ok d (parent_id p s.ids) h z (head_of Box p s.numbers) (flip_fine o.answer o.head o.staged F))

    -- ---- flush
    abbrev flush_one : Flushed → Flushing → Stepping
    flush_one A o = of_flush (flushed_by (record { answer = A; table = o.table; staged = o.staged; deleted = o.deleted }) (counts_in b)) s

    abbrev flush_two : Flushed → Flushing → Stepping
    flush_two A o = of_flush (flushed_by (record { answer = A; table = o.table; staged = o.staged; deleted = o.deleted }) (counts_in c)) (moved s c)

    flush_tracks : (A A' : Flushed) (o o' : Flushing) → Ln.FlushNear E a e b c N ok A A' o o' → Tracks (flush_one A o) (flush_two A' o')
    flush_tracks (Ok (t, x, y)) (Ok (t', x', y')) o o' n = record { said = refl; states = record { ids = refl; numbers = refl; lengths = refl; spills = refl; lists = n } }
    flush_tracks (Ok (t, x, y)) (Err j) o o' n = absurd n
    flush_tracks (Err j) (Ok (t, x, y)) o o' n = absurd n
    flush_tracks (Err j) (Err i) o o' n = record { said = ap refused n.0; states = record { ids = refl; numbers = refl; lengths = refl; spills = refl; lists = n.1 } }

    pub flush_step : Tracks (step_of E Flush s) (step_of E Flush (moved s c))
    unfolding step_of flush_by
    flush_step = flush_tracks (flush_of E b).answer (flush_of E c).answer (flush_of E b) (flush_of E c) (Ln.flush_near E a e b c N ok)

  -- ---- any call of the simulation
  abbrev pub OfForks : Call → Type 0
  OfForks (Append k p z) = Unit {0}
  OfForks (Flip d p z) = Unit {0}
  OfForks (Pop k p) = Unit {0}
  OfForks Flush = Unit {0}
  OfForks (Change x p n t v) = ⊥
  OfForks Bad = ⊥
  OfForks Cut = ⊥
  OfForks End = ⊥

  at_moved : (x : Call) → OfForks x → (s : State) (c : Lists) → Close E a e s.lists c → lists_ok E s.lists ≡ true → Fine (step_of E x s) → Tracks (step_of E x s) (step_of E x (moved s c))
  at_moved (Append k p z) o s c N ok F = append_step s c N ok k p z F
  at_moved (Flip d p z) o s c N ok F = flip_step s c N ok d p z F
  at_moved (Pop k p) o s c N ok F = pop_step s c N ok k p F
  at_moved Flush o s c N ok F = flush_step s c N ok
  at_moved (Change x p n t v) o s c N ok F = absurd o
  at_moved Bad o s c N ok F = absurd o
  at_moved Cut o s c N ok F = absurd o
  at_moved End o s c N ok F = absurd o

  -- the law of one call: unless 16, 21 or a list outgrows its figure, both do the same
  pub step_near : (x : Call) → OfForks x → (s t : State) → Rel s t → lists_ok E s.lists ≡ true → Fine (step_of E x s) → Tracks (step_of E x s) (step_of E x t)
  step_near x o s t R ok F =
      subst (λ (y : State). Tracks (step_of E x s) (step_of E x y)) (λ i. state (R.ids i) (R.numbers i) (R.lengths i) (R.spills i) t.lists) (at_moved x o s t.lists R.lists ok F)
