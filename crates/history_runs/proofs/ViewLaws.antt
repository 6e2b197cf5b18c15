-- The runner's calls are the operations of the fork-undo theorem.
use Prim.Native.Nat.{ℕ, ◌+◌, ◌*◌, ◌≤◌, ◌<◌}
use mathlib.Core.Path.{◌≡◌, refl, sym, ap, ◌∙◌, subst}
use mathlib.Core.List.{List}
use native.Mathlib.Omega.{arith}
use lib.IntN.{ℤ, pos}
use lib.ListN.{length}
use lib.Seq.{get_or-set_same, get_or-set_other, set-get_or}
use borrow.Rule.Slice.PartMut.{mid_of, put_same}
use Rattle.stores.proofs.StoreLaws.{length_part}
use Rattle.segment_id.specs.declared.Kind.{Kind}
use Rattle.segment_id.specs.declared.Kind.TheVariants.{Box}
use Rattle.index_types.specs.declared.HeadCounts.{HeadCounts}
use Rattle.std.specs.Prelude.{Ok, Err}
use Rattle.index_types.specs.Answers.{Appended}
use Rattle.buffer_core.specs.declared.Direction.{Direction}
use Rattle.index_types.specs.Answers.{Popped}
use Rattle.index_types.specs.Answers.{Flipped}
use Rattle.index_types.specs.Answers.{Flushed}
use Rattle.buffer_core.specs.Edition.{edition_1}
use Rattle.buffer_core.specs.Append.{appending, counts_of, append_ok, append_of}
use Rattle.buffer_core.specs.Pop.{Lists, lists, lists_ok, popping, pop_ok, pop_of}
use Rattle.buffer_core.specs.Flip.{Flipping, flipping, flip_ok, flip_core, flip_of}
use Rattle.buffer_core.specs.Flush.{flushing, flush_of}
use Rattle.calls.specs.declared.Call.TheVariants.{Append, Flip, Pop, Flush}
use Rattle.call_steps.specs.State.{State, state, parent_id, head_at, length_at, spills_at, head_counts, head_of, with_head, Within, Ready}
use Rattle.call_steps.specs.Steps.{counts_in, lengths_by, spills_by, appended_by, append_by, of_append, popped_by, pop_by, of_pop, flipped_by, flip_by, of_flip, flushed_by, flush_by, of_flush, step_of}
use Rattle.call_steps.proofs.StateLaws.{kind_few}
use Rattle.buffer_core.proofs.RefusedLaws as refused
use Rattle.buffer_core.proofs.RefusedLaws.{AppendSame, PopSame, FlipSame, FlushSame}
use Rattle.call_steps.proofs.KeepLaws.{within}
use Rattle.ledger.specs.Ledger.{Series, boxes, parent_of, series_dec, ite}
use Rattle.history.specs.Index.{part, index, kind_of, set_part, after_append, after_pop, after_flip, after_flush, do_append, do_pop, do_flip, do_flush}
use Rattle.history_runs.specs.View.{ids_in, part_in, view, balance_in, Same, SamePop}
use Rattle.history_runs.proofs.PlaceLaws.{Clear, part_put, part_clear, element, other, lengths_apart, heads_apart, head_amounts, head_nanos}
use Rattle.history_runs.proofs.LengthLaws.{append_long, pop_long, flip_long}

module _ (s : State) (ch : Series) (w : Within (parent_of ch) s.ids s.numbers s.lengths s.spills) where
  abbrev k : Kind
  k = kind_of ch

  abbrev p : ℕ
  p = parent_of ch

  abbrev head : List ℤ
  head = head_of k p s.numbers

  head_room : head_at k p + 512 ≤ length s.numbers
  head_room = omega (arith, w.numbers_in, kind_few k)

  pub head_long : length head ≡ 512
  head_long = length_part (head_at k p) 512 s.numbers head_room

  -- the state with a head put anew
  abbrev pub put : HeadCounts → List ℤ → Lists → State
  put n new b = state s.ids (with_head k p new s.numbers) (lengths_by k p n s.lengths) (spills_by k p n s.spills) b

  module _ (n : HeadCounts) (new : List ℤ) (long : length new ≡ 512) (b : Lists) where
    put_here : part_in (put n new b) ch ≡ part n new
    put_here =
        let l : length_at k p < length s.lengths = omega (arith, w.lengths_in, kind_few k) in
        let m : spills_at k p < length s.spills = omega (arith, w.spills_in, kind_few k) in
        λ i.
        part (counts_of (get_or-set_same s.lengths (length_at k p) n.len 0 l i) (get_or-set_same s.spills (spills_at k p) n.spills (pos 0) m i))
        (part_put (head_at k p) 512 s.numbers new long head_room i)

    put_there : (d : Series) → (ch ≡ d → ⊥) → part_in (put n new b) d ≡ part_in s d
    put_there d f =
        let o = other ch d f in
        let l = get_or-set_other s.lengths (length_at k p) (length_at (kind_of d) (parent_of d)) n.len 0 (lengths_apart ch d o) in
        let m = get_or-set_other s.spills (spills_at k p) (spills_at (kind_of d) (parent_of d)) n.spills (pos 0) o in
        let h = part_clear (head_at k p) 512 s.numbers new long head_room (head_at (kind_of d) (parent_of d)) 512 (heads_apart ch d o) in
        λ i. part (counts_of (l i) (m i)) (h i)

    put_part : (d : Series) → part_in (put n new b) d ≡ set_part (part_in s) ch (part n new) d
    unfolding ite
    put_part d = by_series (series_dec ch d)
      where
        by_series : (t : Dec (ch ≡ d)) → part_in (put n new b) d ≡ ite t (part n new) (part_in s d)
        by_series (yes e) = subst (λ (x : Series). part_in (put n new b) x ≡ part n new) e put_here
        by_series (no f) = put_there d f

    pub put_view : view (put n new b) ≡ index (set_part (part_in s) ch (part n new)) b
    put_view = λ i. index (λ d. put_part d i) b

    -- the balances are elsewhere
    pub put_beside : balance_in (put n new b) ≡ balance_in s
    put_beside =
        let m = with_head k p new s.numbers in
        let a : (q b w : ℕ) → Clear (head_at k p) 512 b w → mid_of b w m ≡ mid_of b w s.numbers = λ q b w. part_clear (head_at k p) 512 s.numbers new long head_room b w in
        λ i q.
        record {
          ids = mid_of (q * 4128 + 32) 4096 s.ids;
          amounts = a q (q * 1153 + 1024) 128 (head_amounts k p q) i;
          count = get_or-set_other s.lengths (length_at k p) (q * 3 + 2) n.len 0 (counts_apart q) i;
          nanos = element (q * 1153 + 1152) m s.numbers (pos 0) (a q (q * 1153 + 1152) 1 (head_nanos k p q)) i;
        }
      where
        counts_apart : (q : ℕ) → q * 3 + 2 ≡ length_at k p → ⊥
        counts_apart q e = omega (arith, kind_few k, e)

  -- a head put back as it was
  pub put_back : (new : List ℤ) → new ≡ head → with_head k p new s.numbers ≡ s.numbers
  put_back new e = ap (λ (l : List ℤ). with_head k p l s.numbers) e ∙ put_same (head_at k p) 512 s.numbers

  -- ---- append
  append_by_answer : (a : Appended) (new : List ℤ) (staged : List ℕ) → length new ≡ 512 → AppendSame head s.lists.staged (appending a new staged)
      → Same s (of_append (appended_by (appending a new staged) k p (counts_in s.lists) s.numbers s.lengths s.spills) s) (after_append (view s) ch a new staged)
  append_by_answer (Ok (n, c)) new staged long same = (refl, put_view n new long _, put_beside n new long s.lists, refl)
  append_by_answer (Err code) new staged long same =
      let e = same code refl in
      let b = s.lists in
      (refl, λ i. state s.ids (put_back new e.0 i) s.lengths s.spills (lists b.staged_counts (e.1 i) b.table_counts b.table b.deleted_counts b.deleted))

  append_in : (z : ℤ) → Same s (step_of edition_1 (Append k p z) s) (do_append edition_1 (ids_in s) (view s) ch z)
  unfolding step_of append_by
  append_in z =
      let n = head_counts k p s.lengths s.spills in
      let c = s.lists.staged_counts in
      let o = append_of edition_1 k (parent_id p s.ids) n z c head s.lists.staged in
      append_by_answer o.answer o.head o.staged
      (append_long k (parent_id p s.ids) n c head s.lists.staged (omega (arith, head_long)) z ∙ head_long)
      (refused.append_same edition_1 head s.lists.staged k (parent_id p s.ids) n z c)

  -- ---- pop
  pop_by_answer : (a : Popped) (new : List ℤ) (staged deleted : List ℕ) → length new ≡ 512 → PopSame head s.lists (popping a new staged deleted)
      → SamePop s (of_pop (popped_by (popping a new staged deleted) k p (counts_in s.lists) s.numbers s.lengths s.spills) s)
      (after_pop (view s) ch a new staged deleted)
  pop_by_answer (Ok (z, n, c, e)) new staged deleted long same = (refl, put_view n new long _, put_beside n new long s.lists, refl)
  pop_by_answer (Err code) new staged deleted long same =
      let e = same code refl in
      let b = s.lists in
      (refl, λ i. state s.ids (put_back new e.0 i) s.lengths s.spills (lists b.staged_counts (e.1 i) b.table_counts b.table b.deleted_counts (e.2 i)))

  pop_in : SamePop s (step_of edition_1 (Pop k p) s) (do_pop edition_1 (ids_in s) (view s) ch)
  unfolding step_of pop_by
  pop_in =
      let n = head_counts k p s.lengths s.spills in
      let o = pop_of edition_1 k (parent_id p s.ids) n s.lists head in
      pop_by_answer o.answer o.head o.staged o.deleted
      (pop_long s.lists head (omega (arith, head_long)) k (parent_id p s.ids) n ∙ head_long)
      (refused.pop_same edition_1 head s.lists k (parent_id p s.ids) n)

  -- a head put anew beside the counts it had
  head_view : (new : List ℤ) → length new ≡ 512 → (b : Lists)
      → view (state s.ids (with_head k p new s.numbers) s.lengths s.spills b) ≡ index (set_part (part_in s) ch (part (part_in s ch).head new)) b
  head_view new long b =
      (λ i. view (state s.ids (with_head k p new s.numbers) (sym (set-get_or s.lengths (length_at k p) 0) i) (sym (set-get_or s.spills (spills_at k p) (pos 0)) i) b))
      ∙ put_view (part_in s ch).head new long b

  head_beside : (new : List ℤ) → length new ≡ 512 → (b : Lists)
      → balance_in (state s.ids (with_head k p new s.numbers) s.lengths s.spills b) ≡ balance_in s
  head_beside new long b =
      (λ i. balance_in (state s.ids (with_head k p new s.numbers) (sym (set-get_or s.lengths (length_at k p) 0) i) s.spills b))
      ∙ put_beside (part_in s ch).head new long b

-- ---- spend and unspend
module _ (s : State) (p : ℕ) (w : Within p s.ids s.numbers s.lengths s.spills) where
  abbrev head_now : List ℤ
  head_now = head_of Box p s.numbers

  flip_by_answer : (a : Flipped) (new : List ℤ) (staged : List ℕ) → length new ≡ 512 → FlipSame head_now s.lists.staged (flipping a new staged)
      → Same s (of_flip (flipped_by (flipping a new staged) p (counts_in s.lists) s.numbers) s) (after_flip (view s) (boxes p) a new staged)
  flip_by_answer (Ok c) new staged long same = (refl, head_view s (boxes p) w new long _, head_beside s (boxes p) w new long s.lists, refl)
  flip_by_answer (Err code) new staged long same =
      let e = same code refl in
      let b = s.lists in
      (refl, λ i. state s.ids (put_back s (boxes p) w new e.0 i) s.lengths s.spills (lists b.staged_counts (e.1 i) b.table_counts b.table b.deleted_counts b.deleted))

  flip_in : (d : Direction) (z : ℤ) → Same s (step_of edition_1 (Flip d p z) s) (do_flip edition_1 (ids_in s) d (view s) p z)
  unfolding step_of flip_by
  flip_in d z =
      let n = head_counts Box p s.lengths s.spills in
      let b = s.lists in
      let o = flip_of edition_1 d (parent_id p s.ids) n z b.staged_counts b.staged b.table_counts b.table head_now in
      flip_by_answer o.answer o.head o.staged
      (flip_long b.staged_counts head_now b.staged d (parent_id p s.ids) n z b.table_counts b.table ∙ head_long s (boxes p) w)
      (refused.flip_same edition_1 d (parent_id p s.ids) n z b.staged_counts b.staged b.table_counts b.table head_now)

-- ---- flush
module _ (s : State) where
  flush_by_answer : (a : Flushed) (table staged deleted : List ℕ) → FlushSame s.lists (flushing a table staged deleted)
      → Same s (of_flush (flushed_by (flushing a table staged deleted) (counts_in s.lists)) s) (after_flush (view s) a table staged deleted)
  flush_by_answer (Ok (t, c, d)) table staged deleted same = (refl, refl, refl, refl)
  flush_by_answer (Err code) table staged deleted same =
      let e = same code refl in
      let b = s.lists in
      (refl, λ i. state s.ids s.numbers s.lengths s.spills (lists b.staged_counts (e.1 i) b.table_counts (e.0 i) b.deleted_counts (e.2 i)))

  -- in any state
  pub flush_same : Same s (step_of edition_1 Flush s) (do_flush edition_1 (ids_in s) (view s))
  unfolding step_of flush_by
  flush_same =
      let o = flush_of edition_1 s.lists in
      flush_by_answer o.answer o.table o.staged o.deleted
      (refused.flush_same edition_1 s.lists)

-- ---- the calls of a state that refusal 25 passed, on one of its parents
module _ (parents : ℕ) (s : State) (r : Ready parents s) where
  pub append_same : (ch : Series) → parent_of ch < parents → (z : ℤ)
      → Same s (step_of edition_1 (Append (kind_of ch) (parent_of ch) z) s) (do_append edition_1 (ids_in s) (view s) ch z)
  append_same ch h z = append_in s ch (within parents s r (parent_of ch) h) z

  pub pop_same : (ch : Series) → parent_of ch < parents
      → SamePop s (step_of edition_1 (Pop (kind_of ch) (parent_of ch)) s) (do_pop edition_1 (ids_in s) (view s) ch)
  pop_same ch h = pop_in s ch (within parents s r (parent_of ch) h)

  pub flip_same : (d : Direction) (p : ℕ) → p < parents → (z : ℤ) → Same s (step_of edition_1 (Flip d p z) s) (do_flip edition_1 (ids_in s) d (view s) p z)
  flip_same d p h z = flip_in s p (within parents s r p h) d z
