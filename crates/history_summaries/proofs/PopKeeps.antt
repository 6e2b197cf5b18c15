-- An accepted pop, of either kind, leaves every summary right.
use mathlib.Core.Path.{◌≡◌, refl, sym, ap, ◌∙◌, subst}
use mathlib.Core.Bool.{true, false, cond}
use mathlib.Core.Logic.{◌≢◌}
use mathlib.Core.List.{List}
use Prim.Native.Nat.{ℕ, ◌-◌, ◌<◌}
use native.Mathlib.Omega.{arith}
use lib.Dec.{ltb}
use lib.IntN.{ℤ, pos, nat_abs}
use lib.ListN.{length}
use Rattle.index_types.specs.declared.ListCounts.{ListCounts}
use Rattle.records.specs.Changes.{count_after, with_count, put_record}
use Rattle.buffer_core.specs.Edition.{Edition}
use Rattle.buffer_core.specs.Spills.{head_ok}
use Rattle.buffer_core.specs.Append.{counts_of}
use Rattle.buffer_core.specs.Pop.{Popping, lists, without_last, row_head, deleted_at, staged_at, count_without, bytes_without, merged, lists_ok, pop_ok}
use Rattle.buffer_core.proofs.ListLaws.{lists_fit}
use Rattle.records.proofs.CheckLaws.{and_right}
use Rattle.summary_core.specs.Lines.{no_line, put_line}
use Rattle.summary_core.proofs.AcceptedLaws.{PopCase, took, merged_back, pop_took}
use Rattle.summary_core.proofs.MoveLaws.{pop_lines_took}
use Rattle.ledger.specs.Ledger.{Parent, Series, boxes, txs, series_dec}
use Rattle.ledger.specs.Decide.{boxes_inj, boxes≢txs}
use Rattle.ledger.specs.Run.{Made, accepted}
use Rattle.ledger.specs.Run as Mc
use Rattle.ledger.proofs.TestLaws.{ite_yes, ite_no}
use Rattle.fork_model.proofs.Results.{map_pop}
use Rattle.history.specs.Index.{Part, part, Index, index, kind_of, id_of, set_part, after_pop, do_pop, popping_from}
use Rattle.history.proofs.State as S
use Rattle.history.specs.EditionLaws.{EditionLaws}
use Rattle.history.proofs.State.{same_set}
use Rattle.history_summaries.specs.Summaries.{SummaryIndex, summary_index, set_summary, popping_with, pop_box_with, pop_without, pop_kept}
use Rattle.history_summaries.proofs.Rows as Rw
use Rattle.history_summaries.proofs.Right as Ri
use Rattle.history_summaries.proofs.Right.{RightLines}
use Rattle.history_summaries.proofs.Answers.{is_popped, pop_done, set_own, set_other}

left_same : {x y : Mc.Popped Index} → ◌≡◌ {A = Made Index (Mc.Popped Index)} (accepted x) (accepted y) → x.left ≡ y.left
left_same {x} {y} e = let q : x ≡ y = cc in ap (λ z. z.left) q

module _ (E : Edition) (ids : Parent → List ℕ) (lines : Parent → ℕ) (b : SummaryIndex) (ch : Series) (r : Mc.Popped SummaryIndex) (q : Parent) where
  abbrev p : Part
  p = b.index.parts ch

  -- the call as it is without a summary, and the summary of q after it
  pub record PopDone : Type 0 where
    pub plain : do_pop E ids b.index ch ≡ accepted (map_pop (λ x. x.index) r)
    pub own : ch ≡ boxes q → r.left.summaries q ≡ cond (ltb 0 p.head.len) (b.summaries q) (put_line (nat_abs p.head.spills - 1) no_line (b.summaries q))
    pub other : (ch ≡ boxes q → ⊥) → r.left.summaries q ≡ b.summaries q

  -- a call without a summary
  pub pop_other_done : pop_without E ids lines b ch ≡ accepted r → ch ≢ boxes q → PopDone
  pop_other_done e g =
      let d = pop_done b.summaries (do_pop E ids b.index ch) r e in
      record { plain = d.0; own = λ z. absurd (g z); other = λ z. ap (λ (S : Parent → List ℕ). S q) d.1 }

module _ (E : Edition) (ids : Parent → List ℕ) (lines : Parent → ℕ) (b : SummaryIndex) (r : Mc.Popped SummaryIndex) where
  -- a box call with the summary of its parent
  box_done : (p : Parent) → pop_box_with E ids lines b p ≡ accepted r → (q : Parent) → PopDone E ids lines b (boxes p) r q
  box_done p e q =
      let o = popping_with E ids lines b p in
      let d = pop_done (set_summary b.summaries p o.summary) (after_pop b.index (boxes p) o.result.answer o.result.head o.result.staged o.result.deleted) r e in
      let t = pop_lines_took E (ids p) (b.index.parts (boxes p)).head (lines p) (b.summaries p) b.index.lists (b.index.parts (boxes p)).places
      (is_popped b.index (boxes p) o.result.answer o.result.head o.result.staged o.result.deleted (map_pop (λ x. x.index) r) d.0) in
      record {
        plain = ap (λ (a : Popping). after_pop b.index (boxes p) a.answer a.head a.staged a.deleted) (sym t.plain) ∙ d.0;
        own = λ g.
            let z : p ≡ q = boxes_inj g in
            rw (← z) (ap (λ (S : Parent → List ℕ). S p) d.1 ∙ set_own b.summaries p p o.summary refl ∙ t.summary);
        other = λ g. ap (λ (S : Parent → List ℕ). S q) d.1 ∙ set_other b.summaries p q o.summary (λ z. g (ap boxes z));
      }

  pub pop_was : (ch : Series) → pop_kept E ids lines b ch ≡ accepted r → (q : Parent) → PopDone E ids lines b ch r q
  pop_was (boxes p) e q = box_done p e q
  pop_was (txs p) e q = pop_other_done E ids lines b (txs p) r q e (λ g. boxes≢txs (sym g))

module _ (E : Edition) (ids : Parent → List ℕ) (L : EditionLaws E ids) (lines : Parent → ℕ) (b : SummaryIndex) (ch : Series) (r : Mc.Popped SummaryIndex) (q : Parent) (R : RightLines E ids lines b q)
    (D : PopDone E ids lines b ch r q) where
  abbrev c : SummaryIndex
  c = r.left

  abbrev part₀ : Part
  part₀ = b.index.parts ch

  -- the row that a pop from an empty head takes back
  abbrev s : ℕ
  s = nat_abs part₀.head.spills - 1

  abbrev key : List ℕ
  key = E.key (kind_of ch) (id_of E ids ch) (pos s)

  -- the head became shorter
  abbrev shorter : Part
  shorter = part (counts_of (part₀.head.len - 1) part₀.head.spills) (without_last part₀.head.len part₀.places)

  took_right : ltb 0 part₀.head.len ≡ true → index (set_part b.index.parts ch shorter) b.index.lists ≡ c.index → RightLines E ids lines c q
  took_right l e =
      subst (λ (x : SummaryIndex). RightLines E ids lines x q) (ap (λ (i : Index). summary_index i c.summaries) e)
      (Ri.kept_right E ids lines b (summary_index (index (set_part b.index.parts ch shorter) b.index.lists) c.summaries) q R
      (ap (λ (f : Series → ℕ). f (boxes q)) (same_set S.spills_of b.index.parts ch shorter refl)) (by_series (series_dec ch (boxes q))) (λ m h. refl))
    where
      by_series : Dec (ch ≡ boxes q) → c.summaries q ≡ b.summaries q
      by_series (yes g) = D.own g ∙ rw l
      by_series (no g) = D.other g

  -- the newest row became the head
  module _ (zs : List ℤ) where
    abbrev restored : Part
    restored = part (counts_of (length zs - 1) (pos s)) (without_last (length zs) (row_head zs part₀.places))

    abbrev deleted_counts : ListCounts
    deleted_counts = with_count (count_after (deleted_at E key b.index.lists) b.index.lists.deleted_counts.count) b.index.lists.deleted_counts

    abbrev deleted : List ℕ
    deleted = put_record 32 b.index.lists.deleted_counts.count key key b.index.lists.deleted

    abbrev after : Index
    after = index (set_part b.index.parts ch restored)
        (lists (count_without (staged_at E key b.index.lists) b.index.lists.staged_counts) (bytes_without E.size (staged_at E key b.index.lists) b.index.lists.staged_counts b.index.lists.staged)
        b.index.lists.table_counts b.index.lists.table
        deleted_counts deleted)

    merged_right : ltb 0 part₀.head.len ≡ false → 0 < nat_abs part₀.head.spills → lists_ok E b.index.lists ≡ true
        → ((t : ℕ) → t < Ri.spills_of E ids lines b q → key ≡ E.key (kind_of (boxes q)) (id_of E ids (boxes q)) (pos t) → (ch ≡ boxes q) × (s ≡ t))
        → after ≡ c.index → RightLines E ids lines c q
    merged_right l many ok apart e = subst (λ (x : SummaryIndex). RightLines E ids lines x q) (ap (λ (i : Index). summary_index i c.summaries) e) (by_series (series_dec ch (boxes q)))
      where
        d : SummaryIndex
        d = summary_index after c.summaries

        same : (t : ℕ) → t < Ri.spills_of E ids lines b q → ((ch ≡ boxes q) × (s ≡ t) → ⊥) → Ri.row_of E ids lines d q t ≡ Ri.row_of E ids lines b q t
        same t h g =
            Rw.remove_other E ids L b.index.lists (set_part b.index.parts ch restored) b.index.parts key (lists_fit E b.index.lists ok).in_staged deleted_counts deleted (boxes q) t (λ k. g (apart t h k))

        by_series : Dec (ch ≡ boxes q) → RightLines E ids lines d q
        by_series (yes g) =
            let fewer : Ri.spills_of E ids lines d q ≡ s = ap (λ (x : Part). nat_abs x.head.spills) (ite_yes (series_dec ch (boxes q)) restored (b.index.parts (boxes q)) g) in
            let all : nat_abs part₀.head.spills ≡ Ri.spills_of E ids lines b q = ap (λ (x : Series). nat_abs (b.index.parts x).head.spills) g in
            Ri.cleared_right E ids lines b d q R (omega arith) (D.own g ∙ (rw l) ∙ ap (λ (m : ℕ). put_line (m - 1) no_line (b.summaries q)) all)
            (λ t h. same t (omega arith) (λ z. omega (arith, z.1)))
        by_series (no g) =
            let same_many : Ri.spills_of E ids lines d q ≡ Ri.spills_of E ids lines b q = ap (λ (x : Part). nat_abs x.head.spills) (ite_no (series_dec ch (boxes q)) restored (b.index.parts (boxes q)) g) in
            Ri.kept_right E ids lines b d q R same_many (D.other g) (λ t h. same t h (λ z. g z.0))

  abbrev o : Popping
  o = popping_from E ids b.index ch

  abbrev end : Popping → Made Index (Mc.Popped Index)
  end a = after_pop b.index ch a.answer a.head a.staged a.deleted

  -- no other row of the parent has the key of the row that it took back
  abbrev pub Apart : Type 0
  Apart = 0 < nat_abs part₀.head.spills → (t : ℕ) → t < Ri.spills_of E ids lines b q → key ≡ E.key (kind_of (boxes q)) (id_of E ids (boxes q)) (pos t) → (ch ≡ boxes q) × (s ≡ t)

  by_case : Apart → pop_ok E part₀.head b.index.lists part₀.places ≡ true → PopCase E (kind_of ch) (id_of E ids ch) part₀.head b.index.lists part₀.places o → RightLines E ids lines c q
  unfolding pop_ok merged
  by_case A ok (took l z) = let y = sym (ap end z) ∙ D.plain in took_right l (left_same y)
  by_case A ok (merged_back l g zs rd z) =
      let y = sym (ap end z) ∙ D.plain in
      merged_right zs l g (and_right (head_ok part₀.head part₀.places) (lists_ok E b.index.lists) ok) (A g) (left_same y)

  pub pop_right : Apart → RightLines E ids lines c q
  pop_right A =
      let t = pop_took E (kind_of ch) (id_of E ids ch) part₀.head b.index.lists part₀.places
      (is_popped b.index ch o.answer o.head o.staged o.deleted (map_pop (λ x. x.index) r) D.plain) in
      by_case A t.fits t.kind_of_pop
