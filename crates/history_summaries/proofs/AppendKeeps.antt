-- An accepted append, of either kind, leaves every summary right.
use mathlib.Core.Path.{◌≡◌, refl, sym, ap, ◌∙◌, subst}
use mathlib.Core.Bool.{true, false, cond}
use mathlib.Core.Logic.{◌≢◌}
use mathlib.Core.List.{List}
use Prim.Native.Nat.{ℕ, ◌+◌, ◌≤◌, ◌<◌}
use native.Mathlib.Omega.{arith}
use lib.Dec.{ltb}
use lib.IntN.{ℤ, pos, nat_abs}
use lib.ListN.{length, take, set}
use borrow.Author.Tests.{ltb-false}
use Rattle.records.specs.Changes.{full_for}
use Rattle.records.specs.Checks.{RecordsOk, records_ok}
use Rattle.records.proofs.CheckLaws.{and_left, and_right, records_ok_facts}
use Rattle.buffer_core.specs.Edition.{Edition, good}
use Rattle.buffer_core.specs.Spills.{head_ok}
use Rattle.buffer_core.specs.Append.{Appending, counts_of, one_number, counts_with, bytes_with, spilled, append_ok}
use Rattle.summary_core.specs.Lines.{line_of, put_line}
use Rattle.summary_core.proofs.AcceptedLaws.{AppendCase, grew, spilt, append_took}
use Rattle.summary_core.proofs.MoveLaws.{append_lines_took}
use Rattle.ledger.specs.Ledger.{Parent, Series, boxes, txs, series_dec}
use Rattle.ledger.specs.Decide.{boxes_inj, boxes≢txs}
use Rattle.ledger.specs.Run.{Made, accepted}
use Rattle.ledger.proofs.TestLaws.{ite_yes, ite_no}
use Rattle.history.specs.Index.{Part, part, Index, index, kind_of, id_of, set_part, with_staged, after_append, to_res, do_append, appending_to, row_of_spill}
use Rattle.history.proofs.State as S
use Rattle.history.specs.EditionLaws.{EditionLaws}
use Rattle.history.proofs.State.{head_fits, same_set}
use Rattle.history_summaries.specs.Summaries.{SummaryIndex, summary_index, set_summary, appending_with, append_box_with, append_without, append_kept}
use Rattle.history_summaries.proofs.Rows as Rw
use Rattle.history_summaries.proofs.Right as Ri
use Rattle.history_summaries.proofs.Right.{RightLines}
use Rattle.history_summaries.proofs.Answers.{is_appended, with_done, set_own, set_other}

module _ (E : Edition) (ids : Parent → List ℕ) (lines : Parent → ℕ) (b c : SummaryIndex) (ch : Series) (n : ℤ) (q : Parent) where
  abbrev p : Part
  p = b.index.parts ch

  -- the call as it is without a summary, and the summary of q after it
  pub record AppendDone : Type 0 where
    pub plain : do_append E ids b.index ch n ≡ accepted c.index
    pub own : ch ≡ boxes q → c.summaries q ≡ cond (ltb p.head.len 512) (b.summaries q) (put_line (nat_abs p.head.spills) (line_of (take 512 p.places)) (b.summaries q))
    pub free : ch ≡ boxes q → ltb p.head.len 512 ≡ false → nat_abs p.head.spills < lines q
    pub other : (ch ≡ boxes q → ⊥) → c.summaries q ≡ b.summaries q

  -- a call without a summary
  pub append_other_done : append_without E ids lines b ch n ≡ accepted c → ch ≢ boxes q → AppendDone
  append_other_done e g =
      let d = with_done b.summaries (do_append E ids b.index ch n) c e in
      record { plain = d.0; own = λ z. absurd (g z); free = λ z. absurd (g z); other = λ z. ap (λ (S : Parent → List ℕ). S q) d.1 }

module _ (E : Edition) (ids : Parent → List ℕ) (lines : Parent → ℕ) (b c : SummaryIndex) where
  -- a box call with the summary of its parent
  box_done : (p : Parent) (n : ℤ) → append_box_with E ids lines b p n ≡ accepted c → (q : Parent) → AppendDone E ids lines b c (boxes p) n q
  box_done p n e q =
      let o = appending_with E ids lines b p n in
      let d = with_done (set_summary b.summaries p o.summary) (after_append b.index (boxes p) o.result.answer o.result.head o.result.staged) c e in
      let t = append_lines_took E (ids p) (b.index.parts (boxes p)).head (lines p) (b.summaries p) n b.index.lists.staged_counts (b.index.parts (boxes p)).places b.index.lists.staged
      (is_appended b.index (boxes p) o.result.answer o.result.head o.result.staged c.index d.0) in
      record {
        plain = ap (λ (a : Appending). after_append b.index (boxes p) a.answer a.head a.staged) (sym t.plain) ∙ d.0;
        own = λ g.
            let z : p ≡ q = boxes_inj g in
            rw (← z) (ap (λ (S : Parent → List ℕ). S p) d.1 ∙ set_own b.summaries p p o.summary refl ∙ t.summary);
        free = λ g f. let z : p ≡ q = boxes_inj g in rw (← z) (t.free f);
        other = λ g. ap (λ (S : Parent → List ℕ). S q) d.1 ∙ set_other b.summaries p q o.summary (λ z. g (ap boxes z));
      }

  pub append_done : (ch : Series) (n : ℤ) → append_kept E ids lines b ch n ≡ accepted c → (q : Parent) → AppendDone E ids lines b c ch n q
  append_done (boxes p) n e q = box_done p n e q
  append_done (txs p) n e q = append_other_done E ids lines b c (txs p) n q e (λ g. boxes≢txs (sym g))

module _ (E : Edition) (ids : Parent → List ℕ) (L : EditionLaws E ids) (lines : Parent → ℕ) (b c : SummaryIndex) (ch : Series) (n : ℤ) (q : Parent) where
  abbrev part₀ : Part
  part₀ = b.index.parts ch

  abbrev s : ℕ
  s = nat_abs part₀.head.spills

  abbrev row : List ℕ
  row = E.encode (kind_of ch) (id_of E ids ch) (pos s) (take 512 part₀.places)

  abbrev key : List ℕ
  key = E.key (kind_of ch) (id_of E ids ch) (pos s)

  -- what is asked of the row that a spill makes: it fits, it is read back where the summary speaks of it, and no other row of the parent has its key
  pub record Spills : Type 0 where
    pub short : length row ≤ E.limit
    pub back : ch ≡ boxes q → E.decode (kind_of ch) (id_of E ids ch) (pos s) row ≡ good (take 512 part₀.places)
    pub apart : (t : ℕ) → t < Ri.spills_of E ids lines c q → key ≡ E.key (kind_of (boxes q)) (id_of E ids (boxes q)) (pos t) → (ch ≡ boxes q) × (s ≡ t)

  module _ (R : RightLines E ids lines b q) (D : AppendDone E ids lines b c ch n q) where
    -- the head became longer
    abbrev longer : Part
    longer = part (counts_of (part₀.head.len + 1) part₀.head.spills) (set part₀.places part₀.head.len n)

    grew_right : ltb part₀.head.len 512 ≡ true → index (set_part b.index.parts ch longer) b.index.lists ≡ c.index → RightLines E ids lines c q
    grew_right l e =
        subst (λ (x : SummaryIndex). RightLines E ids lines x q) (ap (λ (i : Index). summary_index i c.summaries) e)
        (Ri.kept_right E ids lines b (summary_index (index (set_part b.index.parts ch longer) b.index.lists) c.summaries) q R
        (ap (λ (f : Series → ℕ). f (boxes q)) (same_set S.spills_of b.index.parts ch longer refl)) (by_series (series_dec ch (boxes q))) (λ m h. refl))
      where
        by_series : Dec (ch ≡ boxes q) → c.summaries q ≡ b.summaries q
        by_series (yes g) = D.own g ∙ rw l
        by_series (no g) = D.other g

    -- the head became a row
    abbrev first : Part
    first = part (counts_of 1 (pos (s + 1))) (one_number n part₀.places)

    abbrev after : Index
    after = index (set_part b.index.parts ch first) (with_staged (counts_with E key b.index.lists.staged_counts b.index.lists.staged) (bytes_with E key row b.index.lists.staged_counts b.index.lists.staged) b.index.lists)

    spilt_right : ltb part₀.head.len 512 ≡ false → full_for E.size b.index.lists.staged_counts key b.index.lists.staged ≡ false
        → RecordsOk E.size E.limit b.index.lists.staged_counts b.index.lists.staged → Spills → after ≡ c.index → RightLines E ids lines c q
    spilt_right l f ok P e = subst (λ (x : SummaryIndex). RightLines E ids lines x q) now (by_series (series_dec ch (boxes q)))
      where
        d : SummaryIndex
        d = summary_index after c.summaries

        now : d ≡ c
        now = ap (λ (i : Index). summary_index i c.summaries) e

        long : length key ≡ 32
        long = L.key_length (kind_of ch) (id_of E ids ch) (pos s)

        same : (t : ℕ) → t < Ri.spills_of E ids lines d q → ((ch ≡ boxes q) × (s ≡ t) → ⊥) → Ri.row_of E ids lines d q t ≡ Ri.row_of E ids lines b q t
        same t h g =
            Rw.put_other E ids L b.index.lists (set_part b.index.parts ch first) b.index.parts key row long P.short f ok (boxes q) t
            (λ k. g (P.apart t (subst (λ (x : SummaryIndex). t < Ri.spills_of E ids lines x q) now h) k))

        by_series : Dec (ch ≡ boxes q) → RightLines E ids lines d q
        by_series (yes g) =
            let now_many : Ri.spills_of E ids lines d q ≡ s + 1 = ap (λ (x : Part). nat_abs x.head.spills) (ite_yes (series_dec ch (boxes q)) first (b.index.parts (boxes q)) g) in
            let many : s ≡ Ri.spills_of E ids lines b q = ap (λ (x : Series). nat_abs (b.index.parts x).head.spills) g in
            Ri.written_right E ids lines b d q R s (take 512 part₀.places) (omega arith) (omega (arith, D.free g l)) (omega arith) (D.own g ∙ rw l)
            (ap (λ (x : Series). row_of_spill E ids after x s) (sym g)
            ∙ Rw.put_same E ids L b.index.lists (set_part b.index.parts ch first) b.index.parts key row long P.short f ok ch s refl ∙ ap to_res (P.back g))
            (λ t h m. (omega arith, same t h (λ z. m (sym z.1))))
        by_series (no g) =
            let same_many : Ri.spills_of E ids lines d q ≡ Ri.spills_of E ids lines b q = ap (λ (x : Part). nat_abs x.head.spills) (ite_no (series_dec ch (boxes q)) first (b.index.parts (boxes q)) g) in
            Ri.kept_right E ids lines b d q R same_many (D.other g) (λ t h. same t (omega arith) (λ z. g z.0))

    abbrev o : Appending
    o = appending_to E ids b.index ch n

    abbrev end : Appending → Made Index Index
    end a = after_append b.index ch a.answer a.head a.staged

    -- of a spill: the head was full, the count below the greatest and one more now, and the other counts as they were
    pub record Spilt : Type 0 where
      pub was_full : part₀.head.len ≡ 512
      pub below : s < 2147483647
      pub one_more : nat_abs (c.index.parts ch).head.spills ≡ s + 1
      pub others : (d : Series) → (ch ≡ d → ⊥) → nat_abs (c.index.parts d).head.spills ≡ nat_abs (b.index.parts d).head.spills

    by_case : (Spilt → Spills) → append_ok E part₀.head b.index.lists.staged_counts part₀.places b.index.lists.staged ≡ true
        → AppendCase E (kind_of ch) (id_of E ids ch) part₀.head n b.index.lists.staged_counts part₀.places b.index.lists.staged o → RightLines E ids lines c q
    unfolding append_ok spilled
    by_case P ok (grew l z) = let y = sym (ap end z) ∙ D.plain in grew_right l (cc)
    by_case P ok (spilt l u f z) =
        let y = sym (ap end z) ∙ D.plain in
        let x = records_ok E.size E.limit b.index.lists.staged_counts b.index.lists.staged in
        let fits = head_fits part₀ (and_left (head_ok part₀.head part₀.places) x ok) in
        let now : after ≡ c.index = cc in
        spilt_right l f (records_ok_facts E.size E.limit b.index.lists.staged_counts b.index.lists.staged (and_right (head_ok part₀.head part₀.places) x ok))
        (P (record {
          was_full = omega (arith, fits.len_in, ltb-false part₀.head.len 512 l);
          below = u;
          one_more = ap (λ (i : Index). nat_abs (i.parts ch).head.spills) (sym now) ∙ ap (λ (x : Part). nat_abs x.head.spills) (ite_yes (series_dec ch ch) first part₀ refl);
          others = λ d g. ap (λ (i : Index). nat_abs (i.parts d).head.spills) (sym now) ∙ ap (λ (x : Part). nat_abs x.head.spills) (ite_no (series_dec ch d) first (b.index.parts d) g);
        })) now

    pub append_right : (Spilt → Spills) → RightLines E ids lines c q
    append_right P =
        let t = append_took E (kind_of ch) (id_of E ids ch) part₀.head n b.index.lists.staged_counts part₀.places b.index.lists.staged
        (is_appended b.index ch o.answer o.head o.staged c.index D.plain) in
        by_case P t.fits t.kind_of_append
