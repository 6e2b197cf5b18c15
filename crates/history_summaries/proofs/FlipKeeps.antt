-- An accepted spend or unspend leaves every summary right.
use mathlib.Core.Path.{◌≡◌, refl, sym, ap, ◌∙◌, subst}
use mathlib.Core.Logic.{◌≢◌, ⊎_elim}
use mathlib.Core.Bool.{true, ◌&&◌}
use mathlib.Core.List.Memᴰ
use mathlib.Core.List.{List, [], ◌∷◌, map}
use Prim.Native.Nat.{ℕ, zero, suc, ◌≤◌, ◌<◌}
use native.Mathlib.Omega.{arith}
use lib.Dec.{leb, ltb}
use lib.IntN.{ℤ, pos, nat_abs, neg_ℤ}
use lib.ListN.{length, get_or, set, length-set}
use borrow.Author.Tests.{ltb-true}
use Rattle.entries.specs.Order.{ordered}
use Rattle.entries.specs.Flip.{flipped_at}
use Rattle.entries.specs.declared.Position.TheVariants.{At}
use Rattle.records.specs.Checks.{RecordsOk, records_ok}
use Rattle.records.proofs.CheckLaws.{and_left, and_right, records_ok_facts}
use Rattle.segment_id.specs.declared.Kind.TheVariants.{Box}
use Rattle.buffer_core.specs.declared.Direction.{Direction}
use Rattle.buffer_core.specs.Edition.{Edition, good}
use Rattle.buffer_core.specs.Spills.{head_ok, spill_read}
use Rattle.buffer_core.specs.Append.{counts_with, bytes_with}
use Rattle.buffer_core.specs.Flip.{Effect, Flipping, done_by, flip_ok}
use Rattle.summary_core.specs.Lines.{line_of, put_line, WithSummary}
use Rattle.summary_core.proofs.FlipLaws.{checked, FlipCase, in_head, in_row, RowFlipped, flip_took, LinesCase, head_kept, row_lined, flip_lines_took}
use Rattle.ledger.specs.Ledger.{Parent, Series, boxes, parent_dec}
use Rattle.ledger.specs.Decide.{boxes_inj}
use Rattle.ledger.specs.Run.{Made, accepted}
use Rattle.fork_model.proofs.GoodStore.{abs_neg}
use Rattle.history.specs.Index.{Part, part, Index, index, kind_of, id_of, set_part, with_staged, after_flip, to_res, do_flip, flipping_in, sources_of}
use Rattle.history.specs.EditionLaws.{Small, EditionLaws}
use Rattle.history.proofs.State as S
use Rattle.history.proofs.State.{same_set}
use Rattle.history_summaries.specs.Summaries.{SummaryIndex, summary_index, set_summary, flipping_with, flip_with, flip_without}
use Rattle.history_summaries.proofs.Rows as Rw
use Rattle.history_summaries.proofs.Right as Ri
use Rattle.history_summaries.proofs.Right.{RightLines}
use Rattle.history_summaries.proofs.Answers.{is_flipped, with_done, set_own, set_other}

-- ---- numbers in order can be coded, also with one of them negated
pub ordered_small : (lo : ℕ) (zs : List ℤ) → ordered lo (map nat_abs zs) ≡ true → Small zs
ordered_small lo [] e x m = absurd (Memᴰ.not-nil m)
ordered_small lo (z ∷ zs) e x m =
    let r = and_right (leb lo (nat_abs z)) (ltb (nat_abs z) 9223372036854775808 && ordered (nat_abs z) (map nat_abs zs)) e in
    let a = ltb-true (nat_abs z) 9223372036854775808 (and_left (ltb (nat_abs z) 9223372036854775808) (ordered (nat_abs z) (map nat_abs zs)) r) in
    ⊎_elim (λ q. let w : nat_abs x ≡ nat_abs z = ap nat_abs q in omega arith)
    (λ t. ordered_small (nat_abs z) zs (and_right (ltb (nat_abs z) 9223372036854775808) (ordered (nat_abs z) (map nat_abs zs)) r) x t) (Memᴰ.cases_cons m)

small_set : (zs : List ℤ) (i : ℕ) (v : ℤ) → Small zs → nat_abs v < 9223372036854775808 → Small (set zs i v)
small_set [] i v s h x m = s x m
small_set (z ∷ zs) zero v s h x m = ⊎_elim (λ q. let w : nat_abs x ≡ nat_abs v = ap nat_abs q in omega arith) (λ t. s x (Memᴰ.tail t)) (Memᴰ.cases_cons m)
small_set (z ∷ zs) (suc i) v s h x m = ⊎_elim (λ q. s x (Memᴰ.head q)) (λ t. small_set zs i v (λ y u. s y (Memᴰ.tail u)) h x t) (Memᴰ.cases_cons m)

small_at : (zs : List ℤ) (i : ℕ) → Small zs → nat_abs (get_or zs i (pos 0)) < 9223372036854775808
small_at [] i s = omega arith
small_at (z ∷ zs) zero s = s z (Memᴰ.head refl)
small_at (z ∷ zs) (suc i) s = small_at zs i (λ y u. s y (Memᴰ.tail u))

flipped_small : (zs : List ℤ) (i : ℕ) → Small zs → Small (flipped_at (At i) zs)
flipped_small zs i s = small_set zs i (neg_ℤ (get_or zs i (pos 0))) s (omega (arith, abs_neg (get_or zs i (pos 0)), small_at zs i s))

module _ (E : Edition) (ids : Parent → List ℕ) (lines : Parent → ℕ) (b c : SummaryIndex) (p q : Parent) where
  abbrev part₀ : Part
  part₀ = b.index.parts (boxes p)

  abbrev count : ℕ
  count = nat_abs part₀.head.spills

  -- the parts with other places for the parent's boxes
  abbrev with_places : List ℤ → Series → Part
  with_places l = set_part b.index.parts (boxes p) (part part₀.head l)

  abbrev Row : Effect → (n at : ℕ) → List ℤ → Type 0
  Row x n at zs =
      RowFlipped E (ids p) b.index.lists.staged_counts b.index.lists.staged b.index.lists.table_counts b.index.lists.table count part₀.places x n at zs

  -- the index with row n staged anew
  abbrev staged_anew : (n : ℕ) → List ℕ → Index
  staged_anew n row =
      let key = E.key Box (ids p) (pos n) in
      index (with_places part₀.places)
      (with_staged (counts_with E key b.index.lists.staged_counts b.index.lists.staged) (bytes_with E key row b.index.lists.staged_counts b.index.lists.staged) b.index.lists)

  -- the index after the call, and the summary of q where it is that parent's; another's stays
  pub data FlipDone : Type 0 where
    in_the_head : (l : List ℤ) → index (with_places l) b.index.lists ≡ c.index → (p ≡ q → c.summaries q ≡ b.summaries q) → (p ≢ q → c.summaries q ≡ b.summaries q) → FlipDone
    in_a_row : flip_ok E part₀.head b.index.lists.staged_counts b.index.lists.staged b.index.lists.table_counts b.index.lists.table part₀.places ≡ true
        → (x : Effect) (n at : ℕ) (zs : List ℤ) (F : Row x n at zs) → staged_anew n (E.with_boxes (ids p) (pos n) F.row (flipped_at (At at) zs)) ≡ c.index
        → (p ≡ q → c.summaries q ≡ put_line n (line_of (flipped_at (At at) zs)) (b.summaries q)) → (p ≢ q → c.summaries q ≡ b.summaries q) → FlipDone

  module _ (d : Direction) (target : ℤ) where
    abbrev end : Flipping → Made Index Index
    end a = after_flip b.index (boxes p) a.answer a.head a.staged

    abbrev effected : Effect → Flipping
    effected x = done_by E x b.index.lists.staged_counts part₀.places b.index.lists.staged

    -- a call without a summary
    pub flip_other_done : flip_without E ids lines d b p target ≡ accepted c → p ≢ q → FlipDone
    flip_other_done e g =
        let y = with_done b.summaries (do_flip E ids d b.index p target) c e in
        let o = flipping_in E ids d b.index p target in
        let t = flip_took E (ids p) b.index.lists.staged_counts b.index.lists.staged b.index.lists.table_counts b.index.lists.table part₀.head part₀.places d target
        (is_flipped b.index (boxes p) o.answer o.head o.staged c.index y.0) in
        by_case t.fits t.effect (ap end (sym t.result) ∙ y.0) (λ z. ap (λ (S : Parent → List ℕ). S q) y.1) t.kind_of_flip
      where
        by_case : flip_ok E part₀.head b.index.lists.staged_counts b.index.lists.staged b.index.lists.table_counts b.index.lists.table part₀.places ≡ true
            → (x : Effect) → end (effected x) ≡ accepted c.index → (p ≢ q → c.summaries q ≡ b.summaries q)
            → FlipCase E (ids p) b.index.lists.staged_counts b.index.lists.staged b.index.lists.table_counts b.index.lists.table count part₀.places x → FlipDone
        by_case ok x z other (in_head i f) =
            let y = ap (λ (u : Effect). end (effected u)) (sym f) ∙ z in
            in_the_head (flipped_at (At i) part₀.places) (cc) (λ w. absurd (g w)) other
        by_case ok x z other (in_row n at zs F) =
            let y = ap end (sym F.flipped) ∙ z in
            in_a_row ok x n at zs F (cc) (λ w. absurd (g w)) other

    -- a call with the summary of its parent
    pub flip_done : flip_with E ids lines d b p target ≡ accepted c → FlipDone
    flip_done e =
        let o = flipping_with E ids lines d b p target in
        let y = with_done (set_summary b.summaries p o.summary) (end o.result) c e in
        let t = flip_lines_took E (ids p) b.index.lists.staged_counts b.index.lists.staged b.index.lists.table_counts b.index.lists.table part₀.head part₀.places d target (lines p) (b.summaries p)
        (is_flipped b.index (boxes p) o.result.answer o.result.head o.result.staged c.index y.0) in
        by_case t.fits t.act (ap (λ (a : WithSummary Flipping). end a.result) (sym t.result) ∙ y.0)
        (λ w. let s = ap (λ (a : WithSummary Flipping). a.summary) t.result in
        ap (λ (S : Parent → List ℕ). S q) y.1 ∙ set_own b.summaries p q o.summary w ∙ s)
        (λ w. ap (λ (S : Parent → List ℕ). S q) y.1 ∙ set_other b.summaries p q o.summary w) t.kind_of_flip
      where
        by_case : flip_ok E part₀.head b.index.lists.staged_counts b.index.lists.staged b.index.lists.table_counts b.index.lists.table part₀.places ≡ true
            → (a : WithSummary Effect) → end (effected a.result) ≡ accepted c.index → (p ≡ q → c.summaries q ≡ a.summary) → (p ≢ q → c.summaries q ≡ b.summaries q)
            → LinesCase E (ids p) b.index.lists.staged_counts b.index.lists.staged b.index.lists.table_counts b.index.lists.table count part₀.places (b.summaries p) a → FlipDone
        by_case ok a z own other (head_kept i f s) =
            let y = ap (λ (u : Effect). end (effected u)) (sym f) ∙ z in
            in_the_head (flipped_at (At i) part₀.places) (cc) (λ w. own w ∙ s ∙ ap b.summaries w) other
        by_case ok a z own other (row_lined n at zs F s) =
            let y = ap end (sym F.flipped) ∙ z in
            in_a_row ok a.result n at zs F (cc) (λ w. own w ∙ s ∙ ap (λ (x : Parent). put_line n (line_of (flipped_at (At at) zs)) (b.summaries x)) w) other

module _ (E : Edition) (ids : Parent → List ℕ) (L : EditionLaws E ids) (lines : Parent → ℕ) (b c : SummaryIndex) (p q : Parent) (R : RightLines E ids lines b q) where
  same_spills : (l : List ℤ) (x : Parent) → nat_abs (with_places E ids lines b c p q l (boxes x)).head.spills ≡ nat_abs (b.index.parts (boxes x)).head.spills
  same_spills l x = ap (λ (f : Series → ℕ). f (boxes x)) (same_set S.spills_of b.index.parts (boxes p) (part (b.index.parts (boxes p)).head l) refl)

  -- what is asked of the row: written anew with other boxes it fits and is read back, and no row of q has its key
  pub record Rewrites : Type 0 where
    pub redo : (n : ℕ) (row : List ℕ) (zs new : List ℤ) → n < Ri.spills_of E ids lines b p → E.decode Box (ids p) (pos n) row ≡ good zs → length new ≤ 512 → Small new
        → (length (E.with_boxes (ids p) (pos n) row new) ≤ E.limit) × (E.decode Box (ids p) (pos n) (E.with_boxes (ids p) (pos n) row new) ≡ good new)
    pub apart : (s t : ℕ) → s < Ri.spills_of E ids lines b p → t < Ri.spills_of E ids lines b q
        → E.key (kind_of (boxes p)) (id_of E ids (boxes p)) (pos s) ≡ E.key (kind_of (boxes q)) (id_of E ids (boxes q)) (pos t) → (boxes p ≡ boxes q) × (s ≡ t)

  pub flip_right : Rewrites → FlipDone E ids lines b c p q → RightLines E ids lines c q
  unfolding flip_ok
  flip_right W (in_the_head l z own other) =
      subst (λ (x : SummaryIndex). RightLines E ids lines x q) (ap (λ (i : Index). summary_index i c.summaries) z)
      (Ri.kept_right E ids lines b (summary_index (index (with_places E ids lines b c p q l) b.index.lists) c.summaries) q R (same_spills l q) (by_parent (parent_dec p q)) (λ n h. refl))
    where
      by_parent : Dec (p ≡ q) → c.summaries q ≡ b.summaries q
      by_parent (yes g) = own g
      by_parent (no g) = other g
  flip_right W (in_a_row fits x n at zs F z own other) =
      subst (λ (x : SummaryIndex). RightLines E ids lines x q) (ap (λ (i : Index). summary_index i c.summaries) z) (by_parent (parent_dec p q))
    where
      places : List ℤ
      places = (b.index.parts (boxes p)).places

      new : List ℤ
      new = flipped_at (At at) zs

      key : List ℕ
      key = E.key Box (ids p) (pos n)

      row : List ℕ
      row = E.with_boxes (ids p) (pos n) F.row (flipped_at (At at) zs)

      v : SummaryIndex
      v = summary_index (staged_anew E ids lines b c p q n (E.with_boxes (ids p) (pos n) F.row (flipped_at (At at) zs))) c.summaries

      zs_small : Small zs
      zs_small = ordered_small 0 zs (checked (spill_read E Box (sources_of E ids b.index (boxes p)) n) zs F.passes).in_order

      few : length (flipped_at (At at) zs) ≤ 512
      few = omega (arith, length-set zs at (neg_ℤ (get_or zs at (pos 0))), (checked (spill_read E Box (sources_of E ids b.index (boxes p)) n) zs F.passes).full)

      long : length (E.key Box (ids p) (pos n)) ≡ 32
      long = L.key_length Box (ids p) (pos n)

      redone : (length (E.with_boxes (ids p) (pos n) F.row (flipped_at (At at) zs)) ≤ E.limit)
          × (E.decode Box (ids p) (pos n) (E.with_boxes (ids p) (pos n) F.row (flipped_at (At at) zs)) ≡ good (flipped_at (At at) zs))
      redone = W.redo n F.row zs (flipped_at (At at) zs) F.below F.coded few (flipped_small zs at zs_small)

      ok : RecordsOk E.size E.limit b.index.lists.staged_counts b.index.lists.staged
      ok =
          let x = records_ok E.size E.limit b.index.lists.staged_counts b.index.lists.staged in
          let y = records_ok E.size E.limit b.index.lists.table_counts b.index.lists.table in
          records_ok_facts E.size E.limit b.index.lists.staged_counts b.index.lists.staged
          (and_left x y (and_right (head_ok (b.index.parts (boxes p)).head (b.index.parts (boxes p)).places) (x && y) fits))

      same : (t : ℕ) → t < Ri.spills_of E ids lines b q → ((boxes p ≡ boxes q) × (n ≡ t) → ⊥) → Ri.row_of E ids lines v q t ≡ Ri.row_of E ids lines b q t
      same t h g =
          Rw.put_other E ids L b.index.lists (with_places E ids lines b c p q places) b.index.parts key row long redone.0 F.room ok (boxes q) t
          (λ k. g (W.apart n t F.below h k))

      by_parent : Dec (p ≡ q) → RightLines E ids lines v q
      by_parent (yes g) =
          let many = same_spills places q in
          let all : Ri.spills_of E ids lines b p ≡ Ri.spills_of E ids lines b q = ap (λ (x : Parent). Ri.spills_of E ids lines b x) g in
          Ri.written_right E ids lines b v q R n new (omega arith) (omega (arith, R.room)) (omega (arith, F.below)) (own g)
          (ap (λ (x : Parent). Ri.row_of E ids lines v x n) (sym g)
          ∙ Rw.put_same E ids L b.index.lists (with_places E ids lines b c p q places) b.index.parts key row long redone.0 F.room ok (boxes p) n refl
          ∙ ap to_res redone.1)
          (λ t h m. (omega arith, same t (omega arith) (λ x. m (sym x.1))))
      by_parent (no g) =
          Ri.kept_right E ids lines b v q R (same_spills places q) (other g) (λ t h. same t h (λ x. g (boxes_inj x.0)))
