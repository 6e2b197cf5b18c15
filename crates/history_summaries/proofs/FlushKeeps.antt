-- An accepted flush leaves every summary right whose rows are all there after it. (A row spilled again after its key was deleted is lost by a flush.)
use mathlib.Core.Path.{◌≡◌, refl, sym, ap, ◌∙◌, subst}
use mathlib.Core.List.{List}
use Prim.Native.Nat.{ℕ, ◌<◌}
use lib.IntN.{ℤ}
use Rattle.buffer_core.specs.Edition.{Edition}
use Rattle.buffer_core.specs.Flush.{Flushing, flushed}
use Rattle.buffer_core.proofs.ListLaws.{lists_fit}
use Rattle.summary_core.proofs.AcceptedLaws.{flush_took}
use Rattle.ledger.specs.Ledger.{Parent, boxes}
use Rattle.ledger.specs.Run.{done, accepted}
use Rattle.history.specs.Index.{Index, index, after_flush, do_flush, flushing_of}
use Rattle.history.specs.EditionLaws.{EditionLaws}
use Rattle.history_summaries.specs.Summaries.{SummaryIndex, summary_index, flush_without}
use Rattle.history_summaries.proofs.Rows as Rw
use Rattle.history_summaries.proofs.Right as Ri
use Rattle.history_summaries.proofs.Right.{RightLines}
use Rattle.history_summaries.proofs.Answers.{is_flushed, with_done}

module _ (E : Edition) (ids : Parent → List ℕ) (L : EditionLaws E ids) (lines : Parent → ℕ) (b c : SummaryIndex) (e : flush_without E ids lines b ≡ accepted c) where
  -- the call without summaries
  pub flush_plain : do_flush E ids b.index ≡ accepted c.index
  flush_plain = (with_done b.summaries (do_flush E ids b.index) c e).0

  pub flush_right : (q : Parent) → RightLines E ids lines b q → ((n : ℕ) → n < Ri.spills_of E ids lines c q → (zs : List ℤ) × (Ri.row_of E ids lines c q n ≡ done zs)) → RightLines E ids lines c q
  unfolding flushed
  flush_right q R there =
      let o = flushing_of E ids b.index in
      let t = flush_took E b.index.lists (is_flushed b.index o.answer o.table o.staged o.deleted c.index flush_plain) in
      let fit = lists_fit E b.index.lists t.fits in
      let z = sym (ap (λ (a : Flushing). after_flush b.index a.answer a.table a.staged a.deleted) t.result) ∙ flush_plain in
      let i : Index = index b.index.parts (Rw.flushed E ids L b.index.lists b.index.parts b.index.parts fit t.room) in
      let q₁ : i ≡ c.index = cc in
      let d : SummaryIndex = summary_index i c.summaries in
      let now : d ≡ c = ap (λ (x : Index). summary_index x c.summaries) q₁ in
      subst (λ (x : SummaryIndex). RightLines E ids lines x q) now
      (Ri.kept_right E ids lines b d q R refl (ap (λ (S : Parent → List ℕ). S q) (with_done b.summaries (do_flush E ids b.index) c e).1)
      (λ n h.
      let r = subst (λ (x : SummaryIndex). (m : ℕ) → m < Ri.spills_of E ids lines x q → (zs : List ℤ) × (Ri.row_of E ids lines x q m ≡ done zs)) (sym now) there n h in
      Rw.flush_same E ids L b.index.lists b.index.parts b.index.parts fit t.room (boxes q) n r.0 r.1))
