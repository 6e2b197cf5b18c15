-- A refused call with summaries leaves the index and every summary as they were, whatever they hold.
use mathlib.Core.Path.{◌≡◌, refl, ap, ◌∙◌, fun_ext}
use mathlib.Core.List.{List}
use Prim.Native.Nat.{ℕ}
use lib.IntN.{ℤ}
use Rattle.std.specs.Prelude.{Ok, Err}
use Rattle.index_types.specs.Answers.{Appended}
use Rattle.index_types.specs.Answers.{Popped}
use Rattle.index_types.specs.Answers.{Flipped}
use Rattle.buffer_core.specs.declared.Direction.{Direction}
use Rattle.buffer_core.specs.declared.Direction.TheVariants.{Spend, Unspend}
use Rattle.buffer_core.specs.Edition.{Edition, edition_of}
use Rattle.summary_core.proofs.MoveLaws.{append_lines_same, pop_lines_same}
use Rattle.summary_core.proofs.FlipLaws.{flip_lines_same}
use Rattle.ledger.specs.Ledger.{Parent, Series, boxes, txs, parent_dec, ite}
use Rattle.ledger.specs.Run.{Made, accepted, refused_leaving, Leaves, RefusalsLeave}
use Rattle.ledger.specs.Run as Mc
use Rattle.history.specs.Index.{Index, after_append, after_pop, after_flip, do_append, do_pop, do_flush}
use Rattle.history.specs.Machine.{Borrowed}
use Rattle.history.specs.ForkUndo.{Places}
use Rattle.history.proofs.RefusalLaws.{append_by, pop_by, flip_by, append_leaves, pop_leaves, flush_leaves, refusals_leave}
use Rattle.history_summaries.specs.Summaries.{SummaryIndex, summary_index, set_summary, with_summaries, pop_with_summaries, appending_with, popping_with, flipping_with, append_kept, pop_kept, flip_with, flush_without, BorrowedSummaries, summary_machine}
use Rattle.history_summaries.specs.Promises.{SummaryRefusals}

-- a summary set to what it was
same_summary : (S : Parent → List ℕ) (p q : Parent) (w : Dec (p ≡ q)) → ite w (S p) (S q) ≡ S q
unfolding ite
same_summary S p q (yes e) = ap S e
same_summary S p q (no n) = refl

set_back : (S : Parent → List ℕ) (p : Parent) (s : List ℕ) → s ≡ S p → set_summary S p s ≡ S
set_back S p s e = ap (set_summary S p) e ∙ fun_ext (λ q. same_summary S p q (parent_dec p q))

module _ (b : SummaryIndex) where
  -- the summaries beside an index that was left
  beside : (X : Made Index Index) → Leaves b.index X → Leaves b (with_summaries b.summaries X)
  beside (accepted c) l = tt
  beside (refused_leaving k c) l = ap (λ (i : Index). summary_index i b.summaries) l

  pop_beside : (X : Made Index (Mc.Popped Index)) → Leaves b.index X → Leaves b (pop_with_summaries b.summaries X)
  pop_beside (accepted c) l = tt
  pop_beside (refused_leaving k c) l = ap (λ (i : Index). summary_index i b.summaries) l

  module _ (E : Edition) (ids : Parent → List ℕ) (lines : Parent → ℕ) where
    append_left : (p : Parent) (n : ℤ) (a : Appended) → (appending_with E ids lines b p n).result.answer ≡ a
        → Leaves b (with_summaries (set_summary b.summaries p (appending_with E ids lines b p n).summary) (after_append b.index (boxes p) a (appending_with E ids lines b p n).result.head (appending_with E ids lines b p n).result.staged))
    append_left p n (Ok (h, c)) e = tt
    append_left p n (Err code) e =
        let o = appending_with E ids lines b p n in
        let t = append_lines_same E (ids p) (b.index.parts (boxes p)).head (lines p) (b.summaries p) n b.index.lists.staged_counts (b.index.parts (boxes p)).places b.index.lists.staged code e in
        λ i. summary_index (append_by b.index (boxes p) (Err code) o.result.head o.result.staged (λ k q. (t.0, t.1)) i) (set_back b.summaries p o.summary t.2 i)

    append_kept_leaves : (ch : Series) (n : ℤ) → Leaves b (append_kept E ids lines b ch n)
    append_kept_leaves (boxes p) n = append_left p n (appending_with E ids lines b p n).result.answer refl
    append_kept_leaves (txs p) n = beside (do_append E ids b.index (txs p) n) (append_leaves E ids b.index (txs p) n)

    pop_left : (p : Parent) (a : Popped) → (popping_with E ids lines b p).result.answer ≡ a
        → Leaves b (pop_with_summaries (set_summary b.summaries p (popping_with E ids lines b p).summary)
        (after_pop b.index (boxes p) a (popping_with E ids lines b p).result.head (popping_with E ids lines b p).result.staged (popping_with E ids lines b p).result.deleted))
    pop_left p (Ok (n, h, c, d)) e = tt
    pop_left p (Err code) e =
        let o = popping_with E ids lines b p in
        let t = pop_lines_same E (ids p) (b.index.parts (boxes p)).head (lines p) (b.summaries p) b.index.lists (b.index.parts (boxes p)).places code e in
        λ i. summary_index (pop_by b.index (boxes p) (Err code) o.result.head o.result.staged o.result.deleted (λ k q. (t.0, t.1, t.2)) i) (set_back b.summaries p o.summary t.3 i)

    pop_kept_leaves : (ch : Series) → Leaves b (pop_kept E ids lines b ch)
    pop_kept_leaves (boxes p) = pop_left p (popping_with E ids lines b p).result.answer refl
    pop_kept_leaves (txs p) = pop_beside (do_pop E ids b.index (txs p)) (pop_leaves E ids b.index (txs p))

    flip_left : (d : Direction) (p : Parent) (t : ℤ) (a : Flipped) → (flipping_with E ids lines d b p t).result.answer ≡ a
        → Leaves b (with_summaries (set_summary b.summaries p (flipping_with E ids lines d b p t).summary) (after_flip b.index (boxes p) a (flipping_with E ids lines d b p t).result.head (flipping_with E ids lines d b p t).result.staged))
    flip_left d p t (Ok c) e = tt
    flip_left d p t (Err code) e =
        let o = flipping_with E ids lines d b p t in
        let s = flip_lines_same E (ids p) b.index.lists.staged_counts b.index.lists.staged b.index.lists.table_counts b.index.lists.table (b.index.parts (boxes p)).head (b.index.parts (boxes p)).places d t (lines p) (b.summaries p) code e in
        λ i. summary_index (flip_by b.index p (Err code) o.result.head o.result.staged (λ k q. (s.0, s.1)) i) (set_back b.summaries p o.summary s.2 i)

    flip_with_leaves : (d : Direction) (p : Parent) (t : ℤ) → Leaves b (flip_with E ids lines d b p t)
    flip_with_leaves d p t = flip_left d p t (flipping_with E ids lines d b p t).result.answer refl

    flush_without_leaves : Leaves b (flush_without E ids lines b)
    flush_without_leaves = beside (do_flush E ids b.index) (flush_leaves E ids b.index)

pub kept_refusals : (E : Edition) (ids : Parent → List ℕ) (B : Borrowed E) (s : Parent → Places) (Z : BorrowedSummaries) → RefusalsLeave (summary_machine E ids B s Z)
kept_refusals E ids B s Z = record {
  appends = λ b ch n. append_kept_leaves b E ids Z.lines ch n;
  pops = λ b ch. pop_kept_leaves b E ids Z.lines ch;
  spends = λ b p t. flip_with_leaves b E ids Z.lines Spend p t;
  unspends = λ b p t. flip_with_leaves b E ids Z.lines Unspend p t;
  flushes = λ b. flush_without_leaves b E ids Z.lines;
  credits = (refusals_leave E ids B s).credits;
  debits = (refusals_leave E ids B s).debits;
}

pub summary_refusals : SummaryRefusals
summary_refusals v ids long B s Z = kept_refusals (edition_of v) ids B s Z
