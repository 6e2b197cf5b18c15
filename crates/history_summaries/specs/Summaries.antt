-- The index and a summary for each parent (document 02, U8): "Keep beside each parent a summary of its box spills". A box call with its parent's summary is
-- the very definition that the contract of the public function cites; a call without one is that of the index alone.
use Rattle.std.specs.Prelude.{◌≡◌, List, ℕ, ◌*◌, ◌≤◌, ℤ, length, take, replicate}
use Rattle.index_types.specs.Limits.{summary_line}
use Rattle.index_types.specs.Answers.{Summarized}
use Rattle.index_types.specs.Answers.{Tallied}
use Rattle.buffer_core.specs.declared.Direction.{Direction}
use Rattle.buffer_core.specs.declared.Direction.TheVariants.{Spend, Unspend}
use Rattle.buffer_core.specs.Edition.{Edition}
use Rattle.buffer_core.specs.Append.{Appending}
use Rattle.buffer_core.specs.Pop.{Popping}
use Rattle.buffer_core.specs.Flip.{Flipping}
use Rattle.buffer_core.specs.Tally.{tally_of}
use Rattle.summary_core.specs.Lines.{WithSummary}
use Rattle.summary_core.specs.Making.{summary_of}
use Rattle.summary_core.specs.Moves.{append_lines_of, pop_lines_of}
use Rattle.summary_core.specs.Flip.{flip_lines_of}
use Rattle.summary_core.specs.Tally.{tally_lines_of}
use Rattle.ledger.specs.Ledger.{Parent, Series, boxes, txs, parent_dec, ite}
use Rattle.ledger.specs.Run.{Made, accepted, refused_leaving, Popped, Machine}
use Rattle.history.specs.Index.{Index, after_append, after_pop, after_flip, do_append, do_pop, do_flip, do_flush}
use Rattle.history.specs.Machine.{Borrowed, start}
use Rattle.history.specs.ForkUndo.{Places, index_machine}

pub record SummaryIndex : Type 0 where
  pub index : Index
  pub summaries : Parent → List ℕ

abbrev pub summary_index : Index → (Parent → List ℕ) → SummaryIndex
summary_index b S = record { index = b; summaries = S }

abbrev pub set_summary : (Parent → List ℕ) → Parent → List ℕ → Parent → List ℕ
set_summary S p s q = ite (parent_dec p q) s (S q)

-- what a call leaves of the index, accepted or refused, beside the summaries that it leaves
abbrev pub with_summaries : (Parent → List ℕ) → Made Index Index → Made SummaryIndex SummaryIndex
with_summaries S (accepted b) = accepted (summary_index b S)
with_summaries S (refused_leaving code b) = refused_leaving code (summary_index b S)

abbrev pub pop_with_summaries : (Parent → List ℕ) → Made Index (Popped Index) → Made SummaryIndex (Popped SummaryIndex)
pop_with_summaries S (accepted r) = accepted (record { left = summary_index r.left S; value = r.value })
pop_with_summaries S (refused_leaving code b) = refused_leaving code (summary_index b S)

-- `lines` are the lines of each parent's summary, "lent with the same lines throughout"
module _ (E : Edition) (ids : Parent → List ℕ) (lines : Parent → ℕ) where
  -- ---- the calls with a summary
  abbrev pub appending_with : SummaryIndex → Parent → ℤ → WithSummary Appending
  appending_with b p n =
      append_lines_of E (ids p) (b.index.parts (boxes p)).head n b.index.lists.staged_counts (b.index.parts (boxes p)).places b.index.lists.staged
      (lines p) (b.summaries p)

  abbrev pub append_box_with : SummaryIndex → Parent → ℤ → Made SummaryIndex SummaryIndex
  append_box_with b p n =
      let o = appending_with b p n in
      with_summaries (set_summary b.summaries p o.summary) (after_append b.index (boxes p) o.result.answer o.result.head o.result.staged)

  abbrev pub popping_with : SummaryIndex → Parent → WithSummary Popping
  popping_with b p = pop_lines_of E (ids p) (b.index.parts (boxes p)).head b.index.lists (b.index.parts (boxes p)).places (lines p) (b.summaries p)

  abbrev pub pop_box_with : SummaryIndex → Parent → Made SummaryIndex (Popped SummaryIndex)
  pop_box_with b p =
      let o = popping_with b p in
      pop_with_summaries (set_summary b.summaries p o.summary)
      (after_pop b.index (boxes p) o.result.answer o.result.head o.result.staged o.result.deleted)

  abbrev pub flipping_with : Direction → SummaryIndex → Parent → ℤ → WithSummary Flipping
  flipping_with d b p t =
      flip_lines_of E d (ids p) (b.index.parts (boxes p)).head t b.index.lists.staged_counts b.index.lists.staged b.index.lists.table_counts
      b.index.lists.table (b.index.parts (boxes p)).places (lines p) (b.summaries p)

  abbrev pub flip_with : Direction → SummaryIndex → Parent → ℤ → Made SummaryIndex SummaryIndex
  flip_with d b p t =
      let o = flipping_with d b p t in
      with_summaries (set_summary b.summaries p o.summary) (after_flip b.index (boxes p) o.result.answer o.result.head o.result.staged)

  -- "A call makes it afresh": what that call answers, and the summary that it leaves
  abbrev pub afresh : SummaryIndex → Parent → WithSummary Summarized
  afresh b p =
      summary_of E (ids p) (b.index.parts (boxes p)).head b.index.lists.staged_counts b.index.lists.staged b.index.lists.table_counts
      b.index.lists.table (b.index.parts (boxes p)).places (lines p) (b.summaries p)

  -- "The tally adds up the summary and the head only", and the tally without a summary
  abbrev pub tallied_with : SummaryIndex → Parent → Tallied
  tallied_with b p = tally_lines_of (b.index.parts (boxes p)).head (b.index.parts (boxes p)).places (lines p) (b.summaries p)

  abbrev pub tallied : SummaryIndex → Parent → Tallied
  tallied b p =
      tally_of E (ids p) (b.index.parts (boxes p)).head b.index.lists.staged_counts b.index.lists.staged b.index.lists.table_counts
      b.index.lists.table (b.index.parts (boxes p)).places

  -- ---- the calls that are lent none: "Calls lent no summary stay as they were"
  abbrev pub append_without : SummaryIndex → Series → ℤ → Made SummaryIndex SummaryIndex
  append_without b ch n = with_summaries b.summaries (do_append E ids b.index ch n)

  abbrev pub pop_without : SummaryIndex → Series → Made SummaryIndex (Popped SummaryIndex)
  pop_without b ch = pop_with_summaries b.summaries (do_pop E ids b.index ch)

  abbrev pub flip_without : Direction → SummaryIndex → Parent → ℤ → Made SummaryIndex SummaryIndex
  flip_without d b p t = with_summaries b.summaries (do_flip E ids d b.index p t)

  abbrev pub flush_without : SummaryIndex → Made SummaryIndex SummaryIndex
  flush_without b = with_summaries b.summaries (do_flush E ids b.index)

  -- ---- a parent's box calls have its summary, transaction calls none
  abbrev pub append_kept : SummaryIndex → Series → ℤ → Made SummaryIndex SummaryIndex
  append_kept b (boxes p) n = append_box_with b p n
  append_kept b (txs p) n = append_without b (txs p) n

  abbrev pub pop_kept : SummaryIndex → Series → Made SummaryIndex (Popped SummaryIndex)
  pop_kept b (boxes p) = pop_box_with b p
  pop_kept b (txs p) = pop_without b (txs p)

-- "fork undo of one summary per parent, all zero at first, lent with the same lines throughout"
pub record BorrowedSummaries : Type 0 where
  pub lines : Parent → ℕ
  pub numbers : Parent → List ℕ
  pub numbers_in : (p : Parent) → lines p * summary_line ≤ length (numbers p)
  pub all_zero : (p : Parent) → take (lines p * summary_line) (numbers p) ≡ replicate (lines p * summary_line) 0

-- the machine of the theorem with summaries: balances, keys, sizes and what is compared are those of the machine without
module _ (E : Edition) (ids : Parent → List ℕ) (B : Borrowed E) (s : Parent → Places) (Z : BorrowedSummaries) where
  abbrev plain : Machine
  plain = index_machine E ids B s

  abbrev pub summary_machine : Machine
  summary_machine = record {
    Store = SummaryIndex;
    empty = summary_index (start E B) Z.numbers;
    append_store = append_kept E ids Z.lines;
    pop_store = pop_kept E ids Z.lines;
    spend_store = flip_with E ids Z.lines Spend;
    unspend_store = flip_with E ids Z.lines Unspend;
    flush_store = flush_without E ids Z.lines;
    entries = λ b. plain.entries b.index;
    StagingFull = λ b. plain.StagingFull b.index;
    DeletionFull = λ b. plain.DeletionFull b.index;
    Bal = plain.Bal;
    no_balance = plain.no_balance;
    add = plain.add;
    sub = plain.sub;
    nano_of = plain.nano_of;
    amount_of = plain.amount_of;
    row_size = plain.row_size;
    limit = plain.limit;
    Key = plain.Key;
    key = plain.key;
  }
