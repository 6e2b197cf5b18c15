-- Making a summary afresh (document 02, U8): "A call makes it afresh, refused as the tally was and by 36." 25, 10, 11, 36 "when the summary has fewer lines than
-- the box spill count, tested after 11", then every row from spill 0 up as in a tally. Lines past the last spill are zero; a refused call leaves the summary.
use Rattle.std.specs.Prelude.{ℕ, zero, suc, ◌*◌, ◌-◌, cond, ◌&&◌, List, [], ◌++◌, ltb, ℤ, nat_abs, take, drop, replicate, Ok, Err}
use Rattle.index_types.specs.Limits.{segment_threshold, summary_line}
use Rattle.index_types.specs.declared.ListCounts.{ListCounts}
use Rattle.index_types.specs.declared.HeadCounts.{HeadCounts}
use Rattle.index_types.specs.Answers.{Summarized}
use Rattle.stores.specs.Stores.{write}
use Rattle.signed.specs.Sign.{is_negative}
use Rattle.entries.specs.Order.{order_ok}
use Rattle.buffer_core.specs.Edition.{Edition, RowRead, bad, good}
use Rattle.buffer_core.specs.Spills.{Sources, sources}
use Rattle.buffer_core.specs.Rows.{rows_up}
use Rattle.buffer_core.specs.Flip.{row_checked, flip_ok}
use Rattle.summary_core.specs.Lines.{line_of, lines_ok, WithSummary, with_summary}

-- "per spill a line": the lines of k rows, whose numbers stand one after the other, 512 to a row
unfoldable pub lines_of : (k : ℕ) → List ℤ → List ℕ
lines_of zero zs = []
lines_of (suc k) zs = line_of (take segment_threshold zs) ++ lines_of k (drop segment_threshold zs)

-- the lines of the rows, then zeros on the lines that no spill has; numbers behind the last line stay
abbrev pub put_lines : RowRead → (spills lines : ℕ) → List ℕ → WithSummary Summarized
put_lines (bad code) spills lines S = with_summary (Err code) S
put_lines (good rows) spills lines S =
    with_summary (Ok tt) (write 0 (lines_of spills rows ++ replicate ((lines - spills) * summary_line) 0) S)

module _ (E : Edition) where
  -- 10, 11, 36, then the rows; zs are the numbers of the head
  unfoldable pub summary_core : Sources → (spills : ℤ) → List ℤ → (lines : ℕ) → List ℕ → WithSummary Summarized
  summary_core w spills zs lines S =
      cond (order_ok zs)
      (cond (is_negative spills) (with_summary (Err 11) S)
      (cond (ltb lines (nat_abs spills)) (with_summary (Err 36) S)
      (put_lines (rows_up (row_checked E w) 0 (nat_abs spills)) (nat_abs spills) lines S)))
      (with_summary (Err 10) S)

  -- 25 as in a tally, and of the summary
  unfoldable pub summary_of : (parent : List ℕ) → HeadCounts → ListCounts → (staged : List ℕ) → ListCounts → (table : List ℕ) → List ℤ → (lines : ℕ) → List ℕ → WithSummary Summarized
  summary_of parent h c staged e table head lines S =
      cond (flip_ok E h c staged e table head && lines_ok lines S)
      (summary_core (sources parent staged c.count table e.count) h.spills (take h.len head) lines S)
      (with_summary (Err 25) S)
