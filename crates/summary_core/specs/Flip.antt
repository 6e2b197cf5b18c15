-- A spend or an unspend with a summary (document 02, U8): "The search halves and walks over the summary and reads only rows it searches, so damage elsewhere goes
-- unnoticed". 25, 9, 10, 11, 36, the head, then the lines; a row is read (12, 1 to 6, 34, 8, 35, 13) only where its line's last absolute value is not below the
-- target; then 16, or 14 and 15.
use Rattle.std.specs.Prelude.{ℕ, Bool, true, false, cond, ◌&&◌, List, ltb, leb, ℤ, nat_abs, take, Ok, Err}
use Rattle.index_types.specs.declared.ListCounts.{ListCounts}
use Rattle.index_types.specs.declared.HeadCounts.{HeadCounts}
use Rattle.signed.specs.Sign.{is_negative}
use Rattle.entries.specs.Order.{order_ok}
use Rattle.entries.specs.Flip.{position, flipped_at}
use Rattle.entries.specs.declared.Position.{Position}
use Rattle.entries.specs.declared.Position.TheVariants.{At, Seen, Absent}
use Rattle.buffer_core.specs.declared.Direction.{Direction}
use Rattle.buffer_core.specs.Answers.{Lead}
use Rattle.buffer_core.specs.Answers.{Low}
use Rattle.buffer_core.specs.declared.Look.{Look}
use Rattle.buffer_core.specs.declared.Look.TheVariants.{Stop, Fail}
use Rattle.buffer_core.specs.declared.Walk.{Walk}
use Rattle.buffer_core.specs.declared.Walk.TheVariants.{Hit, Ended, Failed}
use Rattle.buffer_core.specs.Edition.{Edition, RowRead, bad, good}
use Rattle.buffer_core.specs.Spills.{Sources, sources}
use Rattle.buffer_core.specs.Flip.{search_in, walk_from, look_by, Effect, refuse, flip_head, stage, spends, Flipping, flipping, done_by, row_checked, boxes_in, after_walk, flip_ok}
use Rattle.summary_core.specs.Lines.{at_line, line_of, put_line, lines_ok, WithSummary, with_summary}

-- "The search halves .. over the summary": the first absolute value of a row, from its line
abbrev pub line_lead : List ℕ → ℕ → Lead
line_lead S n = Ok (at_line S n 0)

-- a row that is searched; `ends` says whether the walk ends behind it
abbrev pub look_in_row : RowRead → (target : ℕ) (spend ends : Bool) → Look
look_in_row (good zs) target d ends = look_by (position d target zs 0 false) ends
look_in_row (bad code) target d ends = Fail code

-- the walk from where the halving ended
abbrev pub walk_after : (ℕ → Look) → (seen : Bool) → Low → Walk
walk_after look seen (Ok low) = walk_from look low seen
walk_after look seen (Err code) = Failed code

-- a match in the head writes no line
abbrev pub head_or_lines : Position → (Bool → WithSummary Effect) → List ℕ → WithSummary Effect
head_or_lines (At i) lines S = with_summary (flip_head i) S
head_or_lines Seen lines S = lines true
head_or_lines Absent lines S = lines false

module _ (E : Edition) where
  -- "walks over the summary and reads only rows it searches": a line's last absolute value below the target ends the walk, its first one ends it behind the row
  abbrev pub line_look : Sources → List ℕ → (target : ℕ) (spend : Bool) → ℕ → Look
  line_look w S target d n =
      cond (ltb (at_line S n 1) target) (Stop false) (look_in_row (row_checked E w n) target d (ltb (at_line S n 0) target))

  -- where the entry is found
  unfoldable pub walk_lines : Sources → List ℕ → (target : ℕ) (spend : Bool) (spills : ℕ) (seen : Bool) → Walk
  walk_lines w S target d spills seen = walk_after (line_look w S target d) seen (search_in (line_lead S) target 0 spills)

  -- "a line they write is made anew from its row": the row as it is staged
  abbrev pub summary_staged : Sources → Walk → Effect → List ℕ → List ℕ
  summary_staged w (Hit n at) (stage slot count key row) S = put_line n (line_of (flipped_at (At at) (boxes_in E (row_checked E w n)))) S
  summary_staged w (Hit n at) (flip_head i) S = S
  summary_staged w (Hit n at) (refuse code) S = S
  summary_staged w (Ended seen) e S = S
  summary_staged w (Failed code) e S = S

  -- the effect, and the summary after it
  abbrev pub after_lines : Sources → (capacity : ℕ) → List ℕ → Walk → WithSummary Effect
  after_lines w capacity S x = with_summary (after_walk E w capacity x) (summary_staged w x (after_walk E w capacity x) S)

  unfoldable pub in_lines : Sources → (capacity target : ℕ) (spend : Bool) (spills : ℕ) → List ℕ → (seen : Bool) → WithSummary Effect
  in_lines w capacity target d spills S seen = after_lines w capacity S (walk_lines w S target d spills seen)

  -- 9, 10, 11, 36, the head, the lines; zs are the numbers of the head
  unfoldable pub flip_lines : Sources → (capacity : ℕ) → Direction → (target spills : ℤ) → List ℤ → (lines : ℕ) → List ℕ → WithSummary Effect
  flip_lines w capacity d target spills zs lines S =
      cond (leb 9223372036854775808 (nat_abs target)) (with_summary (refuse 9) S)
      (cond (order_ok zs)
      (cond (is_negative spills) (with_summary (refuse 11) S)
      (cond (ltb lines (nat_abs spills)) (with_summary (refuse 36) S)
      (head_or_lines (position (spends d) (nat_abs target) zs 0 false) (in_lines w capacity (nat_abs target) (spends d) (nat_abs spills) S) S)))
      (with_summary (refuse 10) S))

  abbrev pub done_lines : WithSummary Effect → ListCounts → List ℤ → List ℕ → WithSummary Flipping
  done_lines a c head staged = with_summary (done_by E a.result c head staged) a.summary

  unfoldable pub flip_lines_core : Direction → (parent : List ℕ) → HeadCounts → ℤ → ListCounts → (staged : List ℕ) → ListCounts → (table : List ℕ) → List ℤ → (lines : ℕ) → List ℕ → WithSummary Flipping
  flip_lines_core d parent h target c staged e table head lines S =
      done_lines (flip_lines (sources parent staged c.count table e.count) c.capacity d target h.spills (take h.len head) lines S) c head staged

  -- 25 as without a summary, and of the summary
  unfoldable pub flip_lines_of : Direction → (parent : List ℕ) → HeadCounts → ℤ → ListCounts → (staged : List ℕ) → ListCounts → (table : List ℕ) → List ℤ → (lines : ℕ) → List ℕ → WithSummary Flipping
  flip_lines_of d parent h target c staged e table head lines S =
      cond (flip_ok E h c staged e table head && lines_ok lines S) (flip_lines_core d parent h target c staged e table head lines S)
      (with_summary (flipping (Err 25) head staged) S)
