-- Box appends and box pops with a summary (document 02, U8): "Box appends, spends, unspends and box pops keep it current; a line they write is made anew from its
-- row, a vacated line is set to zero." "36 when the summary has fewer lines than the box spill count, tested after 11, or when a box append spills and the lent
-- summary has no free line, tested after 18". For an append 25, 11, 36, 17, 18, 36, 16; for a pop 25, 11, 36, 19 and the rest as without a summary.
use Rattle.std.specs.Prelude.{ℕ, ◌-◌, Bool, not, cond, ◌&&◌, ◌||◌, List, ltb, leb, ℤ, nat_abs, take, Ok, Err}
use Rattle.index_types.specs.Limits.{segment_threshold, spill_limit}
use Rattle.index_types.specs.declared.ListCounts.{ListCounts}
use Rattle.index_types.specs.declared.HeadCounts.{HeadCounts}
use Rattle.index_types.specs.Answers.{Appended}
use Rattle.index_types.specs.Answers.{Popped}
use Rattle.signed.specs.Sign.{is_negative}
use Rattle.segment_id.specs.declared.Kind.TheVariants.{Box}
use Rattle.buffer_core.specs.Edition.{Edition}
use Rattle.buffer_core.specs.Append.{Appending, appending, append_core, append_ok}
use Rattle.buffer_core.specs.Pop.{Popping, popping, Lists, pop_core, pop_ok}
use Rattle.summary_core.specs.Lines.{line_of, no_line, put_line, lines_ok, WithSummary, with_summary}

-- "36 when the summary has fewer lines than the box spill count, tested after 11": 11 itself is left to the call without a summary
abbrev pub too_few_lines : HeadCounts → (lines : ℕ) → Bool
too_few_lines h lines = not (is_negative h.spills) && ltb lines (nat_abs h.spills)

-- ---- append

-- "when a box append spills and the lent summary has no free line, tested after 18": neither 11, 17 nor 18 comes, the head is full, and each line has its spill
abbrev pub no_free_line : HeadCounts → ℤ → (lines : ℕ) → Bool
no_free_line h number lines =
    not (is_negative h.spills)
    && (not (is_negative number) && (not (ltb h.len segment_threshold) && (not (leb spill_limit (nat_abs h.spills)) && leb lines (nat_abs h.spills))))

-- the summary after an append without one: an accepted append to a full head made a row of the head's 512 numbers, "a line they write is made anew from its row"
abbrev pub summary_appended : Appended → HeadCounts → List ℤ → List ℕ → List ℕ
summary_appended (Ok (h', c)) h head S =
    cond (ltb h.len segment_threshold) S (put_line (nat_abs h.spills) (line_of (take segment_threshold head)) S)
summary_appended (Err code) h head S = S

abbrev pub after_append : Appending → HeadCounts → List ℤ → List ℕ → WithSummary Appending
after_append o h head S = with_summary o (summary_appended o.answer h head S)

-- ---- pop

-- the summary after a pop without one: an accepted pop from an empty head took the newest row, "a vacated line is set to zero"
abbrev pub summary_popped : Popped → HeadCounts → List ℕ → List ℕ
summary_popped (Ok (n, h', c, d)) h S = cond (ltb 0 h.len) S (put_line (nat_abs h.spills - 1) no_line S)
summary_popped (Err code) h S = S

abbrev pub after_pop : Popping → HeadCounts → List ℕ → WithSummary Popping
after_pop o h S = with_summary o (summary_popped o.answer h S)

module _ (E : Edition) where
  -- both 36, then the append as it is without a summary
  unfoldable pub append_lines : (parent : List ℕ) → HeadCounts → ℤ → ListCounts → List ℤ → (staged : List ℕ) → (lines : ℕ) → List ℕ → WithSummary Appending
  append_lines parent h number c head staged lines S =
      cond (too_few_lines h lines || no_free_line h number lines) (with_summary (appending (Err 36) head staged) S)
      (after_append (append_core E Box parent h number c head staged) h head S)

  unfoldable pub append_lines_of : (parent : List ℕ) → HeadCounts → ℤ → ListCounts → List ℤ → (staged : List ℕ) → (lines : ℕ) → List ℕ → WithSummary Appending
  append_lines_of parent h number c head staged lines S =
      cond (append_ok E h c head staged && lines_ok lines S) (append_lines parent h number c head staged lines S)
      (with_summary (appending (Err 25) head staged) S)

  -- 36, then the pop as it is without a summary
  unfoldable pub pop_lines : (parent : List ℕ) → HeadCounts → Lists → List ℤ → (lines : ℕ) → List ℕ → WithSummary Popping
  pop_lines parent h b head lines S =
      cond (too_few_lines h lines) (with_summary (popping (Err 36) head b.staged b.deleted) S)
      (after_pop (pop_core E Box parent h b head) h S)

  unfoldable pub pop_lines_of : (parent : List ℕ) → HeadCounts → Lists → List ℤ → (lines : ℕ) → List ℕ → WithSummary Popping
  pop_lines_of parent h b head lines S =
      cond (pop_ok E h b head && lines_ok lines S) (pop_lines parent h b head lines S)
      (with_summary (popping (Err 25) head b.staged b.deleted) S)
