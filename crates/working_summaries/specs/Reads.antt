-- Which spill numbers a call with a summary reads, in the order in which it reads them. An append and the tally by a summary read no row: they borrow no table.
use Rattle.std.specs.Prelude.{ℕ, Bool, false, cond, ◌&&◌, List, [], ◌∷◌, ltb, leb, ℤ, nat_abs, take, Ok, Err}
use Rattle.signed.specs.Sign.{is_negative}
use Rattle.entries.specs.Order.{order_ok}
use Rattle.entries.specs.Flip.{position}
use Rattle.index_types.specs.declared.ListCounts.{ListCounts}
use Rattle.index_types.specs.declared.HeadCounts.{HeadCounts}
use Rattle.buffer_core.specs.declared.Direction.{Direction}
use Rattle.buffer_core.specs.Answers.{Low}
use Rattle.buffer_core.specs.Edition.{Edition}
use Rattle.buffer_core.specs.Spills.{Sources, sources}
use Rattle.buffer_core.specs.Pop.{Lists}
use Rattle.buffer_core.specs.Flip.{search_in, row_checked, spends, flip_ok}
use Rattle.summary_core.specs.Lines.{at_line, lines_ok}
use Rattle.summary_core.specs.Flip.{line_lead, line_look}
use Rattle.summary_core.specs.Moves.{too_few_lines}
use Rattle.working_set.specs.Reads.{walk_reads, up_reads, head_reads, pop_reads}

-- a line whose last absolute value is below the target: its row is not read
abbrev pub passed_over : (S : List ℕ) (target : ℕ) → ℕ → Bool
passed_over S target n = ltb (at_line S n 1) target

-- of the lines that are walked over, those whose rows are read
unfoldable pub searched : (passed : ℕ → Bool) → List ℕ → List ℕ
searched p [] = []
searched p (n ∷ ns) = cond (p n) (searched p ns) (n ∷ searched p ns)

module _ (E : Edition) where
  -- the walk over the lines below a number, the newest first
  unfoldable pub line_reads : Sources → (S : List ℕ) (target : ℕ) → (spend : Bool) → ℕ → List ℕ
  line_reads w S target d low = searched (passed_over S target) (walk_reads (line_look E w S target d) low)

  abbrev pub below_reads : Sources → (S : List ℕ) (target : ℕ) → (spend : Bool) → Low → List ℕ
  below_reads w S target d (Ok low) = line_reads w S target d low
  below_reads w S target d (Err code) = []

  -- the halving over the lines reads no row
  unfoldable pub in_lines_reads : Sources → (S : List ℕ) (target : ℕ) → (spend : Bool) → (spills : ℕ) → List ℕ
  in_lines_reads w S target d spills = below_reads w S target d (search_in (line_lead S) target 0 spills)

  unfoldable pub flip_lines_core_reads : Sources → Direction → (target spills : ℤ) → List ℤ → (lines : ℕ) → List ℕ → List ℕ
  flip_lines_core_reads w d target spills zs lines S =
      cond (leb 9223372036854775808 (nat_abs target)) []
      (cond (order_ok zs)
      (cond (is_negative spills) []
      (cond (ltb lines (nat_abs spills)) []
      (head_reads (position (spends d) (nat_abs target) zs 0 false) (in_lines_reads w S (nat_abs target) (spends d) (nat_abs spills)))))
      [])

  -- the spill numbers that a spend or an unspend with a summary reads
  unfoldable pub flip_lines_reads : Direction → (parent : List ℕ) → HeadCounts → ℤ → ListCounts → (staged : List ℕ) → ListCounts → (table : List ℕ) → List ℤ → (lines : ℕ) → List ℕ → List ℕ
  flip_lines_reads d parent h target c staged e table head lines S =
      cond (flip_ok E h c staged e table head && lines_ok lines S)
      (flip_lines_core_reads (sources parent staged c.count table e.count) d target h.spills (take h.len head) lines S) []

  -- the spill number that a pop with a summary reads: that of a pop, where the lines are enough
  unfoldable pub pop_lines_reads : HeadCounts → Lists → List ℤ → (lines : ℕ) → List ℕ → List ℕ
  pop_lines_reads h b head lines S = cond (lines_ok lines S) (cond (too_few_lines h lines) [] (pop_reads E h b head)) []

  unfoldable pub summary_core_reads : Sources → (spills : ℤ) → List ℤ → (lines : ℕ) → List ℕ
  summary_core_reads w spills zs lines =
      cond (order_ok zs)
      (cond (is_negative spills) []
      (cond (ltb lines (nat_abs spills)) [] (up_reads (row_checked E w) 0 (nat_abs spills))))
      []

  -- the spill numbers that making a summary afresh reads
  unfoldable pub summary_reads : (parent : List ℕ) → HeadCounts → ListCounts → (staged : List ℕ) → ListCounts → (table : List ℕ) → List ℤ → (lines : ℕ) → List ℕ → List ℕ
  summary_reads parent h c staged e table head lines S =
      cond (flip_ok E h c staged e table head && lines_ok lines S)
      (summary_core_reads (sources parent staged c.count table e.count) h.spills (take h.len head) lines) []
