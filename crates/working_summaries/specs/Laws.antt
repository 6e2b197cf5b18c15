-- What is promised of the calls with a summary over a working set W, a part of the table T: each does on W what it does on T, or answers 12 and changes nothing, the
-- summary included. And how many rows a spend reads: with lines that do not fall, one, unless the target is the first number of that row.
use Rattle.std.specs.Prelude.{ℕ, ◌≤◌, ◌<◌, ◌≡◌, Bool, List, ◌∷◌, ℤ, nat_abs, Err}
use Rattle.index_types.specs.declared.ListCounts.{ListCounts}
use Rattle.index_types.specs.declared.HeadCounts.{HeadCounts}
use Rattle.segment_id.specs.declared.Kind.TheVariants.{Box}
use Rattle.buffer_core.specs.declared.Direction.{Direction}
use Rattle.buffer_core.specs.Edition.{Edition}
use Rattle.buffer_core.specs.Spills.{sources}
use Rattle.buffer_core.specs.Pop.{Lists, lists, popping}
use Rattle.buffer_core.specs.Flip.{flipping}
use Rattle.summary_core.specs.Lines.{at_line, with_summary}
use Rattle.summary_core.specs.Flip.{flip_lines_of}
use Rattle.summary_core.specs.Moves.{pop_lines_of}
use Rattle.summary_core.specs.Making.{summary_of}
use Rattle.working_set.specs.Part.{lacks}
use Rattle.working_set.specs.Reads.{need, first_missing, In, pop_reads, tally_of_reads}
use Rattle.working_set.specs.Laws.{Outcome, Working}
use Rattle.working_summaries.specs.Reads.{flip_lines_reads, pop_lines_reads, summary_reads}

-- the first absolute values of the lines of so many spills do not fall
abbrev pub Rising : (S : List ℕ) (spills : ℕ) → Type 0
Rising S spills = (i j : ℕ) → i ≤ j → j < spills → at_line S i 0 ≤ at_line S j 0

module _ (E : Edition) where
  abbrev pub FlipLinesLaw : Type 0
  FlipLinesLaw =
      (d : Direction) (parent : List ℕ) (h : HeadCounts) (target : ℤ) (c : ListCounts) (staged : List ℕ) (wc : ListCounts) (work : List ℕ) (tc : ListCounts) (table : List ℕ) (head : List ℤ) (lines : ℕ) (S : List ℕ)
      → Working E wc work tc table
      → Outcome (lacks E Box (sources parent staged c.count work wc.count))
      (flip_lines_reads E d parent h target c staged wc work head lines S) (flip_lines_reads E d parent h target c staged tc table head lines S)
      (flip_lines_of E d parent h target c staged wc work head lines S ≡ flip_lines_of E d parent h target c staged tc table head lines S)
      (flip_lines_of E d parent h target c staged wc work head lines S ≡ with_summary (flipping (Err 12) head staged) S)

  abbrev pub PopLinesLaw : Type 0
  PopLinesLaw =
      (parent : List ℕ) (h : HeadCounts) (c : ListCounts) (staged : List ℕ) (wc : ListCounts) (work : List ℕ) (tc : ListCounts) (table : List ℕ) (e : ListCounts) (deleted : List ℕ) (head : List ℤ) (lines : ℕ) (S : List ℕ)
      → Working E wc work tc table
      → Outcome (lacks E Box (sources parent staged c.count work wc.count))
      (pop_lines_reads E h (lists c staged wc work e deleted) head lines S) (pop_lines_reads E h (lists c staged tc table e deleted) head lines S)
      (pop_lines_of E parent h (lists c staged wc work e deleted) head lines S ≡ pop_lines_of E parent h (lists c staged tc table e deleted) head lines S)
      (pop_lines_of E parent h (lists c staged wc work e deleted) head lines S ≡ with_summary (popping (Err 12) head staged deleted) S)

  abbrev pub SummaryLaw : Type 0
  SummaryLaw =
      (parent : List ℕ) (h : HeadCounts) (c : ListCounts) (staged : List ℕ) (wc : ListCounts) (work : List ℕ) (tc : ListCounts) (table : List ℕ) (head : List ℤ) (lines : ℕ) (S : List ℕ)
      → Working E wc work tc table
      → Outcome (lacks E Box (sources parent staged c.count work wc.count))
      (summary_reads E parent h c staged wc work head lines S) (summary_reads E parent h c staged tc table head lines S)
      (summary_of E parent h c staged wc work head lines S ≡ summary_of E parent h c staged tc table head lines S)
      (summary_of E parent h c staged wc work head lines S ≡ with_summary (Err 12) S)

  -- ---- what to fetch: the missing row of a pop with a summary is that of the pop, and the one of a summary made afresh is that of the tally
  abbrev pub PopNamedLaw : Type 0
  PopNamedLaw =
      (m : ℕ → Bool) (h : HeadCounts) (b : Lists) (head : List ℤ) (lines : ℕ) (S : List ℕ) (n : ℕ)
      → first_missing m (pop_lines_reads E h b head lines S) ≡ need n → first_missing m (pop_reads E h b head) ≡ need n

  abbrev pub SummaryNamedLaw : Type 0
  SummaryNamedLaw =
      (m : ℕ → Bool) (parent : List ℕ) (h : HeadCounts) (c : ListCounts) (staged : List ℕ) (e : ListCounts) (table : List ℕ) (head : List ℤ) (lines : ℕ) (S : List ℕ) (n : ℕ)
      → first_missing m (summary_reads E parent h c staged e table head lines S) ≡ need n → first_missing m (tally_of_reads E parent h c staged e table head) ≡ need n

  -- ---- how much a spend reads
  -- a row is read only if its line's last absolute value is not below the target, and with rising lines only if its first is not above it
  abbrev pub SpanLaw : Type 0
  SpanLaw =
      (d : Direction) (parent : List ℕ) (h : HeadCounts) (target : ℤ) (c : ListCounts) (staged : List ℕ) (e : ListCounts) (table : List ℕ) (head : List ℤ) (lines : ℕ) (S : List ℕ) (n : ℕ)
      → In n (flip_lines_reads E d parent h target c staged e table head lines S)
      → (nat_abs target ≤ at_line S n 1) × (Rising S (nat_abs h.spills) → at_line S n 0 ≤ nat_abs target)

  -- and another row is read behind it only if the target is its first absolute value
  abbrev pub OneRowLaw : Type 0
  OneRowLaw =
      (d : Direction) (parent : List ℕ) (h : HeadCounts) (target : ℤ) (c : ListCounts) (staged : List ℕ) (e : ListCounts) (table : List ℕ) (head : List ℤ) (lines : ℕ) (S : List ℕ) (n k : ℕ) (ns : List ℕ)
      → Rising S (nat_abs h.spills) → flip_lines_reads E d parent h target c staged e table head lines S ≡ n ∷ k ∷ ns → at_line S n 0 ≡ nat_abs target

-- all of it
pub record WorkingSummaries (E : Edition) : Type 0 where
  pub spends_and_unspends : FlipLinesLaw E
  pub pops : PopLinesLaw E
  pub fresh_summaries : SummaryLaw E
  pub pop_named : PopNamedLaw E
  pub summary_named : SummaryNamedLaw E
  pub spans : SpanLaw E
  pub one_row : OneRowLaw E
