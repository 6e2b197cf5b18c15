-- The row that a pop with a summary lacks is the one that `missing_for_pop` names, and the one that a summary made afresh lacks that of `missing_for_tally`.
use Rattle.std.specs.Prelude.{ℕ, ◌≡◌, List, ℤ, Some}
use Rattle.index_types.specs.declared.HeadCounts.{HeadCounts}
use Rattle.index_types.specs.declared.ListCounts.{ListCounts}
use Rattle.segment_id.specs.declared.Kind.TheVariants.{Box}
use Rattle.buffer_core.specs.Edition.{Edition}
use Rattle.buffer_core.specs.Spills.{sources}
use Rattle.buffer_core.specs.Pop.{lists}
use Rattle.working_summaries.specs.Reads.{pop_lines_reads, summary_reads}
use Rattle.row_seeking.specs.Seeking.{among}
use Rattle.missing_rows.specs.Missing.{missing_for_pop, missing_for_tally}

module _ (E : Edition) where
  abbrev pub PopFetchLaw : Type 0
  PopFetchLaw =
      (parent : List ℕ) (h : HeadCounts) (c : ListCounts) (staged : List ℕ) (e : ListCounts) (work : List ℕ) (k : ListCounts) (deleted : List ℕ) (head : List ℤ) (lines : ℕ) (S : List ℕ) (n : ℕ)
      → among E Box (sources parent staged c.count work e.count) (pop_lines_reads E h (lists c staged e work k deleted) head lines S) ≡ Some n
      → missing_for_pop E Box parent h c staged e work k deleted head ≡ Some n

  abbrev pub SummaryFetchLaw : Type 0
  SummaryFetchLaw =
      (parent : List ℕ) (h : HeadCounts) (c : ListCounts) (staged : List ℕ) (e : ListCounts) (work : List ℕ) (head : List ℤ) (lines : ℕ) (S : List ℕ) (n : ℕ)
      → among E Box (sources parent staged c.count work e.count) (summary_reads E parent h c staged e work head lines S) ≡ Some n
      → missing_for_tally E parent h c staged e work head ≡ Some n
