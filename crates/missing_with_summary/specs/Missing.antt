-- Which row a spend or an unspend with a summary needs next: the first row that it reads and that is missing. Where it refuses before it reads a row, and where it
-- reads none, nothing is missing.
use Rattle.std.specs.Prelude.{ℕ, List, ℤ, Option}
use Rattle.index_types.specs.declared.HeadCounts.{HeadCounts}
use Rattle.index_types.specs.declared.ListCounts.{ListCounts}
use Rattle.segment_id.specs.declared.Kind.TheVariants.{Box}
use Rattle.buffer_core.specs.declared.Direction.{Direction}
use Rattle.buffer_core.specs.Edition.{Edition}
use Rattle.buffer_core.specs.Spills.{sources}
use Rattle.working_summaries.specs.Reads.{flip_lines_reads}
use Rattle.row_seeking.specs.Seeking.{among}

module _ (E : Edition) where
  abbrev pub missing_for_flip_with_summary : Direction → (parent : List ℕ) → HeadCounts → ℤ → ListCounts → (staged : List ℕ) → ListCounts → (work : List ℕ) → List ℤ → (lines : ℕ) → List ℕ → Option ℕ
  missing_for_flip_with_summary d parent h target c staged e work head lines S =
      among E Box (sources parent staged c.count work e.count) (flip_lines_reads E d parent h target c staged e work head lines S)
