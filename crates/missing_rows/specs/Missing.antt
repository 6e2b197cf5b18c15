-- "which spill and key a spend, pop, tally or page needs next that is neither staged nor in W, or that nothing is missing": the first row that the call reads
-- and that is missing. Its key is the one that its parent, kind and spill number name. Where the call refuses before it reads a row, and where it reads none, nothing is missing.
use Rattle.std.specs.Prelude.{ℕ, List, ℤ, Option}
use Rattle.index_types.specs.declared.HeadCounts.{HeadCounts}
use Rattle.index_types.specs.declared.ListCounts.{ListCounts}
use Rattle.segment_id.specs.declared.Kind.{Kind}
use Rattle.segment_id.specs.declared.Kind.TheVariants.{Box}
use Rattle.buffer_core.specs.declared.Direction.{Direction}
use Rattle.buffer_core.specs.Edition.{Edition}
use Rattle.buffer_core.specs.Spills.{sources}
use Rattle.buffer_core.specs.Pop.{lists}
use Rattle.working_set.specs.Reads.{flip_reads, pop_reads, tally_of_reads, page_of_reads}
use Rattle.row_seeking.specs.Seeking.{among}

module _ (E : Edition) where
  abbrev pub missing_for_flip : Direction → (parent : List ℕ) → HeadCounts → ℤ → ListCounts → (staged : List ℕ) → ListCounts → (work : List ℕ) → List ℤ → Option ℕ
  missing_for_flip d parent h target c staged e work head =
      among E Box (sources parent staged c.count work e.count) (flip_reads E d parent h target c staged e work head)

  abbrev pub missing_for_pop : Kind → (parent : List ℕ) → HeadCounts → ListCounts → (staged : List ℕ) → ListCounts → (work : List ℕ) → ListCounts → (deleted : List ℕ) → List ℤ → Option ℕ
  missing_for_pop kind parent h c staged e work k deleted head =
      among E kind (sources parent staged c.count work e.count) (pop_reads E h (lists c staged e work k deleted) head)

  abbrev pub missing_for_tally : (parent : List ℕ) → HeadCounts → ListCounts → (staged : List ℕ) → ListCounts → (work : List ℕ) → List ℤ → Option ℕ
  missing_for_tally parent h c staged e work head =
      among E Box (sources parent staged c.count work e.count) (tally_of_reads E parent h c staged e work head)

  abbrev pub missing_for_page : (parent : List ℕ) → HeadCounts → ListCounts → (staged : List ℕ) → ListCounts → (work : List ℕ) → List ℤ → (n : ℕ) → List ℤ → Option ℕ
  missing_for_page parent h c staged e work head n out =
      among E Box (sources parent staged c.count work e.count) (page_of_reads E parent h c staged e work head n out)
