-- From the laws of the rows that are read.
use Prim.Native.Nat.{ℕ}
use mathlib.Core.Path.{◌≡◌, refl, ap}
use native.Mathlib.Omega.{arith}
use Rattle.std.specs.Prelude.{Some}
use Rattle.index_types.specs.declared.RowEdition.{RowEdition}
use Rattle.segment_id.specs.declared.Kind.TheVariants.{Box}
use Rattle.buffer_core.specs.Edition.{edition_of}
use Rattle.buffer_core.specs.Spills.{sources}
use Rattle.buffer_core.specs.Pop.{lists}
use Rattle.working_set.specs.Part.{lacks}
use Rattle.working_set.specs.Reads.{Need, nothing, need, first_missing}
use Rattle.working_summaries.specs.Reads.{pop_lines_reads, summary_reads}
use Rattle.working_summaries.proofs.WorkingSummaries.{working_summaries}
use Rattle.row_seeking.specs.Seeking.{told}
use Rattle.missing_with_summary.specs.Laws.{PopFetchLaw, SummaryFetchLaw}

needed : (x : Need) (n : ℕ) → told x ≡ Some n → x ≡ need n
needed nothing n e = let z : ◌≡◌ {A = ℕ} 0 1 = cc in absurd (omega arith)
needed (need k) n e = cc

pub pop_fetch_law : (v : RowEdition) → PopFetchLaw (edition_of v)
pop_fetch_law v parent h c staged e work k deleted head lines S n q =
    ap told ((working_summaries v).pop_named (lacks (edition_of v) Box (sources parent staged c.count work e.count)) h (lists c staged e work k deleted) head lines S n (needed _ n q))

pub summary_fetch_law : (v : RowEdition) → SummaryFetchLaw (edition_of v)
summary_fetch_law v parent h c staged e work head lines S n q =
    ap told ((working_summaries v).summary_named (lacks (edition_of v) Box (sources parent staged c.count work e.count)) parent h c staged e work head lines S n (needed _ n q))
