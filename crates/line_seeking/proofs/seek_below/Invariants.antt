-- The rows read so far are there, and the first missing one is among those of the lines below.
use mathlib.Core.Path.{◌≡◌}
use Rattle.segment_id.specs.declared.Kind.TheVariants.{Box}
use Rattle.buffer_core.specs.Edition.{edition_of}
use Rattle.buffer_core.specs.Spills.{sources}
use Rattle.working_summaries.specs.Reads.{line_reads}
use Rattle.row_seeking.specs.Seeking.{among}
use Rattle.line_seeking.proofs.seek_below.Given as goal

abbrev pub invariant-loop-low : goal.invariant-loop-low
invariant-loop-low l =
    let w = sources l.parent l.staged l.staged_count l.table l.table_count in
    let reads = line_reads (edition_of l.edition) w l.summary l.target l.spend in
    among (edition_of l.edition) Box w (reads l.from) ≡ among (edition_of l.edition) Box w (reads l.low)
