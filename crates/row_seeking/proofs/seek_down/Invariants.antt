-- The rows of the walk so far are there, and the first missing one is among those below.
use mathlib.Core.Path.{◌≡◌}
use Rattle.segment_id.specs.declared.Kind.TheVariants.{Box}
use Rattle.buffer_core.specs.Edition.{edition_of}
use Rattle.buffer_core.specs.Spills.{sources}
use Rattle.buffer_core.specs.Flip.{look_at}
use Rattle.working_set.specs.Reads.{walk_reads}
use Rattle.row_seeking.specs.Seeking.{among}
use Rattle.row_seeking.proofs.seek_down.Given as goal

abbrev pub invariant-loop-low : goal.invariant-loop-low
invariant-loop-low l =
    let w = sources l.parent l.staged l.staged_count l.table l.table_count in
    let g = look_at (edition_of l.edition) w l.target l.spend in
    among (edition_of l.edition) Box w (walk_reads g l.from) ≡ among (edition_of l.edition) Box w (walk_reads g l.low)
