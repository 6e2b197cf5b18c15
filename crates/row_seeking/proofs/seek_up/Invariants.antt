-- The rows below n are there, and the first missing one is among those from n on.
use Prim.Native.Nat.{◌-◌}
use mathlib.Core.Path.{◌≡◌}
use Rattle.segment_id.specs.declared.Kind.TheVariants.{Box}
use Rattle.buffer_core.specs.Edition.{edition_of}
use Rattle.buffer_core.specs.Spills.{sources}
use Rattle.buffer_core.specs.Flip.{row_checked}
use Rattle.working_set.specs.Reads.{up_reads}
use Rattle.row_seeking.specs.Seeking.{among}
use Rattle.row_seeking.proofs.seek_up.Given as goal

abbrev pub invariant-loop-n : goal.invariant-loop-n
invariant-loop-n l =
    let w = sources l.parent l.staged l.staged_count l.table l.table_count in
    let f = row_checked (edition_of l.edition) w in
    among (edition_of l.edition) Box w (up_reads f 0 l.spills) ≡ among (edition_of l.edition) Box w (up_reads f l.n (l.spills - l.n))
