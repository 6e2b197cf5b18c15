-- The lines of the rows below n are written, and the rest are still to write.
use Prim.Native.Nat.{◌-◌}
use mathlib.Core.Path.{◌≡◌}
use Rattle.buffer_core.specs.Edition.{edition_of}
use Rattle.buffer_core.specs.Spills.{sources}
use Rattle.buffer_core.specs.Flip.{row_checked}
use Rattle.summary_rows.specs.Internal.{row_lines}
use Rattle.summary_rows.proofs.put_rows.Given as goal

abbrev pub invariant-loop-n : goal.invariant-loop-n
invariant-loop-n l =
    let f = row_checked (edition_of l.edition) (sources l.parent l.staged l.staged_count l.table l.table_count) in
    row_lines f 0 l.spills l.initial.summary ≡ row_lines f l.n (l.spills - l.n) l.summary
