-- The rows below n are taken, and the rest decide.
use Prim.Native.Nat.{◌-◌}
use mathlib.Core.Path.{◌≡◌}
use Rattle.buffer_core.specs.Edition.{edition_of}
use Rattle.buffer_core.specs.Spills.{sources}
use Rattle.buffer_core.specs.Rows.{rows_up}
use Rattle.spill_rows.specs.Internal.{read_of}
use Rattle.side_order.specs.Side.{row_taken}
use Rattle.side_order.proofs.check_rows.Given as goal

abbrev pub invariant-loop-n : goal.invariant-loop-n
invariant-loop-n l =
    let f = row_taken (edition_of l.edition) l.kind (sources l.parent l.staged l.staged_count l.table l.table_count) in
    read_of (rows_up f 0 l.spills) ≡ read_of (rows_up f l.n (l.spills - l.n))
