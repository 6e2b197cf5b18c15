-- The figures of the rows below n are in t, and the rest are still to count.
use Prim.Native.Nat.{◌+◌, ◌*◌, ◌-◌, ◌≤◌}
use mathlib.Core.Path.{◌≡◌}
use Rattle.buffer_core.specs.Edition.{edition_of}
use Rattle.buffer_core.specs.Spills.{sources}
use Rattle.buffer_core.specs.Flip.{row_checked}
use Rattle.row_tallies.specs.Internal.{tally_rows}
use Rattle.row_tallies.proofs.count_rows.Given as goal

abbrev pub invariant-loop-n : goal.invariant-loop-n
invariant-loop-n l =
    let f = row_checked (edition_of l.edition) (sources l.parent l.staged l.staged_count l.table l.table_count) in
    (l.t.unspent ≤ 512 + l.n * 512) × (l.t.spent ≤ 512 + l.n * 512) × (l.t.unknown ≤ 512 + l.n * 512)
    × (tally_rows f 0 l.spills l.initial.t ≡ tally_rows f l.n (l.spills - l.n) l.t)
