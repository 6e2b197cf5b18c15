-- The counts of the lines below n are in t, and the rest are still to add.
use Prim.Native.Nat.{◌+◌, ◌*◌, ◌-◌, ◌≤◌}
use mathlib.Core.Path.{◌≡◌}
use Rattle.summary_core.specs.Tally.{add_lines}
use Rattle.summary_tally.proofs.add_lines.Given as goal

abbrev pub invariant-loop-n : goal.invariant-loop-n
invariant-loop-n l =
    (l.t.unspent ≤ 512 + l.n * 512) × (l.t.spent ≤ 512 + l.n * 512) × (l.t.unknown ≤ 512 + l.n * 512)
    × (add_lines l.summary 0 l.spills l.initial.t ≡ add_lines l.summary l.n (l.spills - l.n) l.t)
