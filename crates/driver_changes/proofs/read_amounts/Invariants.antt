-- The first k amounts are read, and those left are still to read.
use Rattle.std.proofs.Common.{◌≡◌, ◌+◌, ◌*◌, ◌-◌, ◌++◌, length, take}
use Rattle.driver_changes.specs.Internal.{amounts_at}
use Rattle.driver_changes.proofs.read_amounts.Given as goal

abbrev pub invariant-loop-k : goal.invariant-loop-k
invariant-loop-k l = amounts_at l.s l.a l.n ≡ take l.k l.amount-items ++ amounts_at l.s (l.a + l.k * 8) (l.n - l.k)
