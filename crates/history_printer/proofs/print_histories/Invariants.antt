use Rattle.std.proofs.Common.{◌≤◌, ◌-◌}
use Rattle.history_printer.proofs.print_histories.Given as goal

abbrev pub invariant-loop-at : goal.invariant-loop-at
invariant-loop-at g l = l.at ≤ l.end

abbrev pub decreases-loop-at : goal.decreases-loop-at
decreases-loop-at g l = l.end - l.at
