-- Of the i heights passed, the n that are kept stand in front, and what is behind i is as it was.
use Rattle.undo_pruning.proofs.PruneLaws.{Passed}
use Rattle.undo_pruning.proofs.compact.Given as goal

abbrev pub invariant-loop-i : goal.invariant-loop-i
invariant-loop-i l = Passed l.lowest l.i l.fn.heights l.n l.heights
