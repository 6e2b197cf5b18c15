-- The keys passed differ, and stand in the trees.
use Rattle.std.proofs.Common.{length}
use Rattle.distinct_keys.proofs.TreeLaws.{Passed}
use Rattle.distinct_keys.proofs.grow.Given as goal

abbrev pub invariant-loop-i : goal.invariant-loop-i
invariant-loop-i l = Passed l.size l.list l.links l.roots (length l.fn.links) l.i
