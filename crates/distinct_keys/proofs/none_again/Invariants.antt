-- The keys passed are none of the block.
use Rattle.distinct_keys.specs.Internal.{NoneAgain}
use Rattle.distinct_keys.proofs.none_again.Given as goal

abbrev pub invariant-loop-i : goal.invariant-loop-i
invariant-loop-i l = NoneAgain l.size l.list l.block l.i
