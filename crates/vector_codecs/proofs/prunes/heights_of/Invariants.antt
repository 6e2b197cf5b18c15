-- The array keeps its length.
use Rattle.std.proofs.Common.{◌≡◌, length}
use Rattle.vector_codecs.proofs.prunes.heights_of.Given as goal

abbrev pub invariant-loop-i : goal.invariant-loop-i
invariant-loop-i l = 512 ≡ length l.heights
