-- The work vector, the rounds and the fold, in order.
use Rattle.blake2b_spec.specs.Blake2b.{compress}
use Rattle.blake2b_compression.proofs.compress.Goals as goal

pub returns : goal.returns
unfolding compress
returns c = rw (c.fold.ensures, c.rounds.ensures, c.work-v.ensures)
