-- The last block's flag inverts the word.
use Rattle.blake2b_spec.specs.Blake2b.{iv, flagged}
use Rattle.blake2b_compression.proofs.flag.Goals as goal

pub returns-then-last : goal.returns-then-last
unfolding iv flagged
returns-then-last c = rw c.if-last.true

pub returns-else-last : goal.returns-else-last
unfolding iv flagged
returns-else-last c = rw c.if-last.false
