-- One store, of the sum modulo 2^64.
use Rattle.blake2b_spec.specs.Blake2b.{add}
use Rattle.blake2b_compression.proofs.add.Goals as goal

pub returns : goal.returns
unfolding add
returns c = cc
