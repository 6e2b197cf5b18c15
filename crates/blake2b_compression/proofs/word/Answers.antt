-- The table's test gives the bound of the lookup.
use Rattle.blake2b_spec.specs.Blake2b.{word}
use Rattle.blake2b_spec.proofs.Table.{below}
use Rattle.blake2b_compression.proofs.word.Goals as goal

pub bounds-m-sigma : goal.bounds-m-sigma
bounds-m-sigma c = below c.args.sigma.now c.args.i c.requires

pub returns : goal.returns
unfolding word
returns c = rw c.requires.1
