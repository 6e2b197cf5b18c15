-- The four mixings are those of the definition, in order.
use Rattle.std.proofs.Common.{add_assoc}
use Rattle.blake2b_spec.specs.Blake2b.{columns}
use Rattle.blake2b_compression.proofs.columns.Goals as goal

pub returns : goal.returns
unfolding columns
returns c = rw (c.mix_words-4.ensures, c.mix_words-3.ensures, c.mix_words-2.ensures, c.mix_words.ensures) (simp add_assoc)
