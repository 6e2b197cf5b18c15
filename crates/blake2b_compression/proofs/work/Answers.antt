-- The sixteen words are those of the definition; the counter's high word is zero.
use Rattle.blake2b_spec.specs.Blake2b.{tabulate, iv}
use Rattle.blake2b_compression.proofs.CompressionLaws.{work_law}
use Rattle.blake2b_compression.proofs.work.Goals as goal

pub returns : goal.returns
unfolding tabulate iv
returns c = work_law _ _ _ _ c.ranges.t.fits c.flag-f.ensures
