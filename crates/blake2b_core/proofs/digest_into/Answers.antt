-- The bytes of the final state for a digest as long as the output.
use mathlib.Core.Path.{◌∙◌}
use lib.ListN.{length}
use Rattle.blake2b_spec.specs.Blake2b.{tabulate, byte_at, blake2b}
use Rattle.blake2b_core.proofs.digest_into.Goals as goal

pub returns : goal.returns
unfolding blake2b
returns c = c.bytes_into.ensures ∙ (λ i. tabulate (byte_at (c.state-h.ensures i)) (length c.args.out.now))
