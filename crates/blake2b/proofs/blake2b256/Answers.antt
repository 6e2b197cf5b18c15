-- The output is 32 bytes long, so that the digest written there is the one of 32 bytes.
use mathlib.Core.Path.{◌∙◌, sym, ap}
use lib.ListN.{length}
use Rattle.blake2b_core.specs.Blake2b.{blake2b256}
use Rattle.blake2b_core.proofs.DigestLaws.{digest256_length}
use Rattle.blake2b.proofs.blake2b256.Goals as goal

pub returns : goal.returns
unfolding blake2b256
returns c = (c.digest_into.ensures, sym (ap length c.digest_into.ensures ∙ digest256_length _))
