use mathlib.Core.Path.{ap, ◌∙◌}
use Rattle.signed.proofs.SignedLaws.{back64}
use Rattle.calls.specs.Calls.{number_at, signed_of}
use Rattle.calls.proofs.number_at.Reads as reads
use Rattle.calls.proofs.number_at.Lts as lts
use Rattle.big_endian.proofs.get_u64.Reads as get_u64_reads
use Rattle.calls.proofs.signed_of.Reads as signed_of_reads
use Rattle.calls.proofs.number_at.Goals as goal

-- src/lib.rt:45:15

-- src/lib.rt:45:5

-- src/lib.rt:41:1

pub returns : goal.returns
unfolding number_at
returns c = back64 c.signed_of.result c.signed_of.type_inv ∙ c.signed_of.ensures ∙ ap signed_of c.get_u64.ensures
