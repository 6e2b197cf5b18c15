-- By the laws of the loop that tabulates.
use Rattle.std.proofs.Common.{arith}
use Rattle.blake2b_spec.specs.Blake2b.{byte_at}
use Rattle.blake2b_spec.proofs.TabulateLaws.{tabulate_start, tabulate_turn}
use Rattle.blake2b_core.proofs.bytes_into.Goals as goal

pub loop-i-init : goal.loop-i-init
loop-i-init c = tabulate_start _

pub loop-i-preserved : goal.loop-i-preserved
unfolding byte_at
loop-i-preserved c = tabulate_turn _ _ _ _ (omega arith) c.loop-i.invariant c.byte_of.ensures
