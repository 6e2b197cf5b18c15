-- `distinct_keys::keys_differ_few` meets its contract: the trees start empty.
use Rattle.std.proofs.Common.{arith}
use Rattle.distinct_keys.proofs.TreeLaws.{zeros}
use Rattle.distinct_keys.proofs.keys_differ_few.Goals as goal

pub grow-requires : goal.grow-requires
grow-requires c =
    (c.requires.0, c.requires.1, omega arith, omega arith, omega arith, zeros 511)
