use Rattle.std.proofs.Common.{refl}
use Rattle.records.proofs.KeyLaws.{clash}
use Rattle.distinct_keys.proofs.TreeLaws.{none_again_more, again}
use Rattle.distinct_keys.proofs.none_again.Goals as goal

pub returns-in-None : goal.returns-in-None
returns-in-None c =
    let a = c.args in
    (λ e. absurd (clash e refl), λ e. again a.size a.list.now a.block c.loop-i.i c.requires.0 a.count c.loop-i.auto.i c.loop-i-test.true c.in-None.ensures)

pub loop-i-preserved : goal.loop-i-preserved
loop-i-preserved c = none_again_more c.args.size c.args.list.now c.args.block c.loop-i.i c.requires.0 c.loop-i.invariant c.in_default.ensures.0
