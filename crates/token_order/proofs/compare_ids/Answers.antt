use Rattle.std.proofs.Common.{◌∙◌}
use Rattle.token_order.proofs.IdOrder.{id_turn}
use Rattle.token_order.proofs.compare_ids.Goals as goal

pub loop-k-preserved : goal.loop-k-preserved
loop-k-preserved c =
    let a = c.args in
    c.loop-k.invariant ∙ id_turn a.a.now a.b.now a.i a.j c.requires.0 c.requires.1 c.loop-k.k _ c.loop-k-test.true c.in-Equal.ensures
