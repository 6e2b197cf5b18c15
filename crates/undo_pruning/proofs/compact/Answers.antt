use Rattle.std.proofs.Common.{◌≡◌, refl, arith}
use Rattle.undo_pruning.proofs.PruneLaws.{passed_none, passed_kept, passed_dropped, passed_all}
use Rattle.undo_pruning.proofs.compact.Goals as goal
use Rattle.undo_pruning.proofs.compact.Goals.{then-lowest-h, else-lowest-h}

pub loop-i-init : goal.loop-i-init
loop-i-init c = passed_none _ _

pub loop-i-preserved : goal.loop-i-preserved
loop-i-preserved c =
    let l = c.loop-i in
    let a = c.args in
    elim c.if-lowest-h.branch [
      | then-lowest-h w ↦ passed_kept a.lowest l.i l.n a.heights.now l.heights (omega arith) l.invariant _ c.if-lowest-h.n refl w.if-lowest-h.true w.n-is
      | else-lowest-h w ↦ passed_dropped a.lowest l.i l.n a.heights.now l.heights (omega arith) l.invariant _ c.if-lowest-h.n refl w.if-lowest-h.false w.n-is
    ]

pub returns : goal.returns
returns c =
    let e : c.loop-i.i ≡ c.args.count = omega arith in
    passed_all _ _ _ _ _ (rw e at c.loop-i.invariant)
