use Rattle.std.proofs.Common.{◌≡◌, sym, refl, arith}
use Rattle.records.proofs.KeyLaws.{clash}
use Rattle.distinct_keys.proofs.TreeLaws.{passed_more, passed_stop, passed_all}
use Rattle.distinct_keys.proofs.grow.Goals as goal

pub returns-in_default : goal.returns-in_default
returns-in_default c =
    let a = c.args in
    (sym (passed_stop a.size a.list.now _ a.roots _ c.loop-i.i c.requires.0 c.loop-i.invariant a.count c.loop-i-test.true c.in_default.ensures), λ e. absurd (clash e refl))

pub loop-i-preserved : goal.loop-i-preserved
loop-i-preserved c =
    let f = c.in-Some.ensures in
    passed_more c.args.size c.args.list.now _ c.args.roots _ c.loop-i.i c.requires.0 c.loop-i.invariant c.in-Some.slot _ (omega (arith, f.1.below)) f.0 f.1 refl

pub returns : goal.returns
returns c =
    let a = c.args in
    let e : c.loop-i.i ≡ a.count = omega arith in
    (sym (passed_all a.size a.list.now _ a.roots _ c.loop-i.i c.requires.0 c.loop-i.invariant a.count e), λ t. rw e at c.loop-i.invariant.grown)
