-- One parent more that passes, or one that does not.
use Rattle.std.proofs.Common.{◌≡◌, true, false, refl, sym, ◌∙◌, arith, rules}
use Rattle.call_steps.specs.State.{lengths_ok}
use Rattle.run_checks.proofs.CheckLaws.{one_more, one_refused}
use Rattle.run_checks.proofs.lengths_ok.Goals as goal

pub loop-p-init : goal.loop-p-init
unfolding lengths_ok
loop-p-init c = refl

pub returns-then-not-counts_ok : goal.returns-then-not-counts_ok
returns-then-not-counts_ok c =
    let e : c.counts_ok.result ≡ false = search rules in
    one_refused _ _ c.args.lengths.now c.loop-p-test.true (sym c.counts_ok.ensures ∙ e)

pub loop-p-preserved : goal.loop-p-preserved
loop-p-preserved c =
    let e : c.counts_ok.result ≡ true = search rules in
    one_more _ _ (sym c.counts_ok.ensures ∙ e) c.loop-p.invariant

pub returns : goal.returns
returns c =
    let e : c.loop-p.p ≡ c.args.parents = omega arith in
    sym (rw e at c.loop-p.invariant)
