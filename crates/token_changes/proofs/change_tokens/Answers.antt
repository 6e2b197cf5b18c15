use Rattle.std.proofs.Common.{pos, get_or, sym, subst, ◌∙◌, rules, arith}
use Rattle.signed.proofs.SignedLaws.{back64}
use Rattle.balance_tokens.specs.Tokens.{id_at}
use Rattle.balance_tokens.proofs.RunLaws.{run_on, run_refused, run_end, Few, few_change}
use Rattle.token_changes.proofs.change_tokens.Invariants.{holding}
use Rattle.token_changes.proofs.change_tokens.Goals as goal

pub returns-in-Err : goal.returns-in-Err
returns-in-Err c =
    let l = c.loop-j in
    let a = c.args in
    let d = rw (back64 (get_or a.amounts.now l.j (pos 0)) (omega arith)) at c.in-Err.ensures in
    sym (l.invariant.3 ∙ run_refused a.adding a.ids.now a.amounts.now l.j a.n (holding l.table l.sums l.held) c.loop-j-test.true _ d)

pub loop-j-preserved : goal.loop-j-preserved
loop-j-preserved c =
    let l = c.loop-j in
    let a = c.args in
    let h = holding l.table l.sums l.held in
    let d = rw (back64 (get_or a.amounts.now l.j (pos 0)) (omega arith)) at c.in-Ok.ensures in (
      search rules,
      search rules,
      subst Few (sym d) (few_change h l.invariant.2 a.adding (id_at a.ids.now l.j) (get_or a.amounts.now l.j (pos 0))),
      l.invariant.3 ∙ run_on a.adding a.ids.now a.amounts.now l.j a.n h c.loop-j-test.true _ d,
    )

pub returns : goal.returns
returns c =
    let l = c.loop-j in
    let a = c.args in
    sym (l.invariant.3 ∙ run_end a.adding a.ids.now a.amounts.now l.j a.n (holding l.table l.sums l.held) c.loop-j-test.false)
