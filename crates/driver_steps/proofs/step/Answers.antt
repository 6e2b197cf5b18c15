use mir.Syntax.{w64}
use borrow.Author.Rules.{rules}
use Rattle.signed.proofs.SignedLaws.{back}
use Rattle.driver_steps.proofs.MoveLaws.{balance_returns}
use Rattle.driver_steps.proofs.step.Goals as goal

pub returns-in-Balance : goal.returns-in-Balance
returns-in-Balance c =
    let a = c.args in
    balance_returns a.s.now a.m a.ids.now a.numbers.now a.lengths.now a.spills.now a.staged.now a.table.now a.deleted.now a.counts c.in-Balance.adding c.in-Balance.p c.in-Balance.nanos _ c.in-Balance.t c.in-Balance.n _ _ _ _ c.in-Balance.is (back w64 c.in-Balance.nanos (search (rules, c.in-Balance.known_told-in-Balance-1-own.given))) c.change_with-said.ensures
