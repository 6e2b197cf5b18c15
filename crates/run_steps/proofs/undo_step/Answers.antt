-- A flip, a pop or a flush.
use borrow.Author.Rules.{rules}
use mir.Syntax.{w64}
use Rattle.signed.proofs.SignedLaws.{back}
use Rattle.run_steps.proofs.StepLaws.{flip_returns, pop_returns, flush_returns}
use Rattle.run_steps.proofs.undo_step.Goals as goal

pub returns-in-Flip : goal.returns-in-Flip
returns-in-Flip c =
    let a = c.args in
    flip_returns a.call a.ids.now a.numbers.now a.lengths.now a.spills.now a.staged.now a.table.now a.deleted.now a.counts c.in-Flip.direction c.in-Flip.p c.in-Flip.n _ _ _ _ c.in-Flip.is (back w64 c.in-Flip.n (search rules)) c.flip_step.ensures

pub returns-in-Pop : goal.returns-in-Pop
returns-in-Pop c =
    let a = c.args in
    pop_returns a.call a.ids.now a.numbers.now a.lengths.now a.spills.now a.staged.now a.table.now a.deleted.now a.counts c.in-Pop.kind c.in-Pop.p _ _ _ _ _ _ c.in-Pop.is c.pop_step.ensures

pub returns-in-Flush : goal.returns-in-Flush
returns-in-Flush c =
    let a = c.args in
    flush_returns a.call a.ids.now a.numbers.now a.lengths.now a.spills.now a.staged.now a.table.now a.deleted.now a.counts _ _ _ _ c.in-Flush.is c.flush_step.ensures
