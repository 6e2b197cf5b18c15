use borrow.Author.Rules.{rules}
use mir.Syntax.{w64}
use Rattle.signed.proofs.SignedLaws.{back}
use Rattle.run_steps.proofs.StepLaws.{append_returns, flip_returns, pop_returns, flush_returns, change_returns, bad_returns, cut_returns, end_returns}
use Rattle.run_steps.proofs.step.Goals as goal

pub returns-in-Append : goal.returns-in-Append
returns-in-Append c =
    let a = c.args in
    append_returns a.call a.ids.now a.numbers.now a.lengths.now a.spills.now a.staged.now a.table.now a.deleted.now a.counts c.in-Append.kind c.in-Append.p c.in-Append.n _ _ _ _ _ _ c.in-Append.is (back w64 c.in-Append.n (search rules)) c.append_step.ensures

pub returns-in-Flip : goal.returns-in-Flip
returns-in-Flip c =
    let a = c.args in
    flip_returns a.call a.ids.now a.numbers.now a.lengths.now a.spills.now a.staged.now a.table.now a.deleted.now a.counts c.in-Flip.direction c.in-Flip.p c.in-Flip.n _ _ _ _ c.in-Flip.is (back w64 c.in-Flip.n (search (rules, c.in-Flip.known_told-in-Flip-1-own.given))) c.flip_step.ensures

pub returns-in-Pop : goal.returns-in-Pop
returns-in-Pop c =
    let a = c.args in
    pop_returns a.call a.ids.now a.numbers.now a.lengths.now a.spills.now a.staged.now a.table.now a.deleted.now a.counts c.in-Pop.kind c.in-Pop.p _ _ _ _ _ _ c.in-Pop.is c.pop_step.ensures

pub returns-in-Flush : goal.returns-in-Flush
returns-in-Flush c =
    let a = c.args in
    flush_returns a.call a.ids.now a.numbers.now a.lengths.now a.spills.now a.staged.now a.table.now a.deleted.now a.counts _ _ _ _ c.in-Flush.is c.flush_step.ensures

pub returns-in-Change : goal.returns-in-Change
returns-in-Change c =
    let a = c.args in
    change_returns a.call a.ids.now a.numbers.now a.lengths.now a.spills.now a.staged.now a.table.now a.deleted.now a.counts c.in-Change.adding c.in-Change.p c.in-Change.nanos _ c.in-Change.token c.in-Change.amount _ _ _ _ _ c.in-Change.is (back w64 c.in-Change.nanos (search (rules, c.in-Change.known_told-in-Change-1-own.given))) (back w64 c.in-Change.amount (search (rules, c.in-Change.known_told-in-Change-1-own.given))) c.change_step-said.ensures

pub returns-in-Bad : goal.returns-in-Bad
returns-in-Bad c =
    let a = c.args in
    bad_returns a.call a.ids.now a.numbers.now a.lengths.now a.spills.now a.staged.now a.table.now a.deleted.now a.counts _ c.no_call.ensures c.in-Bad.is

pub returns-in-Cut : goal.returns-in-Cut
returns-in-Cut c =
    let a = c.args in
    cut_returns a.call a.ids.now a.numbers.now a.lengths.now a.spills.now a.staged.now a.table.now a.deleted.now a.counts _ c.no_call-in-Cut.ensures c.in-Cut.is

pub returns-in-End : goal.returns-in-End
returns-in-End c =
    let a = c.args in
    end_returns a.call a.ids.now a.numbers.now a.lengths.now a.spills.now a.staged.now a.table.now a.deleted.now a.counts _ c.no_call-in-End.ensures c.in-End.is
