-- Refusal 25 is tested, and what passed is what the core asks.
use mathlib.Core.Path.{sym, ◌∙◌}
use mir.Syntax.{w64}
use Rattle.signed.proofs.SignedLaws.{back}
use Rattle.append_core.proofs.KeepLaws.{append_ready}
use Rattle.append_calls.proofs.CallLaws.{append_25, append_goes}
use borrow.Author.Rules.{rules}
use Rattle.append_calls.proofs.append_entry.Goals as goal

pub append-requires : goal.append-requires
append-requires c =
    let a = c.args in
    append_ready a.edition a.counts a.staged_counts a.head.now a.staged.now (sym c.append_ok.ensures ∙ c.if-append_ok.true)

pub returns-then-append_ok : goal.returns-then-append_ok
returns-then-append_ok c =
    let a = c.args in
    append_goes a.edition a.kind a.parent.now a.counts a.number a.staged_counts a.head.now a.staged.now
    (sym c.append_ok.ensures ∙ c.if-append_ok.true) _ (rw (back w64 a.number (search rules)) at c.append.ensures)

pub returns : goal.returns
returns c =
    let a = c.args in
    append_25 a.edition a.kind a.parent.now a.counts a.number a.staged_counts a.head.now a.staged.now (sym c.append_ok.ensures ∙ c.if-append_ok.false)
