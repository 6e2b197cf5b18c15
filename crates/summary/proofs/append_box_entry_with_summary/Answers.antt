-- Refusal 25 is tested, and what passed is what the core asks.
use mathlib.Core.Path.{sym, ◌∙◌}
use mir.Syntax.{w64}
use Rattle.signed.proofs.SignedLaws.{back}
use Rattle.summary_calls.proofs.CallLaws.{append_25, append_goes, append_asks}
use borrow.Author.Rules.{rules}
use Rattle.summary.proofs.append_box_entry_with_summary.Goals as goal

pub append-requires : goal.append-requires
append-requires c =
    let a = c.args in
    append_asks a.lines a.summary.now a.edition a.parent.now a.counts a.number.0 a.staged_counts a.head.now a.staged.now (sym c.append_ok.ensures ∙ c.if-append_ok.true)

pub returns-then-append_ok : goal.returns-then-append_ok
returns-then-append_ok c =
    let a = c.args in
    append_goes a.lines a.summary.now a.edition a.parent.now a.counts a.number.0 a.staged_counts a.head.now a.staged.now (sym c.append_ok.ensures ∙ c.if-append_ok.true) _ (rw (back w64 a.number.0 (search rules)) at c.append.ensures)

pub returns : goal.returns
returns c =
    let a = c.args in
    append_25 a.lines a.summary.now a.edition a.parent.now a.counts a.number.0 a.staged_counts a.head.now a.staged.now (sym c.append_ok.ensures ∙ c.if-append_ok.false)
