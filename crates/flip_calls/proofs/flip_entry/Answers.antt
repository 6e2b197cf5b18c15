-- Refusal 25 is tested, and what passed is what the core asks.
use mathlib.Core.Path.{sym, ◌∙◌}
use mir.Syntax.{w64}
use Rattle.signed.proofs.SignedLaws.{back}
use Rattle.flip_core.proofs.KeepLaws.{flip_facts}
use Rattle.flip_calls.proofs.CallLaws.{flip_25, flip_goes}
use borrow.Author.Rules.{rules}
use Rattle.flip_calls.proofs.flip_entry.Goals as goal

pub flip-requires : goal.flip-requires
flip-requires c =
    let a = c.args in
    flip_facts a.edition a.counts a.staged_counts a.staged.now a.table_counts a.table.now a.head.now (sym c.flip_ok.ensures ∙ c.if-flip_ok.true)

pub returns-then-flip_ok : goal.returns-then-flip_ok
returns-then-flip_ok c =
    let a = c.args in
    flip_goes a.edition a.direction a.parent.now a.counts a.target a.staged_counts a.staged.now a.table_counts a.table.now a.head.now (sym c.flip_ok.ensures ∙ c.if-flip_ok.true) _ (rw (back w64 a.target (search rules)) at c.flip.ensures)

pub returns : goal.returns
returns c =
    let a = c.args in
    flip_25 a.edition a.direction a.parent.now a.counts a.target a.staged_counts a.staged.now a.table_counts a.table.now a.head.now (sym c.flip_ok.ensures ∙ c.if-flip_ok.false)
