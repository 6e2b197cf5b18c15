-- Refusal 25 is tested, and what passed is what the core asks.
use mathlib.Core.Path.{sym, ◌∙◌}
use Rattle.flip_core.proofs.KeepLaws.{flip_facts}
use Rattle.flip_calls.proofs.CallLaws.{tally_25, tally_goes}
use Rattle.flip_calls.proofs.tally.Goals as goal

pub tally-requires : goal.tally-requires
tally-requires c =
    let a = c.args in
    flip_facts a.edition a.counts a.staged_counts a.staged.now a.table_counts a.table.now a.head.now (sym c.flip_ok.ensures ∙ c.if-flip_ok.true)

pub returns-then-flip_ok : goal.returns-then-flip_ok
returns-then-flip_ok c =
    let a = c.args in
    tally_goes a.edition a.parent.now a.counts a.staged_counts a.staged.now a.table_counts a.table.now a.head.now (sym c.flip_ok.ensures ∙ c.if-flip_ok.true) _ c.tally.ensures

pub returns : goal.returns
returns c =
    let a = c.args in
    tally_25 a.edition a.parent.now a.counts a.staged_counts a.staged.now a.table_counts a.table.now a.head.now (sym c.flip_ok.ensures ∙ c.if-flip_ok.false)
