-- Refusal 25 is tested, and what passed is what the core asks.
use mathlib.Core.Path.{sym, ◌∙◌}
use Rattle.summary_calls.proofs.CallLaws.{tally_25, tally_goes}
use Rattle.summary.proofs.tally_with_summary.Goals as goal

pub returns-then-tally_ok : goal.returns-then-tally_ok
returns-then-tally_ok c =
    let a = c.args in
    tally_goes a.lines a.summary.now a.counts a.head.now (sym c.tally_ok.ensures ∙ c.if-tally_ok.true) _ c.tally_lines.ensures

pub returns : goal.returns
returns c =
    let a = c.args in
    tally_25 a.lines a.summary.now a.counts a.head.now (sym c.tally_ok.ensures ∙ c.if-tally_ok.false)
