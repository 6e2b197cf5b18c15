-- Refusal 25 is tested, and what passed is what the core asks.
use mathlib.Core.Path.{sym, ◌∙◌}
use Rattle.summary_calls.proofs.CallLaws.{flip_asks, made_25, made_goes}
use Rattle.summary.proofs.summarize_boxes.Goals as goal

pub summarize-requires : goal.summarize-requires
summarize-requires c =
    let a = c.args in
    flip_asks a.lines a.summary.now a.edition a.parent.now a.counts a.staged_counts a.staged.now a.table_counts a.table.now a.head.now (sym c.flip_ok.ensures ∙ c.if-flip_ok.true)

pub returns-then-flip_ok : goal.returns-then-flip_ok
returns-then-flip_ok c =
    let a = c.args in
    made_goes a.lines a.summary.now a.edition a.parent.now a.counts a.staged_counts a.staged.now a.table_counts a.table.now a.head.now (sym c.flip_ok.ensures ∙ c.if-flip_ok.true) _ c.summarize.ensures

pub returns : goal.returns
returns c =
    let a = c.args in
    made_25 a.lines a.summary.now a.edition a.parent.now a.counts a.staged_counts a.staged.now a.table_counts a.table.now a.head.now (sym c.flip_ok.ensures ∙ c.if-flip_ok.false)
