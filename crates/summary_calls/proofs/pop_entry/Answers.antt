-- Refusal 25 is tested, and what passed is what the core asks.
use mathlib.Core.Path.{sym, ◌∙◌}
use Rattle.buffer_core.specs.Pop.{lists}
use Rattle.summary_calls.proofs.CallLaws.{pop_25, pop_goes, pop_asks}
use Rattle.summary_calls.proofs.pop_entry.Goals as goal

pub pop-requires : goal.pop-requires
pop-requires c =
    let a = c.args in
    pop_asks a.lines a.summary.now a.edition a.parent.now a.counts (lists a.staged_counts a.staged.now a.table_counts a.table.now a.deleted_counts a.deleted.now) a.head.now (sym c.pop_ok.ensures ∙ c.if-pop_ok.true)

pub returns-then-pop_ok : goal.returns-then-pop_ok
returns-then-pop_ok c =
    let a = c.args in
    pop_goes a.lines a.summary.now a.edition a.parent.now a.counts (lists a.staged_counts a.staged.now a.table_counts a.table.now a.deleted_counts a.deleted.now) a.head.now (sym c.pop_ok.ensures ∙ c.if-pop_ok.true) _ c.pop.ensures

pub returns : goal.returns
returns c =
    let a = c.args in
    pop_25 a.lines a.summary.now a.edition a.parent.now a.counts (lists a.staged_counts a.staged.now a.table_counts a.table.now a.deleted_counts a.deleted.now) a.head.now (sym c.pop_ok.ensures ∙ c.if-pop_ok.false)
