-- Refusal 25 is tested, and what passed is what the core asks.
use mathlib.Core.Path.{sym, ◌∙◌}
use Rattle.buffer_core.specs.Pop.{lists}
use Rattle.pop_core.proofs.KeepLaws.{pop_ready}
use Rattle.pop_calls.proofs.CallLaws.{pop_25, pop_goes}
use Rattle.pop_calls.proofs.pop_entry.Goals as goal

pub pop-requires : goal.pop-requires
pop-requires c =
    let a = c.args in
    pop_ready a.edition a.counts (lists a.staged_counts a.staged.now a.table_counts a.table.now a.deleted_counts a.deleted.now) a.head.now (sym c.pop_ok.ensures ∙ c.if-pop_ok.true)

pub returns-then-pop_ok : goal.returns-then-pop_ok
returns-then-pop_ok c =
    let a = c.args in
    pop_goes a.edition a.kind a.parent.now a.counts (lists a.staged_counts a.staged.now a.table_counts a.table.now a.deleted_counts a.deleted.now) a.head.now (sym c.pop_ok.ensures ∙ c.if-pop_ok.true) _ c.pop.ensures

pub returns : goal.returns
returns c =
    let a = c.args in
    pop_25 a.edition a.kind a.parent.now a.counts (lists a.staged_counts a.staged.now a.table_counts a.table.now a.deleted_counts a.deleted.now) a.head.now (sym c.pop_ok.ensures ∙ c.if-pop_ok.false)
