-- Refusal 25 is tested, and what passed is what the core asks.
use mathlib.Core.Path.{sym, ◌∙◌}
use Rattle.buffer_core.specs.Pop.{lists}
use Rattle.flush_core.proofs.KeepLaws.{flush_ready}
use Rattle.flush_calls.proofs.CallLaws.{flush_25, flush_goes}
use Rattle.flush_calls.proofs.flush_staged_spills.Goals as goal

pub flush-requires : goal.flush-requires
flush-requires c =
    let a = c.args in
    flush_ready a.edition (lists a.staged_counts a.staged.now a.table_counts a.table.now a.deleted_counts a.deleted.now) (sym c.lists_ok.ensures ∙ c.if-lists_ok.true)

pub returns-then-lists_ok : goal.returns-then-lists_ok
returns-then-lists_ok c =
    let a = c.args in
    flush_goes a.edition (lists a.staged_counts a.staged.now a.table_counts a.table.now a.deleted_counts a.deleted.now) (sym c.lists_ok.ensures ∙ c.if-lists_ok.true) _ c.flush.ensures

pub returns : goal.returns
returns c =
    let a = c.args in
    flush_25 a.edition (lists a.staged_counts a.staged.now a.table_counts a.table.now a.deleted_counts a.deleted.now) (sym c.lists_ok.ensures ∙ c.if-lists_ok.false)
