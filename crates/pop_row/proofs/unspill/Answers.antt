-- `pop_row::unspill` meets its contract: the row's refusal, then 20, then 21, then the row is merged back.
use mathlib.Core.Path.{sym, ◌∙◌}
use Rattle.pop_row.proofs.RowLaws.{unspill_bad, unspill_20, unspill_21, unspill_done, merge_ready}
use Rattle.pop_row.proofs.unspill.Goals as goal

pub returns-then-n-eq0 : goal.returns-then-n-eq0
returns-then-n-eq0 c =
    let a = c.args in
    unspill_20 a.edition a.kind a.parent.now a.spills a.staged_counts a.staged.now a.table_counts a.table.now a.deleted_counts a.deleted.now a.head.now _ c.spill_key-key.ensures.0 _ _ c.read_under-read.ensures _ c.in-Ok.is c.if-n-eq0.true

pub returns-then-full_for : goal.returns-then-full_for
returns-then-full_for c =
    let a = c.args in
    unspill_21 a.edition a.kind a.parent.now a.spills a.staged_counts a.staged.now a.table_counts a.table.now a.deleted_counts a.deleted.now a.head.now _ c.spill_key-key.ensures.0 _ _ c.read_under-read.ensures _ c.in-Ok.is c.if-n-eq0.false (sym c.full_for.ensures ∙ c.if-full_for.true)

pub merge-requires : goal.merge-requires
merge-requires c =
    let a = c.args in
    merge_ready a.edition a.kind a.parent.now a.spills a.staged_counts a.staged.now a.table_counts a.table.now a.deleted_counts a.deleted.now a.head.now _ c.spill_key-key.ensures.0 _ _ c.read_under-read.ensures _ c.in-Ok.is c.if-n-eq0.false
    (sym c.full_for.ensures ∙ c.if-full_for.false) c.requires.0 c.spill_key-key.ensures.1 c.requires.1

pub returns-in-Err : goal.returns-in-Err
returns-in-Err c =
    let a = c.args in
    unspill_bad a.edition a.kind a.parent.now a.spills a.staged_counts a.staged.now a.table_counts a.table.now a.deleted_counts a.deleted.now a.head.now _ c.spill_key-key.ensures.0 _ _ c.read_under-read.ensures _ c.in-Err.is

pub returns-else-full_for : goal.returns-else-full_for
returns-else-full_for c =
    let a = c.args in
    unspill_done a.edition a.kind a.parent.now a.spills a.staged_counts a.staged.now a.table_counts a.table.now a.deleted_counts a.deleted.now a.head.now _ c.spill_key-key.ensures.0 _ _ c.read_under-read.ensures _ c.in-Ok.is c.if-n-eq0.false
    (sym c.full_for.ensures ∙ c.if-full_for.false) _ c.merge.ensures
