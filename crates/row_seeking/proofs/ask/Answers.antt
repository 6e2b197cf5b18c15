-- `row_seeking::ask` meets its contract: the place of the row says whether it is missing.
use Rattle.row_seeking.proofs.SeekLaws.{asked_staged, asked_table, asked_missing}
use Rattle.row_seeking.proofs.ask.Goals as goal

pub returns-in-Staged : goal.returns-in-Staged
returns-in-Staged c =
    let a = c.args in
    let z = c.record_size-size.ensures.0 in
    asked_staged a.edition a.kind a.parent.now a.staged.now a.staged_count a.table.now a.table_count a.number _ c.spill_key-key.ensures.0 _ (rw z at c.locate_hinted-place.ensures) _ c.in-Staged.is

pub returns-in-Table : goal.returns-in-Table
returns-in-Table c =
    let a = c.args in
    let z = c.record_size-size.ensures.0 in
    asked_table a.edition a.kind a.parent.now a.staged.now a.staged_count a.table.now a.table_count a.number _ c.spill_key-key.ensures.0 _ (rw z at c.locate_hinted-place.ensures) _ c.in-Table.is

pub returns-in-Missing : goal.returns-in-Missing
returns-in-Missing c =
    let a = c.args in
    let z = c.record_size-size.ensures.0 in
    asked_missing a.edition a.kind a.parent.now a.staged.now a.staged_count a.table.now a.table_count a.number _ c.spill_key-key.ensures.0 _ (rw z at c.locate_hinted-place.ensures) c.in-Missing.is
