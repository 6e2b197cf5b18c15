-- `spill_rows::read_under` meets its contract: the row is the part of the list that the place names.
use native.Mathlib.Omega.{arith}
use lib.ListN.{length}
use Rattle.buffer_core.proofs.SizeLaws.{sizes, slot_in, row_most}
use Rattle.spill_rows.proofs.SpillLaws.{staged_below, table_below, under_staged, under_table, under_missing}
use Rattle.spill_rows.proofs.read_under.Goals as goal

pub overflow_mul-i : goal.overflow_mul-i
overflow_mul-i c =
    let a = c.args in
    let p = c.requires in
    let z = c.record_size-size.ensures.0 in
    let i = staged_below _ a.key.now a.staged.now a.staged_count a.table.now a.table_count _ c.locate_hinted-place.ensures _ c.in-Staged.is in
    let s = slot_in a.edition _ _ (length a.staged.now) i p.0 in
    rw z (omega arith)

pub row_part-row-requires : goal.row_part-row-requires
row_part-row-requires c =
    let a = c.args in
    let p = c.requires in
    let z = c.record_size-size.ensures.0 in
    let i = staged_below _ a.key.now a.staged.now a.staged_count a.table.now a.table_count _ c.locate_hinted-place.ensures _ c.in-Staged.is in
    let s = slot_in a.edition _ _ (length a.staged.now) i p.0 in
    (omega (arith, sizes a.edition), rw z s)

pub read_row-requires : goal.read_row-requires
read_row-requires c =
    let a = c.args in
    let p = c.requires in
    let z = c.record_size-size.ensures.0 in
    let i = staged_below _ a.key.now a.staged.now a.staged_count a.table.now a.table_count _ c.locate_hinted-place.ensures _ c.in-Staged.is in
    let s = slot_in a.edition _ _ (length a.staged.now) i p.0 in
    (row_most a.edition _ _ a.staged.now _ i p.0 (rw z at c.row_part-row.ensures), p.2, p.3)

pub overflow_mul-i-in-Table : goal.overflow_mul-i-in-Table
overflow_mul-i-in-Table c =
    let a = c.args in
    let p = c.requires in
    let z = c.record_size-size.ensures.0 in
    let i = table_below _ a.key.now a.staged.now a.staged_count a.table.now a.table_count _ c.locate_hinted-place.ensures _ c.in-Table.is in
    let s = slot_in a.edition _ _ (length a.table.now) i p.1 in
    rw z (omega arith)

pub row_part-row-requires-in-Table : goal.row_part-row-requires-in-Table
row_part-row-requires-in-Table c =
    let a = c.args in
    let p = c.requires in
    let z = c.record_size-size.ensures.0 in
    let i = table_below _ a.key.now a.staged.now a.staged_count a.table.now a.table_count _ c.locate_hinted-place.ensures _ c.in-Table.is in
    let s = slot_in a.edition _ _ (length a.table.now) i p.1 in
    (omega (arith, sizes a.edition), rw z s)

pub read_row-requires-in-Table : goal.read_row-requires-in-Table
read_row-requires-in-Table c =
    let a = c.args in
    let p = c.requires in
    let z = c.record_size-size.ensures.0 in
    let i = table_below _ a.key.now a.staged.now a.staged_count a.table.now a.table_count _ c.locate_hinted-place.ensures _ c.in-Table.is in
    let s = slot_in a.edition _ _ (length a.table.now) i p.1 in
    (row_most a.edition _ _ a.table.now _ i p.1 (rw z at c.row_part-row-in-Table.ensures), p.2, p.3)

pub returns-in-Staged : goal.returns-in-Staged
returns-in-Staged c =
    let a = c.args in
    let p = c.requires in
    let z = c.record_size-size.ensures.0 in
    under_staged a.edition a.kind a.parent.now a.staged.now a.staged_count a.table.now a.table_count a.number a.key.now p.4 _ (rw z at c.locate_hinted-place.ensures) _ _ _ c.in-Staged.is _ (rw z at c.row_part-row.ensures) c.read_row.ensures

pub returns-in-Table : goal.returns-in-Table
returns-in-Table c =
    let a = c.args in
    let p = c.requires in
    let z = c.record_size-size.ensures.0 in
    under_table a.edition a.kind a.parent.now a.staged.now a.staged_count a.table.now a.table_count a.number a.key.now p.4 _ (rw z at c.locate_hinted-place.ensures) _ _ _ c.in-Table.is _ (rw z at c.row_part-row-in-Table.ensures) c.read_row-in-Table.ensures

pub returns-in-Missing : goal.returns-in-Missing
returns-in-Missing c =
    let a = c.args in
    let p = c.requires in
    let z = c.record_size-size.ensures.0 in
    under_missing a.edition a.kind a.parent.now a.staged.now a.staged_count a.table.now a.table_count a.number a.key.now p.4 _ (rw z at c.locate_hinted-place.ensures) _ c.in-Missing.is
