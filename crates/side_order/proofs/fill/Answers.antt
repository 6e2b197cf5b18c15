-- One law for each way that a cursor is filled.
use native.Mathlib.Omega.{arith}
use lib.ListN.{take}
use borrow.Author.Rules.{rules}
use Rattle.buffer_core.specs.Spills.{sources}
use Rattle.side_order.proofs.FillLaws.{took, to_row, not_refused, to_head, at_end}
use Rattle.side_order.proofs.fill.Goals as goal

pub returns-in-Ok : goal.returns-in-Ok
returns-in-Ok c =
    let a = c.args in
    let w = sources a.parent.now a.staged.now a.staged_count a.table.now a.table_count in
    to_row a.edition a.kind w a.spills (take a.len a.head.now) a.cursor a.row.now c.requires.1 c.if-cursor.false c.if-next-spills.true _ _ c.read_taken-read.ensures _ c.in-Ok.is (search rules)

pub returns-in-Err : goal.returns-in-Err
returns-in-Err c =
    let a = c.args in
    let w = sources a.parent.now a.staged.now a.staged_count a.table.now a.table_count in
    absurd (not_refused a.edition a.kind w a.spills (take a.len a.head.now) a.cursor a.row.now c.requires.1 c.if-next-spills.true _ _ c.read_taken-read.ensures _ c.in-Err.is)

pub returns-then-next-spills-2 : goal.returns-then-next-spills-2
returns-then-next-spills-2 c =
    let a = c.args in
    let w = sources a.parent.now a.staged.now a.staged_count a.table.now a.table_count in
    to_head a.edition a.kind w a.spills (take a.len a.head.now) a.cursor a.row.now c.requires.1 c.if-cursor.false c.if-next-spills-2.true _ (took a.len a.head.now (omega (arith, c.requires.0.places, c.requires.0.few))) c.requires.0.few _ c.copy_numbers.ensures

pub returns : goal.returns
returns c =
    let a = c.args in
    let w = sources a.parent.now a.staged.now a.staged_count a.table.now a.table_count in
    at_end a.edition a.kind w a.spills (take a.len a.head.now) a.cursor a.row.now c.requires.1 c.if-cursor.false (omega arith)
