-- `segment::read_persisted_segment` meets its contract: three tests of 25, then the core reads a row that must end; one law for each way out.
use mathlib.Core.Path.{◌∙◌}
use Rattle.segment.proofs.CallLaws.{read_25_row, read_25_txs, read_25_boxes, read_within}
use Rattle.segment.proofs.read_persisted_segment.Goals as goal

pub returns-then-row-gt-ROW_LIMIT : goal.returns-then-row-gt-ROW_LIMIT
returns-then-row-gt-ROW_LIMIT c = let a = c.args in read_25_row 10254 a.row.now a.txs.now a.boxes.now c.if-row-gt-ROW_LIMIT.true

pub returns-then-txs-lt-SEGMENT_THRESHOLD : goal.returns-then-txs-lt-SEGMENT_THRESHOLD
returns-then-txs-lt-SEGMENT_THRESHOLD c = let a = c.args in read_25_txs 10254 a.row.now a.txs.now a.boxes.now c.if-txs-lt-SEGMENT_THRESHOLD.true

pub returns-then-boxes-lt-SEGMENT_THRESHOLD : goal.returns-then-boxes-lt-SEGMENT_THRESHOLD
returns-then-boxes-lt-SEGMENT_THRESHOLD c = let a = c.args in read_25_boxes 10254 a.row.now a.txs.now a.boxes.now c.if-txs-lt-SEGMENT_THRESHOLD.false c.if-boxes-lt-SEGMENT_THRESHOLD.true

pub returns : goal.returns
returns c =
    let a = c.args in
    c.read_last_segment.ensures ∙ read_within 10254 a.row.now a.txs.now a.boxes.now c.if-txs-lt-SEGMENT_THRESHOLD.false c.if-boxes-lt-SEGMENT_THRESHOLD.false c.if-row-gt-ROW_LIMIT.false
