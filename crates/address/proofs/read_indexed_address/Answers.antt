-- `address::read_indexed_address` meets its contract: three tests of 25, then the core reads; one law for each way out.
use mathlib.Core.Path.{◌∙◌}
use Rattle.address_core.proofs.LoadLaws.{call_25_row, call_25_txs, call_25_boxes, call_on}
use Rattle.address.proofs.read_indexed_address.Goals as goal

pub returns-then-row-gt-ADDRESS_LIMIT : goal.returns-then-row-gt-ADDRESS_LIMIT
returns-then-row-gt-ADDRESS_LIMIT c = let a = c.args in rw c.refused.ensures (call_25_row a.row.now a.txs.now a.boxes.now c.if-row-gt-ADDRESS_LIMIT.true)

pub returns-then-txs-lt-SEGMENT_THRESHOLD : goal.returns-then-txs-lt-SEGMENT_THRESHOLD
returns-then-txs-lt-SEGMENT_THRESHOLD c = let a = c.args in rw c.refused-then-txs-lt-SEGMENT_THRESHOLD.ensures (call_25_txs a.row.now a.txs.now a.boxes.now c.if-row-gt-ADDRESS_LIMIT.false c.if-txs-lt-SEGMENT_THRESHOLD.true)

pub returns-then-boxes-lt-SEGMENT_THRESHOLD : goal.returns-then-boxes-lt-SEGMENT_THRESHOLD
returns-then-boxes-lt-SEGMENT_THRESHOLD c = let a = c.args in rw c.refused-then-boxes-lt-SEGMENT_THRESHOLD.ensures (call_25_boxes a.row.now a.txs.now a.boxes.now c.if-row-gt-ADDRESS_LIMIT.false c.if-txs-lt-SEGMENT_THRESHOLD.false c.if-boxes-lt-SEGMENT_THRESHOLD.true)

pub returns : goal.returns
returns c = let a = c.args in
    c.read_address.ensures ∙ call_on a.row.now a.txs.now a.boxes.now c.if-row-gt-ADDRESS_LIMIT.false c.if-txs-lt-SEGMENT_THRESHOLD.false c.if-boxes-lt-SEGMENT_THRESHOLD.false
