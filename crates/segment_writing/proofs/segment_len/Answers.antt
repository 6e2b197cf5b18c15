-- `segment_writing::segment_len` meets its contract: two lists and the counts.
use mathlib.Core.Path.{ap, ap₂}
use lib.ListN.{length, take}
use mir.Syntax.{w32}
use mir.Facts.{to_z-of_z}
use Rattle.segment_core.specs.Row.{counts_bytes}
use Rattle.segment_core.proofs.RowLaws.{row_length}
use native.Mathlib.Omega.{arith}
use Rattle.segment_writing.proofs.segment_len.Goals as goal

pub returns : goal.returns
returns c =
    let a = c.args in
    let q = ap₂ counts_bytes (to_z-of_z {w = w32} c.ranges.box_count) (to_z-of_z {w = w32} c.ranges.tx_count) in
    (omega (arith, row_length (take a.n_txs a.txs.now) (take a.n_boxes a.boxes.now) a.box_count a.tx_count, ap length q), omega arith)
