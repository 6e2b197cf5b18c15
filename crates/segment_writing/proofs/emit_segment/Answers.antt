-- `segment_writing::emit_segment` meets its contract: two lists and the counts, one after the other.
use mathlib.Core.Path.{ap, ap₂}
use lib.ListN.{length, take}
use mir.Syntax.{w32}
use mir.Facts.{to_z-of_z}
use Rattle.segment_core.specs.Row.{counts_bytes}
use Rattle.segment_core.proofs.RowLaws.{room_txs, room_boxes, room_counts, counts_size, row_put}
use native.Mathlib.Omega.{arith}
use Rattle.segment_writing.proofs.emit_segment.Goals as goal

pub emit_list-o-requires : goal.emit_list-o-requires
emit_list-o-requires c =
    let a = c.args in
    (c.requires.0, room_txs (take a.n_txs a.txs.now) (take a.n_boxes a.boxes.now) a.box_count a.tx_count a.at (length a.out.now) c.requires.2)

pub emit_list-p-requires : goal.emit_list-p-requires
emit_list-p-requires c =
    let a = c.args in
    let e = c.emit_list-o in
    (c.requires.1, rw c.emit_list-o.auto.out (room_boxes (take a.n_txs a.txs.now) (take a.n_boxes a.boxes.now) a.box_count a.tx_count a.at (length a.out.now) c.requires.2 _ e.ensures.0.0 e.ensures.1))

pub emit_counts-requires : goal.emit_counts-requires
emit_counts-requires c =
    let a = c.args in
    let q = ap₂ counts_bytes (to_z-of_z {w = w32} c.ranges.box_count) (to_z-of_z {w = w32} c.ranges.tx_count) in
    let e = c.emit_list-o in
    let f = c.emit_list-p in
    let g = room_counts (take a.n_txs a.txs.now) (take a.n_boxes a.boxes.now) a.box_count a.tx_count a.at (length a.out.now) c.requires.2 _ e.ensures.0.0 e.ensures.1 _ f.ensures.0.0 f.ensures.1 (counts_size a.box_count a.tx_count c.ranges.box_count c.ranges.tx_count) in
    omega (arith, g, ap length q, c.emit_list-o.auto.out, c.emit_list-p.auto.out)

pub returns : goal.returns
returns c =
    let a = c.args in
    let q = ap₂ counts_bytes (to_z-of_z {w = w32} c.ranges.box_count) (to_z-of_z {w = w32} c.ranges.tx_count) in
    let e = c.emit_list-o.ensures in
    let f = c.emit_list-p.ensures in
    let g = c.emit_counts.ensures in
    (row_put _ _ a.box_count a.tx_count q _ _ _ _ _ _ _ _ e.0 f.0 g, omega (arith, e.1, f.1, g.0, ap length q, counts_size a.box_count a.tx_count c.ranges.box_count c.ranges.tx_count))
