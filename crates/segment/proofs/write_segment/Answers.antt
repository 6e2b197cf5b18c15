-- `segment::write_segment` meets its contract: two tests of 25; then, unless there is room for any row, the size pass and the test of 32; then the writing pass. One law for each way out.
use mathlib.Core.Path.{sym, ap₂, ◌∙◌}
use Prim.Native.Nat.{◌+◌}
use lib.ListN.{length, take}
use mir.Syntax.{w32}
use mir.Facts.{to_z-of_z}
use borrow.Author.Tests.{leb-true}
use Rattle.vlq_core.proofs.WriteLaws.{put_within, put_short, put_done}
use Rattle.segment_core.specs.Row.{row_bytes}
use Rattle.segment.proofs.CallLaws.{write_25_txs, write_25_boxes, write_row}
use native.Mathlib.Omega.{arith}
use Rattle.segment.proofs.write_segment.Goals as goal

pub returns-then-not-is_held : goal.returns-then-not-is_held
returns-then-not-is_held c =
    let a = c.args in
    write_25_txs a.txs.now a.n_txs a.boxes.now a.n_boxes a.box_segment_count a.tx_segment_count a.out.now a.at (sym c.is_held.ensures ∙ c.if-not-is_held.true)

pub returns-then-not-is_held-2 : goal.returns-then-not-is_held-2
returns-then-not-is_held-2 c =
    let a = c.args in
    write_25_boxes a.txs.now a.n_txs a.boxes.now a.n_boxes a.box_segment_count a.tx_segment_count a.out.now a.at (sym c.is_held.ensures ∙ c.if-not-is_held.false) (sym c.is_held-2.ensures ∙ c.if-not-is_held-2.true)

pub returns-then-has_room : goal.returns-then-has_room
returns-then-has_room c =
    let a = c.args in
    let q = ap₂ (row_bytes (take a.n_txs a.txs.now) (take a.n_boxes a.boxes.now)) (to_z-of_z {w = w32} c.ranges.box_segment_count) (to_z-of_z {w = w32} c.ranges.tx_segment_count) in
    let f = leb-true (a.at + 10254) (length a.out.now) (sym c.has_room.ensures ∙ c.if-has_room.true) in
    let e = c.emit_segment.ensures in
    put_within q a.out.now a.at _ _ e.0 (omega (arith, e.0.0, e.1)) ∙ write_row a.txs.now a.n_txs a.boxes.now a.n_boxes a.box_segment_count a.tx_segment_count a.out.now a.at (sym c.is_held.ensures ∙ c.if-not-is_held.false) (sym c.is_held-2.ensures ∙ c.if-not-is_held-2.false)

pub returns-then-not-has_room : goal.returns-then-not-has_room
returns-then-not-has_room c =
    let a = c.args in
    let q = ap₂ (row_bytes (take a.n_txs a.txs.now) (take a.n_boxes a.boxes.now)) (to_z-of_z {w = w32} c.ranges.box_segment_count) (to_z-of_z {w = w32} c.ranges.tx_segment_count) in
    put_short q a.out.now a.at _ c.segment_len-n.ensures.0 c.has_room-2.result c.has_room-2.ensures (c.if-not-has_room.true)
    ∙ write_row a.txs.now a.n_txs a.boxes.now a.n_boxes a.box_segment_count a.tx_segment_count a.out.now a.at (sym c.is_held.ensures ∙ c.if-not-is_held.false) (sym c.is_held-2.ensures ∙ c.if-not-is_held-2.false)

pub returns : goal.returns
returns c =
    let a = c.args in
    let q = ap₂ (row_bytes (take a.n_txs a.txs.now) (take a.n_boxes a.boxes.now)) (to_z-of_z {w = w32} c.ranges.box_segment_count) (to_z-of_z {w = w32} c.ranges.tx_segment_count) in
    put_done q a.out.now a.at _ c.segment_len-n.ensures.0 c.has_room-2.result c.has_room-2.ensures (c.if-not-has_room.false) _ _ c.emit_segment-2.ensures.0
    ∙ write_row a.txs.now a.n_txs a.boxes.now a.n_boxes a.box_segment_count a.tx_segment_count a.out.now a.at (sym c.is_held.ensures ∙ c.if-not-is_held.false) (sym c.is_held-2.ensures ∙ c.if-not-is_held-2.false)
