-- `address_writing::write_address` meets its contract: 25, then the size and 32, then the record; one law for each way out.
use mathlib.Core.Path.{sym, ap₂, ◌∙◌}
use mathlib.Core.Bool.{true}
use Prim.Native.Nat.{◌*◌, ◌≤◌}
use lib.ListN.{length, take}
use mir.Syntax.{w32, w64}
use mir.Val.{to_z, of_z}
use mir.Facts.{to_z-of_z}
use Rattle.vlq_core.proofs.WriteLaws.{put_short, put_room, put_done}
use Rattle.segment_core.specs.Row.{row_bytes}
use Rattle.address_core.specs.Writing.{buffers_ok}
use Rattle.address_core.proofs.BytesLaws.{address_length, address_as}
use Rattle.address_core.proofs.WriteLaws.{passed, write_25, write_on}
use native.Mathlib.Omega.{arith}
use Rattle.address_writing.proofs.write_address.Goals as goal

pub returns-then-not-buffers_ok : goal.returns-then-not-buffers_ok
returns-then-not-buffers_ok c = let a = c.args in
    write_25 a.hash.now a.has a.nanos a.ids.now a.amounts.now a.count a.txs.now a.n_txs a.boxes.now a.n_boxes a.box_count a.tx_count a.out.now a.at (sym c.buffers_ok.ensures ∙ c.if-not-buffers_ok.true)

pub flagged_len-part-requires : goal.flagged_len-part-requires
flagged_len-part-requires c = let few = ((let a = c.args in passed a.n_txs (length a.txs.now) a.n_boxes (length a.boxes.now) a.count (sym c.buffers_ok.ensures ∙ c.if-not-buffers_ok.false))).few in
    (few, omega (arith, few, c.requires.2))

pub segment_len-row-requires : goal.segment_len-row-requires
segment_len-row-requires c = let h = (let a = c.args in passed a.n_txs (length a.txs.now) a.n_boxes (length a.boxes.now) a.count (sym c.buffers_ok.ensures ∙ c.if-not-buffers_ok.false)) in (h.txs, h.boxes)

pub returns-then-not-has_room : goal.returns-then-not-has_room
returns-then-not-has_room c = let a = c.args in
    put_short ((let a = c.args in address_as a.hash.now a.has a.ids.now (take a.count a.amounts.now) (to_z-of_z {w = w64} c.ranges.nanos) (ap₂ (row_bytes (take a.n_txs a.txs.now) (take a.n_boxes a.boxes.now)) (to_z-of_z {w = w32} c.ranges.box_count) (to_z-of_z {w = w32} c.ranges.tx_count)))) a.out.now a.at _ ((let a = c.args in let few = ((let a = c.args in passed a.n_txs (length a.txs.now) a.n_boxes (length a.boxes.now) a.count (sym c.buffers_ok.ensures ∙ c.if-not-buffers_ok.false))).few in let room : a.count * 32 ≤ length a.ids.now = omega (arith, few, c.requires.1) in omega (arith, address_length a.hash.now a.has (to_z w64 (of_z w64 a.nanos)) a.ids.now (take a.count a.amounts.now) (row_bytes (take a.n_txs a.txs.now) (take a.n_boxes a.boxes.now) (to_z w32 (of_z w32 a.box_count)) (to_z w32 (of_z w32 a.tx_count))), c.flagged_len-part.ensures.0 a.ids.now room, c.segment_len-row.ensures.0, c.requires.0))) c.has_room.result c.has_room.ensures (c.if-not-has_room.true)
    ∙ write_on a.hash.now a.has a.nanos a.ids.now a.amounts.now a.count a.txs.now a.n_txs a.boxes.now a.n_boxes a.box_count a.tx_count a.out.now a.at (sym c.buffers_ok.ensures ∙ c.if-not-buffers_ok.false)

pub emit_address-requires : goal.emit_address-requires
emit_address-requires c = let a = c.args in
    let h = (let a = c.args in passed a.n_txs (length a.txs.now) a.n_boxes (length a.boxes.now) a.count (sym c.buffers_ok.ensures ∙ c.if-not-buffers_ok.false)) in
    let few = h.few in
    ((few, omega (arith, few, c.requires.2), omega (arith, few, c.requires.1)), h.txs, h.boxes, put_room ((let a = c.args in address_as a.hash.now a.has a.ids.now (take a.count a.amounts.now) (to_z-of_z {w = w64} c.ranges.nanos) (ap₂ (row_bytes (take a.n_txs a.txs.now) (take a.n_boxes a.boxes.now)) (to_z-of_z {w = w32} c.ranges.box_count) (to_z-of_z {w = w32} c.ranges.tx_count)))) a.out.now a.at _ ((let a = c.args in let few = ((let a = c.args in passed a.n_txs (length a.txs.now) a.n_boxes (length a.boxes.now) a.count (sym c.buffers_ok.ensures ∙ c.if-not-buffers_ok.false))).few in let room : a.count * 32 ≤ length a.ids.now = omega (arith, few, c.requires.1) in omega (arith, address_length a.hash.now a.has (to_z w64 (of_z w64 a.nanos)) a.ids.now (take a.count a.amounts.now) (row_bytes (take a.n_txs a.txs.now) (take a.n_boxes a.boxes.now) (to_z w32 (of_z w32 a.box_count)) (to_z w32 (of_z w32 a.tx_count))), c.flagged_len-part.ensures.0 a.ids.now room, c.segment_len-row.ensures.0, c.requires.0))) c.has_room.result c.has_room.ensures (c.if-not-has_room.false))

pub returns : goal.returns
returns c = let a = c.args in
    put_done ((let a = c.args in address_as a.hash.now a.has a.ids.now (take a.count a.amounts.now) (to_z-of_z {w = w64} c.ranges.nanos) (ap₂ (row_bytes (take a.n_txs a.txs.now) (take a.n_boxes a.boxes.now)) (to_z-of_z {w = w32} c.ranges.box_count) (to_z-of_z {w = w32} c.ranges.tx_count)))) a.out.now a.at _ ((let a = c.args in let few = ((let a = c.args in passed a.n_txs (length a.txs.now) a.n_boxes (length a.boxes.now) a.count (sym c.buffers_ok.ensures ∙ c.if-not-buffers_ok.false))).few in let room : a.count * 32 ≤ length a.ids.now = omega (arith, few, c.requires.1) in omega (arith, address_length a.hash.now a.has (to_z w64 (of_z w64 a.nanos)) a.ids.now (take a.count a.amounts.now) (row_bytes (take a.n_txs a.txs.now) (take a.n_boxes a.boxes.now) (to_z w32 (of_z w32 a.box_count)) (to_z w32 (of_z w32 a.tx_count))), c.flagged_len-part.ensures.0 a.ids.now room, c.segment_len-row.ensures.0, c.requires.0))) c.has_room.result c.has_room.ensures (c.if-not-has_room.false) _ _ c.emit_address.ensures
    ∙ write_on a.hash.now a.has a.nanos a.ids.now a.amounts.now a.count a.txs.now a.n_txs a.boxes.now a.n_boxes a.box_count a.tx_count a.out.now a.at (sym c.buffers_ok.ensures ∙ c.if-not-buffers_ok.false)
