-- `address_writing::emit_address` meets its contract: the hash, the flag with what it tells of, and the row, one behind the other.
use mathlib.Core.Path.{◌≡◌, ap, ap₂}
use mathlib.Core.Logic.{inl}
use Prim.Native.Nat.{◌+◌}
use native.Mathlib.Omega.{arith}
use lib.IntN.{ℤ}
use lib.ListN.{length, take}
use mir.Syntax.{w32, w64}
use mir.Val.{to_z, of_z}
use mir.Facts.{to_z-of_z}
use borrow.Author.Rules.{rules}
use Rattle.segment_core.specs.Row.{row_bytes}
use Rattle.address_core.specs.Bytes.{flagged_bytes, address_bytes}
use Rattle.address_core.proofs.BytesLaws.{address_length, address_put}
use Rattle.address_writing.proofs.emit_address.Goals as goal

pub put_bytes-o-requires : goal.put_bytes-o-requires
put_bytes-o-requires c =
    let a = c.args in
    let row = row_bytes (take a.n_txs a.txs.now) (take a.n_boxes a.boxes.now) a.box_count a.tx_count in
    omega (arith, address_length a.hash.now a.has a.nanos a.ids.now (take a.n a.amounts.now) row, c.requires.3)

pub emit_flagged-p-requires : goal.emit_flagged-p-requires
emit_flagged-p-requires c =
    let a = c.args in
    let row = row_bytes (take a.n_txs a.txs.now) (take a.n_boxes a.boxes.now) a.box_count a.tx_count in
    let f : flagged_bytes a.has (to_z w64 (of_z w64 a.nanos)) a.ids.now (take a.n a.amounts.now) ≡ flagged_bytes a.has a.nanos a.ids.now (take a.n a.amounts.now) =
    ap (λ (z : ℤ). flagged_bytes a.has z a.ids.now (take a.n a.amounts.now)) (to_z-of_z {w = w64} c.ranges.nanos) in
    (c.requires.0, omega (arith, address_length a.hash.now a.has a.nanos a.ids.now (take a.n a.amounts.now) row, ap length f, c.put_bytes-o.ensures.0, c.requires.3))

pub emit_segment-requires : goal.emit_segment-requires
emit_segment-requires c =
    let a = c.args in
    let row = row_bytes (take a.n_txs a.txs.now) (take a.n_boxes a.boxes.now) in
    let f : flagged_bytes a.has (to_z w64 (of_z w64 a.nanos)) a.ids.now (take a.n a.amounts.now) ≡ flagged_bytes a.has a.nanos a.ids.now (take a.n a.amounts.now) =
    ap (λ (z : ℤ). flagged_bytes a.has z a.ids.now (take a.n a.amounts.now)) (to_z-of_z {w = w64} c.ranges.nanos) in
    let r = ap₂ row (to_z-of_z {w = w32} c.ranges.box_count) (to_z-of_z {w = w32} c.ranges.tx_count) in (
      c.requires.1,
      c.requires.2,
      inl (omega (arith, address_length a.hash.now a.has a.nanos a.ids.now (take a.n a.amounts.now) (row a.box_count a.tx_count), ap length f, ap length r, c.put_bytes-o.ensures.0, c.emit_flagged-p.ensures.0, c.requires.3)),
    )

pub returns : goal.returns
returns c =
    let a = c.args in
    let row = row_bytes (take a.n_txs a.txs.now) (take a.n_boxes a.boxes.now) in
    let f : flagged_bytes a.has (to_z w64 (of_z w64 a.nanos)) a.ids.now (take a.n a.amounts.now) ≡ flagged_bytes a.has a.nanos a.ids.now (take a.n a.amounts.now) =
    ap (λ (z : ℤ). flagged_bytes a.has z a.ids.now (take a.n a.amounts.now)) (to_z-of_z {w = w64} c.ranges.nanos) in
    let r = ap₂ row (to_z-of_z {w = w32} c.ranges.box_count) (to_z-of_z {w = w32} c.ranges.tx_count) in
    address_put a.hash.now a.has a.nanos a.ids.now (take a.n a.amounts.now) (row a.box_count a.tx_count) f r _ _ _ _ _ _ _ _ c.put_bytes-o.ensures c.emit_flagged-p.ensures c.emit_segment.ensures.0
