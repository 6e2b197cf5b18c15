-- A deleted key changes nothing; any other goes where `slot` says, which has room.
use Prim.Native.Nat.{◌+◌, ◌-◌}
use mathlib.Core.Path.{◌≡◌, sym, ◌∙◌}
use native.Mathlib.Omega.{arith}
use lib.ListN.{take, drop}
use Rattle.records.proofs.RecordLaws.{row_room}
use Rattle.buffer_core.specs.Edition.{record_size}
use Rattle.buffer_core.proofs.SizeLaws.{sizes}
use Rattle.flush_table.proofs.TableLaws.{put_kept, put_done, slot_new}
use lib.ListN.{length-take, length-drop}
use Rattle.flush_table.proofs.put_unless_deleted.Goals as goal

pub returns-then-holds_key : goal.returns-then-holds_key
returns-then-holds_key c =
    let a = c.args in
    let e : a.at + 32 - a.at ≡ 32 = omega arith in
    put_kept a.edition _ a.at a.staged.now _ (rw e at (sym c.holds_key.ensures ∙ c.if-holds_key.true))

pub put-requires : goal.put-requires
put-requires c =
    let a = c.args in
    let z = c.record_size-size.ensures.0 in
    let size = record_size a.edition in
    let e : a.at + 32 - a.at ≡ 32 = omega arith in
    let d = rw e at (sym c.holds_key.ensures ∙ c.if-holds_key.false) in
    let r = slot_new a.edition a.counts.count _ a.table.now _ d c.requires.2 in
    let g = sizes a.edition in
    let p = c.requires.0 in (
      rw z r.0,
      rw (e, length-take, length-drop) (omega (arith, p, g)),
      rw (c.row_part-row.ensures, z) (row_room size (take size (drop a.at a.staged.now)) g.0 (rw (length-take, length-drop) (omega (arith, p)))),
      rw (e, z) r.1,
      rw z c.requires.3,
    )

pub returns : goal.returns
returns c =
    let a = c.args in
    let z = c.record_size-size.ensures.0 in
    let e : a.at + 32 - a.at ≡ 32 = omega arith in
    let d = rw e at (sym c.holds_key.ensures ∙ c.if-holds_key.false) in
    let p = c.put.ensures in
    put_done a.edition _ a.at a.staged.now _ d _ _ (rw (e, z) at p.0) (rw (e, c.row_part-row.ensures, z) at p.1)
