-- `address_reading::read_address` meets its contract: the hash, the flag and the balance into buffers of zeros, and then the segment, which alone changes the borrowed lists.
use mathlib.Core.Path.{ap, ◌∙◌}
use mir.Syntax.{w32, w64}
use mir.Facts.{to_z-of_z}
use borrow.Author.Rules.{rules}
use Rattle.address_core.specs.declared.AddressRead.{AddressRead}
use Rattle.address_core.specs.Loading.{loading}
use Rattle.address_core.proofs.LoadLaws.{found, not_found, address_cut, address_no_balance, address_no_segment, address_read}
use Rattle.address_reading.proofs.read_address.Goals as goal

pub returns-then-row-lt32 : goal.returns-then-row-lt32
returns-then-row-lt32 c =
    let a = c.args in ap (λ (r : AddressRead). loading r a.txs.now a.boxes.now) c.refused.ensures ∙ address_cut a.row.now a.txs.now a.boxes.now c.if-row-lt32.true

pub returns-in-Err : goal.returns-in-Err
returns-in-Err c =
    let a = c.args in
    ap (λ (r : AddressRead). loading r a.txs.now a.boxes.now) c.refused-in-Err.ensures
    ∙ address_no_balance a.row.now a.txs.now a.boxes.now c.if-row-lt32.false _ (not_found a.row.now 32 _ _ _ c.read_flagged.ensures _ c.in-Err.is)

pub returns-in-Refused : goal.returns-in-Refused
returns-in-Refused c =
    let a = c.args in
    let f = found a.row.now 32 _ _ _ c.read_flagged.ensures _ _ _ _ c.in-Ok.is in
    rw c.refused-in-Refused.ensures
    (address_no_segment a.row.now a.txs.now a.boxes.now c.if-row-lt32.false _ _ _ _ _ _ f _ _ _ c.read_last_segment.ensures _ c.in-Refused.is)

pub returns-in-Read : goal.returns-in-Read
returns-in-Read c =
    let a = c.args in
    let f = found a.row.now 32 _ _ _ c.read_flagged.ensures _ _ _ _ c.in-Ok.is in
    address_read a.row.now a.txs.now a.boxes.now c.if-row-lt32.false _ _ _ _ _ _ f _ _ _ c.read_last_segment.ensures _ _ _ _ _ c.in-Read.is _ _ _
    (to_z-of_z {w = w64} (search rules)) (to_z-of_z {w = w32} (search rules)) (to_z-of_z {w = w32} (search rules)) _ c.hash_of-hash.ensures
