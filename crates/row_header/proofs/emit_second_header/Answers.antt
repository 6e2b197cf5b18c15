-- `row_header::emit_second_header` meets its contract: the parent, the kind byte and the number stand one after the other.
use mathlib.Core.Path.{◌∙◌}
use native.Mathlib.Omega.{arith}
use Rattle.signed.proofs.SignedLaws.{back32}
use Rattle.row_header.proofs.HeaderLaws.{header_put, header_room}
use Rattle.row_header.proofs.emit_second_header.Goals as goal

pub emit_i32-requires : goal.emit_i32-requires
emit_i32-requires c =
    let a = c.args in
    header_room a.number _ _ c.requires.1 (back32 c.i32_from_usize.result c.i32_from_usize.type_inv ∙ c.i32_from_usize.ensures) (omega (arith, c.requires.0))

pub returns : goal.returns
returns c =
    let a = c.args in
    header_put a.kind a.parent.now a.number a.out.now _ _ _ _ _ _ (omega arith) c.requires.0 c.requires.1 c.copy_bytes.ensures c.kind_byte.ensures c.put_byte.ensures (back32 c.i32_from_usize.result c.i32_from_usize.type_inv ∙ c.i32_from_usize.ensures) c.emit_i32.ensures
