-- `address_writing::emit_balance` meets its contract: nanoErgs, the count, the tokens, one after the other.
use mathlib.Core.Path.{refl, ap, ◌∙◌}
use lib.IntN.{ℤ}
use mir.Syntax.{w32, w64}
use mir.Facts.{to_z-of_z}
use Rattle.vlq_core.specs.Zigzag.{zig}
use Rattle.vlq_core.specs.Groups.{enc}
use Rattle.segment_core.proofs.RowLaws.{both_put, length_bytes}
use Rattle.address_writing.proofs.emit_balance.Goals as goal

pub returns : goal.returns
returns c = let a = c.args in
    let q = to_z-of_z {w = w64} c.ranges.nanos in
    let f = c.i32_from_usize in
    let x = to_z-of_z {w = w32} (record { sfits = f.type_inv }) ∙ f.ensures in
    both_put (ap (λ (z : ℤ). enc (zig z)) q) refl _ _ _ _ _ _ c.emit_i64-o.ensures
    (both_put (length_bytes a.n a.amounts.now c.requires.0.1 _ x) refl _ _ _ _ _ _ c.emit_i32-p.ensures c.emit_tokens.ensures)
