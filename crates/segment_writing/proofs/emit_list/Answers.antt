-- `segment_writing::emit_list` meets its contract: the length, then the numbers.
use mathlib.Core.Path.{refl, ap, ◌∙◌}
use lib.IntN.{ℤ}
use lib.ListN.{length}
use mir.Syntax.{w32}
use mir.Facts.{to_z-of_z}
use Rattle.vlq_core.specs.Zigzag.{zig}
use Rattle.vlq_core.specs.Groups.{enc}
use Rattle.segment_core.proofs.RowLaws.{length_bytes, length_size, list_room, both_put}
use native.Mathlib.Omega.{arith}
use Rattle.segment_writing.proofs.emit_list.Goals as goal

pub emit_i32-o-requires : goal.emit_i32-o-requires
emit_i32-o-requires c =
    let f = c.i32_from_usize in
    let x = to_z-of_z {w = w32} (record { sfits = f.type_inv }) ∙ f.ensures in
    (list_room c.args.n c.args.xs.now c.requires.0 _ x c.args.at (length c.args.out.now) c.requires.1).0

pub emit_numbers-requires : goal.emit_numbers-requires
emit_numbers-requires c =
    let f = c.i32_from_usize in
    let x = to_z-of_z {w = w32} (record { sfits = f.type_inv }) ∙ f.ensures in
    let e = c.emit_i32-o in
    (c.requires.0.1, rw (e.ensures.0, c.emit_i32-o.auto.out) (list_room c.args.n c.args.xs.now c.requires.0 _ x c.args.at (length c.args.out.now) c.requires.1).1)

pub returns : goal.returns
returns c =
    let f = c.i32_from_usize in
    let x = to_z-of_z {w = w32} (record { sfits = f.type_inv }) ∙ f.ensures in
    let e = c.emit_i32-o.ensures in
    let m = c.emit_numbers.ensures in
    let two = ap (λ (z : ℤ). length (enc (zig z))) x in
    (both_put (length_bytes c.args.n c.args.xs.now c.requires.0.1 _ x) refl _ _ _ _ _ _ e m.0, omega (arith, e.0, m.1, length_size c.args.n c.requires.0.0, c.requires.0.0))
