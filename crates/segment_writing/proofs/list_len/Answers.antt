-- `segment_writing::list_len` meets its contract: the length, then the numbers.
use mathlib.Core.Path.{refl, ap, ◌∙◌}
use lib.IntN.{ℤ}
use lib.ListN.{length}
use mir.Syntax.{w32}
use mir.Facts.{to_z-of_z}
use Rattle.vlq_core.specs.Zigzag.{zig}
use Rattle.vlq_core.specs.Groups.{enc}
use Rattle.segment_core.proofs.RowLaws.{length_bytes, length_size, both_size}
use native.Mathlib.Omega.{arith}
use Rattle.segment_writing.proofs.list_len.Goals as goal

pub returns : goal.returns
returns c =
    let f = c.i32_from_usize in
    let n = c.number_len_i32.ensures.0 in
    let x = to_z-of_z {w = w32} (record { sfits = f.type_inv }) ∙ f.ensures in
    let k = ap (λ (z : ℤ). length (enc (zig z))) x in
    (both_size (length_bytes c.args.n c.args.xs.now c.requires.1 _ x) refl _ _ n c.numbers_len.ensures.0, omega (arith, length_size c.args.n c.requires.0))
