-- `segment_writing::emit_counts` meets its contract: two numbers, one after the other.
use mathlib.Core.Path.{ap}
use lib.IntN.{ℤ}
use mir.Syntax.{w32}
use mir.Facts.{to_z-of_z}
use Rattle.vlq_core.specs.Zigzag.{zig}
use Rattle.vlq_core.specs.Groups.{enc}
use Rattle.segment_core.proofs.RowLaws.{both_put}
use Rattle.segment_writing.proofs.emit_counts.Goals as goal

pub returns : goal.returns
returns c =
    let p = ap (λ (z : ℤ). enc (zig z)) (to_z-of_z {w = w32} c.ranges.b) in
    let q = ap (λ (z : ℤ). enc (zig z)) (to_z-of_z {w = w32} c.ranges.t) in
    both_put p q _ _ _ _ _ _ c.emit_i32-o.ensures c.emit_i32.ensures
