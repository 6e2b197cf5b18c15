-- `row_fronts::emit_front` meets its contract: the parent, the kind byte and the number stand one after the other.
use mathlib.Core.Path.{ap}
use lib.IntN.{ℤ}
use mir.Syntax.{w32}
use mir.Facts.{to_z-of_z}
use Rattle.vlq_core.specs.Zigzag.{zig}
use Rattle.vlq_core.specs.Groups.{enc}
use Rattle.row_fronts.proofs.FrontLaws.{front_put}
use Rattle.row_fronts.proofs.emit_front.Goals as goal

pub returns : goal.returns
returns c =
    let a = c.args in
    front_put a.parent.now a.kind a.number _ a.out.now _ _ _ _ _ _ (ap (λ (z : ℤ). enc (zig z)) (to_z-of_z {w = w32} c.ranges.number)) c.put_bytes-kind_at.ensures c.put_byte-number_at.ensures c.emit_i32.ensures
