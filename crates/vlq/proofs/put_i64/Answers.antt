-- `vlq::put_i64` meets its contract: the length is tested, then written; one law for each way out.
use mathlib.Core.Path.{ap}
use lib.IntN.{ℤ}
use mir.Syntax.{w64}
use mir.Facts.{to_z-of_z}
use Rattle.vlq_core.specs.Zigzag.{zig}
use Rattle.vlq_core.specs.Groups.{enc}
use Rattle.vlq_core.proofs.WriteLaws.{put_short, put_done}
use Rattle.vlq.proofs.put_i64.Goals as goal

pub returns-then-not-has_room : goal.returns-then-not-has_room
returns-then-not-has_room c =
    let h = c.has_room in
    put_short (ap (λ (z : ℤ). enc (zig z)) (to_z-of_z {w = w64} c.ranges.n)) c.args.out.now c.args.at _ c.number_len.ensures.0 h.result h.ensures (c.if-not-has_room.true)

pub returns : goal.returns
returns c =
    let h = c.has_room in
    put_done (ap (λ (z : ℤ). enc (zig z)) (to_z-of_z {w = w64} c.ranges.n)) c.args.out.now c.args.at _ c.number_len.ensures.0 h.result h.ensures (c.if-not-has_room.false) _ _ c.emit_i64.ensures
