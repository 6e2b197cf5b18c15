-- `address_writing::emit_token` meets its contract: the id, then the amount.
use mathlib.Core.Path.{◌≡◌, ap}
use Prim.Native.Nat.{ℕ, ◌+◌, ◌*◌, ◌-◌}
use lib.IntN.{ℤ}
use lib.ListN.{take, drop}
use mir.Syntax.{w64}
use mir.Facts.{to_z-of_z}
use Rattle.vlq_core.specs.Zigzag.{zig}
use Rattle.vlq_core.specs.Groups.{enc}
use Rattle.segment_core.proofs.RowLaws.{both_put}
use native.Mathlib.Omega.{arith}
use Rattle.address_writing.proofs.emit_token.Goals as goal

pub returns : goal.returns
returns c = let a = c.args in
    let e : a.place * 32 + 32 - a.place * 32 ≡ 32 = omega arith in
    both_put (ap (λ (k : ℕ). take k (drop (a.place * 32) a.ids.now)) e) (ap (λ (z : ℤ). enc (zig z)) (to_z-of_z {w = w64} c.ranges.amount)) _ _ _ _ _ _ c.put_bytes-o.ensures c.emit_i64.ensures
