-- An entry that the walk takes stands in the row and can be negated.
use mathlib.Core.Path.{◌≡◌, refl, ap, ◌∙◌}
use mathlib.Core.Bool.{Bool, true, false, cond, ◌&&◌}
use mathlib.Core.List.{List}
use Prim.Native.Nat.{ℕ, ◌<◌}
use native.Mathlib.Omega.{arith}
use lib.Dec.{eqb, ltb}
use lib.IntN.{ℤ, pos, nat_abs}
use lib.ListN.{length, get_or}
use Rattle.entries.specs.Order.{order_ok}
use Rattle.entries.specs.Flip.{position}
use Rattle.entries.specs.declared.Position.{Position}
use Rattle.entries.specs.declared.Position.TheVariants.{At, Seen, Absent}
use Rattle.entries.proofs.PositionLaws.{spot}
use Rattle.buffer_core.specs.declared.Look.TheVariants.{Take, Stop}
use Rattle.buffer_core.specs.Edition.{RowRead, good, bad}
use Rattle.buffer_core.specs.Flip.{check_row, first_of, last_in, look_past, look_by, look_in, look_of}
use Rattle.spill_rows.proofs.CheckedLaws.{nope}
use Rattle.flip_stage.specs.Internal.{Takes}

pub position_takes : (zs : List ℤ) (t : ℕ) (d : Bool) (i : ℕ) → t < 9223372036854775808 → position d t zs 0 false ≡ At i → Takes (good zs) i
position_takes zs t d i small e =
    let s = spot d t zs 0 false i e in
    let q : s.at ≡ i = omega (arith, s.is) in
    record { numbers = zs; read = refl; inside = omega (arith, s.inside); small = omega (arith, s.size, ap (λ (k : ℕ). nat_abs (get_or zs k (pos 0))) q) }

look_takes : (zs : List ℤ) (t : ℕ) (d : Bool) (i : ℕ) → t < 9223372036854775808 → look_in zs t d ≡ Take i → Takes (good zs) i
unfolding look_in
look_takes zs t d i small e = by_last (ltb (last_in zs) t) e
  where
    by_end : (b s : Bool) → look_past b s ≡ Take i → Takes (good zs) i
    by_end true s e = nope (cc)
    by_end false s e = nope (cc)

    by_place : (p : Position) (b : Bool) → position d t zs 0 false ≡ p → look_by p b ≡ Take i → Takes (good zs) i
    by_place (At j) b q e = let k : j ≡ i = cc in position_takes zs t d i small (q ∙ ap At k)
    by_place Seen b q e = by_end b true e
    by_place Absent b q e = by_end b false e

    by_last : (b : Bool) → cond b (Stop false) (look_by (position d t zs 0 false) (ltb (first_of zs) t)) ≡ Take i → Takes (good zs) i
    by_last true e = nope (cc)
    by_last false e = by_place (position d t zs 0 false) (ltb (first_of zs) t) refl e

pub row_takes : (x : RowRead) (t : ℕ) (d : Bool) (i : ℕ) → t < 9223372036854775808 → look_of (check_row x) t d ≡ Take i → Takes x i
row_takes (bad c) t d i small e = nope (cc)
row_takes (good zs) t d i small e = by_check (eqb (length zs) 512 && order_ok zs) e
  where
    by_check : (b : Bool) → look_of (cond b (good zs) (bad 13)) t d ≡ Take i → Takes (good zs) i
    by_check true e = look_takes zs t d i small e
    by_check false e = nope (cc)
