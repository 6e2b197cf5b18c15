-- `vlq_writing::emit` meets its contract. The invariant: what is left to write from i on makes of the slice as it is now what all of the groups make of the slice at entry; the measure is what is left of the number.
use mathlib.Core.Path.{◌≡◌, refl, sym, ◌∙◌}
use Prim.Native.Nat.{◌+◌, ◌^◌, ◌<◌}
use lib.ListN.{length, length-set}
use lib.Seq.{sets}
use Rattle.vlq_core.specs.Groups.{enc}
use Rattle.vlq_core.proofs.WriteLaws.{write_step, write_last, length_step, length_last}
use native.Mathlib.Omega.{arith}
use Rattle.vlq_writing.proofs.emit.Statement.{statement}
use Rattle.vlq_writing.proofs.emit.Tie as tie

abbrev invariant_loop : tie.invariant-loop-c
invariant_loop coded out₀ at c₀ i₀ out c i =
    (c < 2 ^ 64) × (length out ≡ length out₀) × (at + length (enc coded) ≡ i + length (enc c)) × (sets out₀ at (enc coded) ≡ sets out i (enc c))

abbrev decreases_loop : tie.decreases-loop-c
decreases_loop coded out₀ at c₀ i₀ out c i = c

loop-holds : tie.Need-loop-c-init invariant_loop decreases_loop
loop-holds c = (c.ranges.coded.fits, refl, refl, refl)

add_out : tie.Need-overflow_add-out invariant_loop decreases_loop
add_out c = omega arith

cast_out : tie.Need-overflow_cast-out invariant_loop decreases_loop
cast_out c = omega arith

slice_write_out : tie.Need-bounds-out-i invariant_loop decreases_loop
slice_write_out c = omega (arith, length_step _ c.loop-c-test.true c.before.loop-c.invariant.0)

add_i : tie.Need-overflow_add-i invariant_loop decreases_loop
add_i c = omega (arith, length_step _ c.loop-c-test.true c.before.loop-c.invariant.0)

loop-less : tie.Need-loop-c-smaller invariant_loop decreases_loop
loop-less c = omega arith

loop-again : tie.Need-loop-c-preserved invariant_loop decreases_loop
loop-again c =
    let t = c.loop-c-test.true in
    let inv = c.before.loop-c.invariant in
    (omega arith, simp length-set inv.1, omega (arith, length_step _ t inv.0), inv.3 ∙ write_step _ _ _ t inv.0)

cast_out_2 : tie.Need-overflow_cast-out-2 invariant_loop decreases_loop
cast_out_2 c = omega arith

slice_write_out_2 : tie.Need-bounds-out-i-2 invariant_loop decreases_loop
slice_write_out_2 c = omega (arith, length_last _ c.loop-c-test.false)

add_result : tie.Need-overflow_add-result invariant_loop decreases_loop
add_result c = omega (arith, length_last _ c.loop-c-test.false)

same_length : tie.Need-shape_of-out invariant_loop decreases_loop
same_length c = simp length-set c.before.loop-c.invariant.1

returns : tie.Need-returns invariant_loop decreases_loop
returns c =
    let inv = c.before.loop-c.invariant in
    (omega (arith, length_last _ c.loop-c-test.false), sym (inv.3 ∙ write_last _ _ _ c.loop-c-test.false))

pub emit_spec : {M : Type 1} → statement M
emit_spec =
    tie.close
    (tie.spec
    invariant_loop
    decreases_loop
    loop-holds
    add_out
    cast_out
    slice_write_out
    add_i
    loop-less
    loop-again
    cast_out_2
    slice_write_out_2
    add_result
    same_length
    returns)
