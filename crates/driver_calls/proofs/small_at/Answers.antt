-- By the step of a byte.
use Rattle.std.proofs.Common.{◌≡◌, ◌+◌, ◌-◌, ◌<◌, length, take, drop, refl, ◌∙◌, arith, length-drop, get_or}
use lib.ListN.{length-take}
use lib.Seq.{get_or-take, get_or-drop}
use Rattle.big_endian.specs.BigEndian.{value_of}
use Rattle.big_endian.proofs.ByteLaws.{value_step, value_grown}
use Rattle.driver_calls.proofs.small_at.Goals as goal

pub loop-byte-init : goal.loop-byte-init
unfolding value_of
loop-byte-init c = (refl, omega arith)

pub loop-byte-preserved : goal.loop-byte-preserved
loop-byte-preserved c =
    let s = c.args.s.now in
    let at = c.args.at in
    let l = c.loop-byte in
    let t = simp (length-take, length-drop) at c.loop-byte-test.true in
    let h : l.byte-index < at + 4 - at = omega arith in
    let e : c.byte_number.result ≡ get_or s (at + l.byte-index) 0 = c.byte_number.ensures ∙ rw (get_or-take, get_or-drop) in
    let b : get_or s (at + l.byte-index) 0 < 256 = omega (arith, c.type_inv.s (at + l.byte-index)) in
    rw e (value_step s at l.byte-index l.n (omega arith) l.invariant.0, value_grown l.byte-index l.n _ l.invariant.1 b)
