-- By the step of a number: its bytes, and the room of what is left.
use Rattle.std.proofs.Common.{◌<◌, ◌≤◌, ◌≡◌, length, take, sym, ap, ◌∙◌, arith, pos, rules}
use mir.Syntax.{w64}
use mir.Val.{to_z, of_z, SFits}
use lib.ListN.{get_or}
use lib.Seq.{sets, length-take-le, get_or-take}
use Rattle.vlq_core.specs.Zigzag.{zig}
use Rattle.vlq_core.specs.Groups.{enc}
use Rattle.vlq_core.proofs.GroupLaws.{number_length}
use Rattle.segment_core.proofs.RowLaws.{emit_step, room_step, past}
use Rattle.segment_writing.proofs.emit_numbers.Goals as goal

pub emit_i64-o-requires : goal.emit_i64-o-requires
emit_i64-o-requires c =
    let xs = c.args.xs.now in
    let i = c.loop-x.x-index in
    let k = length-take-le c.args.n xs c.requires.0 in
    let h : i < c.args.n = omega arith in
    let z = get_or (take c.args.n xs) i (pos 0) in
    let f : SFits w64 z = search rules in
    let q : to_z w64 (of_z w64 z) ≡ z = search rules in
    let ten : length (enc (zig (to_z w64 (of_z w64 z)))) ≤ 10 = rw q (number_length w64 9 (omega arith) z f).1 in
    (room_step xs c.args.n i _ h c.requires.0 (q ∙ rw get_or-take) _ _ ten c.loop-x.invariant.1).0

pub loop-x-preserved : goal.loop-x-preserved
loop-x-preserved c =
    let l = c.loop-x in
    let e = c.emit_i64-o.ensures in
    let xs = c.args.xs.now in
    let i = l.x-index in
    let k = length-take-le c.args.n xs c.requires.0 in
    let h : i < c.args.n = omega arith in
    let z = get_or (take c.args.n xs) i (pos 0) in
    let f : SFits w64 z = search rules in
    let q : to_z w64 (of_z w64 z) ≡ z = search rules in
    let ten : length (enc (zig (to_z w64 (of_z w64 z)))) ≤ 10 = rw q (number_length w64 9 (omega arith) z f).1 in
    let g = emit_step xs c.args.n i _ h c.requires.0 (q ∙ rw get_or-take) _ _ _ _ e in
    let r = room_step xs c.args.n i _ h c.requires.0 (q ∙ rw get_or-take) _ _ ten l.invariant.1 in
    (omega (arith, e.0), rw (e.0, c.emit_i64-o.auto.out) r.1, l.invariant.2 ∙ g.0, l.invariant.3 ∙ g.1)

pub returns : goal.returns
returns c =
    let l = c.loop-x in
    let k = length-take-le c.args.n c.args.xs.now c.requires.0 in
    let g = past c.args.xs.now c.args.n l.x-index (omega arith) c.requires.0 in
    ((omega (arith, ap length g), sym (l.invariant.3 ∙ ap (sets l.out l.o) g)), omega arith)
