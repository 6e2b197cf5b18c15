-- By the step of a number.
use Rattle.std.proofs.Common.{◌<◌, ◌≡◌, length, take, ap, ◌∙◌, arith, pos, rules}
use mir.Syntax.{w64}
use mir.Val.{to_z, of_z}
use lib.ListN.{get_or}
use lib.Seq.{length-take-le, get_or-take}
use Rattle.segment_core.proofs.RowLaws.{size_step, past}
use Rattle.segment_writing.proofs.numbers_len.Goals as goal

pub loop-x-preserved : goal.loop-x-preserved
loop-x-preserved c =
    let xs = c.args.xs.now in
    let i = c.loop-x.x-index in
    let k = length-take-le c.args.n xs c.requires.1 in
    let h : i < c.args.n = omega arith in
    let z = get_or (take c.args.n xs) i (pos 0) in
    let q : to_z w64 (of_z w64 z) ≡ z = search rules in
    let g = size_step xs c.args.n i _ h c.requires.1 (q ∙ rw get_or-take) in
    (omega arith, omega arith)

pub returns : goal.returns
returns c =
    let xs = c.args.xs.now in
    let k = length-take-le c.args.n xs c.requires.1 in
    let g = ap length (past xs c.args.n c.loop-x.x-index (omega arith) c.requires.1) in
    (omega arith, omega arith)
