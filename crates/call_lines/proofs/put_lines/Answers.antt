-- By the turns of the loop: a line, and then those that are left.
use Rattle.std.proofs.Common.{ℤ, ◌≡◌, ◌+◌, ◌*◌, ◌<◌, length, take, sym, ap, ◌∙◌, arith, pos, rules}
use lib.Dec.{eqb}
use lib.ListN.{get_or}
use lib.Seq.{sets, length-take-le, get_or-take}
use mir.Syntax.{w64}
use mir.Val.{to_z, of_z, SFits}
use Rattle.signed.proofs.SignedLaws.{back}
use Rattle.stores.proofs.PutLaws.{put_as}
use Rattle.call_lines.specs.Lines.{line}
use Rattle.call_lines.proofs.LineLaws.{line_most, lines_past, lines_turn}
use Rattle.call_lines.proofs.put_lines.Goals as goal

pub loop-i-preserved : goal.loop-i-preserved
loop-i-preserved c =
    let a = c.args in
    let l = c.loop-i in
    let p = c.put_line-at in
    let long = length-take-le a.n a.numbers.now c.requires.1 in
    let t : l.i < a.n = omega arith in
    let z = get_or (take a.n a.numbers.now) l.i (pos 0) in
    let code = get_or a.answers.now (l.i * 2) 0 in
    let popped = eqb (get_or a.answers.now (l.i * 2 + 1) 0) 1 in
    let f : SFits w64 z = search rules in
    let q : to_z w64 (of_z w64 z) ≡ get_or a.numbers.now l.i (pos 0) = back w64 z f ∙ rw get_or-take in
    let e = put_as (ap (λ (y : ℤ). line (a.first + l.i) code popped y) q) l.out l.at p.result p.new.out p.ensures in
    let g = lines_turn a.first a.answers.now a.numbers.now a.n l.i t l.out l.at p.result p.new.out e in
    (omega (arith, e.0, line_most (a.first + l.i) code popped (get_or a.numbers.now l.i (pos 0))), l.invariant.1 ∙ g.0, l.invariant.2 ∙ g.1)

pub returns : goal.returns
returns c =
    let a = c.args in
    let l = c.loop-i in
    let long = length-take-le a.n a.numbers.now c.requires.1 in
    let g = lines_past a.first a.answers.now a.numbers.now a.n l.i (omega arith) in
    (omega (arith, ap length g), sym (l.invariant.2 ∙ ap (sets l.out l.at) g))
