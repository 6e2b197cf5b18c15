-- By the step of a token.
use Rattle.std.proofs.Common.{◌<◌, ◌≡◌, take, length, sym, ap, ◌∙◌, arith, pos, rules}
use mir.Syntax.{w64}
use mir.Val.{to_z, of_z}
use lib.ListN.{get_or}
use lib.Seq.{sets, length-take-le, get_or-take}
use Rattle.address_core.proofs.BytesLaws.{turn_size, turn_put, turns_end}
use Rattle.address_writing.proofs.emit_tokens.Goals as goal

pub emit_token-o-requires : goal.emit_token-o-requires
emit_token-o-requires c =
    let a = c.args in
    let l = c.loop-i in
    let k = length-take-le a.n a.amounts.now c.requires.0.1 in
    let h : l.i < a.n = omega arith in
    let z = get_or (take a.n a.amounts.now) l.i (pos 0) in
    let q : to_z w64 (of_z w64 z) ≡ z = search rules in
    let g = turn_size a.ids.now a.amounts.now a.n l.i _ h c.requires.0.1 (q ∙ rw get_or-take) in
    (omega (arith, c.requires.0.2), omega (arith, g, l.invariant.0, c.requires.1))

pub loop-i-preserved : goal.loop-i-preserved
loop-i-preserved c =
    let a = c.args in
    let l = c.loop-i in
    let k = length-take-le a.n a.amounts.now c.requires.0.1 in
    let h : l.i < a.n = omega arith in
    let z = get_or (take a.n a.amounts.now) l.i (pos 0) in
    let q : to_z w64 (of_z w64 z) ≡ z = search rules in
    let g = turn_put a.ids.now a.amounts.now a.n l.i _ h c.requires.0.1 (q ∙ rw get_or-take) _ _ _ _ c.emit_token-o.ensures in
    (l.invariant.0 ∙ g.0, l.invariant.1 ∙ g.1)

pub returns : goal.returns
returns c =
    let a = c.args in
    let l = c.loop-i in
    let k = length-take-le a.n a.amounts.now c.requires.0.1 in
    let g = turns_end a.ids.now a.amounts.now a.n l.i (omega arith) c.requires.0.1 in
    (omega (arith, l.invariant.0, ap length g), sym (l.invariant.1 ∙ ap (sets l.out l.o) g))
