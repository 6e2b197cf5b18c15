-- By the turn of the loop: an amount, and those left.
use Rattle.std.proofs.Common.{◌≡◌, ◌<◌, length, sym, ◌∙◌, arith}
use lib.Seq.{length-take-le, take_at, take_all}
use Rattle.signed.proofs.SignedLaws.{back64}
use Rattle.driver_changes.proofs.TokenLaws.{amounts_next, amounts_end}
use Rattle.driver_changes.proofs.read_amounts.Goals as goal

pub loop-k-preserved : goal.loop-k-preserved
loop-k-preserved c =
    let a = c.args in
    let l = c.loop-k in
    let n = c.number_at in
    let long = length-take-le a.n a.amounts.now c.requires.1 in
    let t : l.k < a.n = omega arith in
    amounts_next a.s.now a.a l.k a.n l.amount-items _ t (omega arith) (back64 n.result n.type_inv ∙ n.ensures) l.invariant

pub returns : goal.returns
returns c =
    let a = c.args in
    let l = c.loop-k in
    let long = length-take-le a.n a.amounts.now c.requires.1 in
    let e : length l.amount-items ≡ a.n = omega arith in
    take_at l.amount-items _ a.n e ∙ sym (take_all a.n l.amount-items (omega arith))
    ∙ amounts_end a.s.now a.a a.n l.k l.amount-items (omega arith) (omega arith) l.invariant
