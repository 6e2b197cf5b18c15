-- The text of the number is "-" and the decimal of its absolute value where it is negative, else that decimal alone.
use mathlib.Core.Path.{sym, ap, ◌∙◌}
use native.Mathlib.Omega.{arith}
use lib.IntN.{nat_abs}
use lib.ListN.{length, length-set}
use mir.Syntax.{w64}
use Rattle.signed.specs.Sign.{is_negative}
use Rattle.signed.proofs.SignedLaws.{back}
use Rattle.stores.proofs.PutLaws.{put_as, put_cons}
use Rattle.text.specs.Text.{decimal}
use Rattle.text.proofs.TextLaws.{number_neg, number_pos}
use Rattle.text.proofs.put_number.Goals as goal

pub bounds-out-at : goal.bounds-out-at
bounds-out-at c = omega (arith, ap length ((let e = back w64 c.args.z c.ranges.z in number_neg c.args.z _ (c.magnitude-n.ensures ∙ ap nat_abs e) (sym (c.is_negative.ensures ∙ ap is_negative e) ∙ c.if-is_negative.true))))

pub put_decimal-requires : goal.put_decimal-requires
put_decimal-requires c = rw length-set (omega (arith, ap length ((let e = back w64 c.args.z c.ranges.z in number_neg c.args.z _ (c.magnitude-n.ensures ∙ ap nat_abs e) (sym (c.is_negative.ensures ∙ ap is_negative e) ∙ c.if-is_negative.true)))))

pub put_decimal-requires-else-is_negative : goal.put_decimal-requires-else-is_negative
put_decimal-requires-else-is_negative c = omega (arith, ap length ((let e = back w64 c.args.z c.ranges.z in number_pos c.args.z _ (c.magnitude-n.ensures ∙ ap nat_abs e) (sym (c.is_negative.ensures ∙ ap is_negative e) ∙ c.if-is_negative.false))))

pub returns-then-is_negative : goal.returns-then-is_negative
returns-then-is_negative c =
    let k = c in
    let a = k.args in
    put_as (sym ((let k = k in let s = k in let e = back w64 s.args.z s.ranges.z in number_neg s.args.z _ (k.magnitude-n.ensures ∙ ap nat_abs e) (sym (k.is_negative.ensures ∙ ap is_negative e) ∙ k.if-is_negative.true)))) a.out.now a.at _ _ (put_cons 45 (decimal k.magnitude-n.result) a.out.now a.at _ _ c.put_decimal.ensures)

pub returns-else-is_negative : goal.returns-else-is_negative
returns-else-is_negative c =
    let k = c in
    let a = k.args in
    put_as (sym ((let k = k in let s = k in let e = back w64 s.args.z s.ranges.z in number_pos s.args.z _ (k.magnitude-n.ensures ∙ ap nat_abs e) (sym (k.is_negative.ensures ∙ ap is_negative e) ∙ k.if-is_negative.false)))) a.out.now a.at _ _ c.put_decimal-else-is_negative.ensures
