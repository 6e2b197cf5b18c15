-- The two tests are those of the comparison.
use mathlib.Core.Path.{sym, ◌∙◌}
use lib.Signed.{lt_z}
use mir.Syntax.{w64}
use borrow.Author.Rules.{rules}
use Rattle.signed.proofs.SignedLaws.{back}
use Rattle.address_order.proofs.ListOrder.{signed_below, signed_above, signed_equal}
use Rattle.token_order.proofs.compare_signed.Goals as goal

pub returns-then-x-y : goal.returns-then-x-y
returns-then-x-y c = signed_below _ _ (let e = back w64 c.args.x (search rules) in let g = back w64 c.args.y (search rules) in (λ i. lt_z (sym e i) (sym g i)) ∙ c.if-x-y.true)

pub returns-then-y-x : goal.returns-then-y-x
returns-then-y-x c =
    let a = c.args in
    let e = back w64 a.x (search rules) in
    let g = back w64 a.y (search rules) in
    signed_above _ _ ((λ i. lt_z (sym e i) (sym g i)) ∙ c.if-x-y.false) ((λ i. lt_z (sym g i) (sym e i)) ∙ c.if-y-x.true)

pub returns : goal.returns
returns c =
    let a = c.args in
    let e = back w64 a.x (search rules) in
    let g = back w64 a.y (search rules) in
    signed_equal _ _ ((λ i. lt_z (sym e i) (sym g i)) ∙ c.if-x-y.false) ((λ i. lt_z (sym g i) (sym e i)) ∙ c.if-y-x.false)
