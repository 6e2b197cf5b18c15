-- `flat_list::flip` meets its contract: 25, 9, 10, then the entry.
use mathlib.Core.Path.{sym, ap, ◌∙◌}
use lib.IntN.{nat_abs}
use mir.Syntax.{w64}
use Rattle.signed.proofs.SignedLaws.{back}
use native.Mathlib.Omega.{arith}
use Rattle.flat_list.proofs.FlatLaws.{bounds, flip_25, flip_9, flip_10, flip_on}
use borrow.Author.Rules.{rules}
use Rattle.flat_list.proofs.flip.Goals as goal

pub returns-then-not-flat_ok : goal.returns-then-not-flat_ok
returns-then-not-flat_ok c =
    let a = c.args in
    let n = a.count in
    let l = a.list.now in
    flip_25 n l a.spend a.target (sym c.flat_ok.ensures ∙ c.if-not-flat_ok.true)

pub returns-then-size-ge9223372036854775808 : goal.returns-then-size-ge9223372036854775808
returns-then-size-ge9223372036854775808 c =
    let a = c.args in
    let n = a.count in
    let l = a.list.now in
    flip_9 n l a.spend a.target (sym c.flat_ok.ensures ∙ c.if-not-flat_ok.false) _ (c.magnitude-size.ensures ∙ ap nat_abs (back w64 a.target (search rules))) c.if-size-ge9223372036854775808.true

pub order_ok-requires : goal.order_ok-requires
order_ok-requires c =
    let a = c.args in
    omega (arith, bounds a.count a.list.now (sym c.flat_ok.ensures ∙ c.if-not-flat_ok.false))

pub returns-then-not-order_ok : goal.returns-then-not-order_ok
returns-then-not-order_ok c =
    let a = c.args in
    let n = a.count in
    let l = a.list.now in
    flip_10 n l a.spend a.target (sym c.flat_ok.ensures ∙ c.if-not-flat_ok.false) _ (c.magnitude-size.ensures ∙ ap nat_abs (back w64 a.target (search rules))) c.if-size-ge9223372036854775808.false (sym c.order_ok.ensures ∙ c.if-not-order_ok.true)

pub flip_target-requires : goal.flip_target-requires
flip_target-requires c =
    let a = c.args in
    let b = bounds a.count a.list.now (sym c.flat_ok.ensures ∙ c.if-not-flat_ok.false) in
    (omega (arith, b.0, b.1), sym c.order_ok.ensures ∙ c.if-not-order_ok.false, c.if-size-ge9223372036854775808.false)

pub returns : goal.returns
returns c =
    let a = c.args in
    let n = a.count in
    let l = a.list.now in
    flip_on n l a.spend a.target (sym c.flat_ok.ensures ∙ c.if-not-flat_ok.false) _ (c.magnitude-size.ensures ∙ ap nat_abs (back w64 a.target (search rules))) c.if-size-ge9223372036854775808.false (sym c.order_ok.ensures ∙ c.if-not-order_ok.false) _ c.flip_target.ensures
