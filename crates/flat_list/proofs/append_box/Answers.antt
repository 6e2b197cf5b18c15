-- `flat_list::append_box` meets its contract: 25, 17, 37, or the number at the end.
use mathlib.Core.Path.{sym, ap, ◌∙◌}
use native.Mathlib.Omega.{arith}
use lib.ListN.{set}
use mir.Syntax.{w64}
use Rattle.signed.specs.Sign.{is_negative}
use Rattle.signed.proofs.SignedLaws.{back}
use Rattle.flat_list.proofs.FlatLaws.{bounds, append_25, append_17, append_37, append_end}
use borrow.Author.Rules.{rules}
use Rattle.flat_list.proofs.append_box.Goals as goal

pub returns-then-not-flat_ok : goal.returns-then-not-flat_ok
returns-then-not-flat_ok c =
    let n = c.args.count in
    let l = c.args.list.now in
    let z = c.args.number.0 in
    let v = back w64 z (search rules) in
    append_25 n l z (sym c.flat_ok.ensures ∙ c.if-not-flat_ok.true)

pub returns-then-negative : goal.returns-then-negative
returns-then-negative c =
    let n = c.args.count in
    let l = c.args.list.now in
    let z = c.args.number.0 in
    let v = back w64 z (search rules) in
    append_17 n l z (sym c.flat_ok.ensures ∙ c.if-not-flat_ok.false) (ap is_negative (sym v) ∙ sym c.is_negative-negative.ensures ∙ c.if-negative.true)

pub returns-then-full : goal.returns-then-full
returns-then-full c =
    let n = c.args.count in
    let l = c.args.list.now in
    let z = c.args.number.0 in
    let v = back w64 z (search rules) in
    append_37 n l z (sym c.flat_ok.ensures ∙ c.if-not-flat_ok.false) (ap is_negative (sym v) ∙ sym c.is_negative-negative.ensures ∙ c.if-negative.false) c.if-full.true

pub bounds-list-count : goal.bounds-list-count
bounds-list-count c =
    let a = c.args in
    omega (arith, (bounds a.count a.list.now (sym c.flat_ok.ensures ∙ c.if-not-flat_ok.false)).1, c.if-full.false)

pub returns : goal.returns
returns c =
    let n = c.args.count in
    let l = c.args.list.now in
    let z = c.args.number.0 in
    let v = back w64 z (search rules) in
    append_end n l z (sym c.flat_ok.ensures ∙ c.if-not-flat_ok.false) (ap is_negative (sym v) ∙ sym c.is_negative-negative.ensures ∙ c.if-negative.false) c.if-full.false _ (ap (set l n) v)
