-- `flat_list::pop_box` meets its contract: 25, 19, or the last number.
use mathlib.Core.Path.{sym, ◌∙◌}
use native.Mathlib.Omega.{arith}
use Rattle.signed.proofs.SignedLaws.{back64}
use Rattle.flat_list.proofs.FlatLaws.{bounds, pop_25, pop_19, pop_last}
use Rattle.flat_list.proofs.pop_box.Goals as goal

pub returns-then-not-flat_ok : goal.returns-then-not-flat_ok
returns-then-not-flat_ok c =
    let a = c.args in
    let n = a.count in
    let l = a.list.now in
    pop_25 n l (sym c.flat_ok.ensures ∙ c.if-not-flat_ok.true)

pub returns-then-count-eq0 : goal.returns-then-count-eq0
returns-then-count-eq0 c =
    let a = c.args in
    let n = a.count in
    let l = a.list.now in
    pop_19 n l (sym c.flat_ok.ensures ∙ c.if-not-flat_ok.false) c.if-count-eq0.true

pub take_last-last-requires : goal.take_last-last-requires
take_last-last-requires c =
    let a = c.args in
    let b = bounds a.count a.list.now (sym c.flat_ok.ensures ∙ c.if-not-flat_ok.false) in
    (omega (arith, c.if-count-eq0.false), omega (arith, b.0, b.1))

pub returns : goal.returns
returns c =
    let a = c.args in
    let n = a.count in
    let l = a.list.now in
    pop_last n l (sym c.flat_ok.ensures ∙ c.if-not-flat_ok.false) c.if-count-eq0.false _ _ (back64 c.take_last-last.result c.take_last-last.type_inv ∙ c.take_last-last.ensures.0) c.take_last-last.ensures.1
