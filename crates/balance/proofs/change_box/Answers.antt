-- Each way out is a case of the definition: 25, then 23 of the nanoErgs, then what the tokens' loop answers.
use mathlib.Core.Path.{sym, ◌∙◌}
use mathlib.Core.Bool.{true}
use mir.Syntax.{w64}
use mir.Val.{SFits}
use borrow.Author.Rules.{rules}
use Rattle.signed.proofs.SignedLaws.{back, back64}
use Rattle.balance.specs.Boxes.{buffers_ok}
use Rattle.balance.proofs.BoxLaws.{fit, nanos_fit, box_25, box_23, box_on}
use Rattle.balance.proofs.change_box.Goals as goal

pub returns-then-not-buffers_ok : goal.returns-then-not-buffers_ok
returns-then-not-buffers_ok c =
    box_25 c.args.adding c.args.balance c.args.nanos c.args.ids.now c.args.amounts.now c.args.count (sym c.buffers_ok.ensures ∙ c.if-not-buffers_ok.true)

pub change_tokens-requires : goal.change_tokens-requires
change_tokens-requires c =
    let f = fit c.args.balance.count c.args.ids.now c.args.amounts.now c.args.count (sym c.buffers_ok.ensures ∙ c.if-not-buffers_ok.false) in
    (search rules, search rules, f.few, f.ids_there, f.amounts_there)

pub returns-in-Ok : goal.returns-in-Ok
returns-in-Ok c =
    let v = c.in-Some.sum in
    let q = sym c.in-Some.is ∙ (let h : SFits w64 c.args.balance.nanos = search rules in c.change_nanos.ensures ∙ simp (back w64 c.args.balance.nanos h, back w64 c.args.nanos c.ranges.nanos)) in
    let d = rw c.in-Ok.is at c.change_tokens.ensures in
    rw (back64 v (nanos_fit c.args.adding c.args.balance.nanos c.args.nanos v q)) (box_on c.args.adding c.args.balance c.args.nanos c.args.ids.now c.args.amounts.now c.args.count (sym c.buffers_ok.ensures ∙ c.if-not-buffers_ok.false) v q _ d)

pub returns-in-Err : goal.returns-in-Err
returns-in-Err c =
    let v = c.in-Some.sum in
    let q = sym c.in-Some.is ∙ (let h : SFits w64 c.args.balance.nanos = search rules in c.change_nanos.ensures ∙ simp (back w64 c.args.balance.nanos h, back w64 c.args.nanos c.ranges.nanos)) in
    let d = rw c.in-Err.is at c.change_tokens.ensures in
    box_on c.args.adding c.args.balance c.args.nanos c.args.ids.now c.args.amounts.now c.args.count (sym c.buffers_ok.ensures ∙ c.if-not-buffers_ok.false) v q _ d

pub returns-in-None : goal.returns-in-None
returns-in-None c =
    box_23 c.args.adding c.args.balance c.args.nanos c.args.ids.now c.args.amounts.now c.args.count (sym c.buffers_ok.ensures ∙ c.if-not-buffers_ok.false) (sym c.in-None.is ∙ (let h : SFits w64 c.args.balance.nanos = search rules in c.change_nanos.ensures ∙ simp (back w64 c.args.balance.nanos h, back w64 c.args.nanos c.ranges.nanos)))
