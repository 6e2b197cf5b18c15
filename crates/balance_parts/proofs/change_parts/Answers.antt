-- Each way out is a case of the definition: 25, then 23 of the nanoErgs, then what the tokens' loop answers.
use mathlib.Core.Path.{◌≡◌, sym, ◌∙◌}
use mathlib.Core.Bool.{true}
use mir.Syntax.{w64}
use borrow.Author.Rules.{rules}
use borrow.Author.Tests.{not-true, not-false}
use Rattle.signed.proofs.SignedLaws.{back, back64}
use Rattle.balance.specs.Boxes.{buffers_ok, nanos_after}
use Rattle.balance.specs.Parts.{flat}
use Rattle.balance.proofs.BoxLaws.{fit, nanos_fit, box_25, box_23, box_on}
use Rattle.balance_parts.proofs.change_parts.Goals as goal

pub returns-then-not-buffers_ok : goal.returns-then-not-buffers_ok
returns-then-not-buffers_ok c =
    let a = c.args in
    box_25 a.adding (flat a.held_ids.now a.held_amounts.now a.held_count.now a.held_nanos.now) a.nanos a.ids.now a.amounts.now a.count (sym c.buffers_ok.ensures ∙ c.if-not-buffers_ok.true)

pub change_held-requires : goal.change_held-requires
change_held-requires c =
    let a = c.args in
    let f = fit a.held_count.now a.ids.now a.amounts.now a.count (sym c.buffers_ok.ensures ∙ c.if-not-buffers_ok.false) in
    (f.few, f.ids_there, f.amounts_there)

pub returns-in-Ok : goal.returns-in-Ok
returns-in-Ok c =
    let a = c.args in
    let v = c.in-Some.sum in
    let p : buffers_ok a.held_count.now a.ids.now a.amounts.now a.count ≡ true = sym c.buffers_ok.ensures ∙ c.if-not-buffers_ok.false in
    let s : c.change_nanos.result ≡ nanos_after a.adding a.held_nanos.now a.nanos =
    c.change_nanos.ensures ∙ simp (back w64 a.held_nanos.now (search rules), back w64 a.nanos c.ranges.nanos) in
    let q = sym c.in-Some.is ∙ s in
    let d = rw c.in-Ok.is at c.change_held.ensures in
    rw (back64 v (nanos_fit a.adding a.held_nanos.now a.nanos v q))
    (box_on a.adding (flat a.held_ids.now a.held_amounts.now a.held_count.now a.held_nanos.now) a.nanos a.ids.now a.amounts.now a.count p v q _ d)

pub returns-in-Err : goal.returns-in-Err
returns-in-Err c =
    let a = c.args in
    let v = c.in-Some.sum in
    let p : buffers_ok a.held_count.now a.ids.now a.amounts.now a.count ≡ true = sym c.buffers_ok.ensures ∙ c.if-not-buffers_ok.false in
    let s : c.change_nanos.result ≡ nanos_after a.adding a.held_nanos.now a.nanos =
    c.change_nanos.ensures ∙ simp (back w64 a.held_nanos.now (search rules), back w64 a.nanos c.ranges.nanos) in
    let q = sym c.in-Some.is ∙ s in
    let d = rw c.in-Err.is at c.change_held.ensures in
    rw (d.1, d.2) (box_on a.adding (flat a.held_ids.now a.held_amounts.now a.held_count.now a.held_nanos.now) a.nanos a.ids.now a.amounts.now a.count p v q _ d.0)

pub returns-in-None : goal.returns-in-None
returns-in-None c =
    let a = c.args in
    let p : buffers_ok a.held_count.now a.ids.now a.amounts.now a.count ≡ true = sym c.buffers_ok.ensures ∙ c.if-not-buffers_ok.false in
    let s : c.change_nanos.result ≡ nanos_after a.adding a.held_nanos.now a.nanos =
    c.change_nanos.ensures ∙ simp (back w64 a.held_nanos.now (search rules), back w64 a.nanos c.ranges.nanos) in
    box_23 a.adding (flat a.held_ids.now a.held_amounts.now a.held_count.now a.held_nanos.now) a.nanos a.ids.now a.amounts.now a.count p (sym c.in-None.is ∙ s)
