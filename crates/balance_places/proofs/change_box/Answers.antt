-- Each way out is a case of the definition over the balance at entry: 25, then 23 of the nanoErgs, then what the tokens answer.
use mathlib.Core.Path.{◌≡◌, refl, sym, ap, ◌∙◌}
use mathlib.Core.Bool.{true}
use native.Mathlib.Omega.{arith}
use mir.Syntax.{w64}
use borrow.Author.Rules.{rules}
use borrow.Author.Tests.{not-true, not-false}
use Rattle.signed.proofs.SignedLaws.{back, back64}
use Rattle.balance_tokens.specs.Tokens.{change_tokens}
use Rattle.balance.specs.declared.Outcome.{Outcome}
use Rattle.balance.specs.Boxes.{buffers_ok, nanos_after, held_by}
use Rattle.balance.proofs.BoxLaws.{fit, nanos_fit, box_25, box_23, box_on}
use Rattle.call_steps.specs.State.{balance_of}
use Rattle.call_steps.specs.Steps.{changed_by}
use Rattle.balance_places.proofs.PlaceLaws.{unchanged, token_refused, tokens_taken}
use Rattle.balance_places.proofs.change_box.Goals as goal

pub returns-then-not-buffers_ok : goal.returns-then-not-buffers_ok
returns-then-not-buffers_ok c =
    let a = c.args in
    rw c.says.ensures
    (unchanged a.p a.ids.now a.numbers.now a.lengths.now c.requires.0 c.requires.1 c.requires.2 25
    ∙ ap (λ (o : Outcome). changed_by o a.p a.ids.now a.numbers.now a.lengths.now)
    (box_25 a.adding (balance_of a.p a.ids.now a.numbers.now a.lengths.now) a.nanos a.box_ids.now a.box_amounts.now a.n (sym c.buffers_ok.ensures ∙ c.if-not-buffers_ok.true)))

pub change_tokens-requires : goal.change_tokens-requires
change_tokens-requires c =
    let a = c.args in
    let b = balance_of a.p a.ids.now a.numbers.now a.lengths.now in
    let f = fit b.count a.box_ids.now a.box_amounts.now a.n (sym c.buffers_ok.ensures ∙ c.if-not-buffers_ok.false) in
    (omega (arith, c.requires.0), omega (arith, c.requires.1), f.few, f.ids_there, f.amounts_there)

pub returns-in-Ok : goal.returns-in-Ok
returns-in-Ok c =
    let a = c.args in
    let b = balance_of a.p a.ids.now a.numbers.now a.lengths.now in
    let v = c.in-Some.sum in
    let p : buffers_ok b.count a.box_ids.now a.box_amounts.now a.n ≡ true = sym c.buffers_ok.ensures ∙ c.if-not-buffers_ok.false in
    let s : c.change_nanos.result ≡ nanos_after a.adding b.nanos a.nanos = c.change_nanos.ensures ∙ simp (back64 b.nanos (search rules), back w64 a.nanos c.ranges.nanos) in
    let q = sym c.in-Some.is ∙ s in
    let x = change_tokens a.adding a.box_ids.now a.box_amounts.now 0 a.n (held_by b) in
    let d = rw c.in-Ok.is at c.change_tokens.ensures in
    rw (c.says-in-Ok.ensures, back64 v (nanos_fit a.adding b.nanos a.nanos v q))
    (tokens_taken a.p a.ids.now a.numbers.now a.lengths.now _ v _ _ x d
    ∙ ap (λ (o : Outcome). changed_by o a.p a.ids.now a.numbers.now a.lengths.now) (box_on a.adding b a.nanos a.box_ids.now a.box_amounts.now a.n p v q x refl))

pub returns-in-Err : goal.returns-in-Err
returns-in-Err c =
    let a = c.args in
    let b = balance_of a.p a.ids.now a.numbers.now a.lengths.now in
    let v = c.in-Some.sum in
    let p : buffers_ok b.count a.box_ids.now a.box_amounts.now a.n ≡ true = sym c.buffers_ok.ensures ∙ c.if-not-buffers_ok.false in
    let s : c.change_nanos.result ≡ nanos_after a.adding b.nanos a.nanos = c.change_nanos.ensures ∙ simp (back64 b.nanos (search rules), back w64 a.nanos c.ranges.nanos) in
    let q = sym c.in-Some.is ∙ s in
    let x = change_tokens a.adding a.box_ids.now a.box_amounts.now 0 a.n (held_by b) in
    let d = rw c.in-Err.is at c.change_tokens.ensures in
    rw c.says-in-Err.ensures
    (token_refused a.p a.ids.now a.numbers.now a.lengths.now c.requires.0 c.requires.1 c.requires.2 _ v _ _ x d
    ∙ ap (λ (o : Outcome). changed_by o a.p a.ids.now a.numbers.now a.lengths.now) (box_on a.adding b a.nanos a.box_ids.now a.box_amounts.now a.n p v q x refl))

pub returns-in-None : goal.returns-in-None
returns-in-None c =
    let a = c.args in
    let b = balance_of a.p a.ids.now a.numbers.now a.lengths.now in
    let p : buffers_ok b.count a.box_ids.now a.box_amounts.now a.n ≡ true = sym c.buffers_ok.ensures ∙ c.if-not-buffers_ok.false in
    let s : c.change_nanos.result ≡ nanos_after a.adding b.nanos a.nanos = c.change_nanos.ensures ∙ simp (back64 b.nanos (search rules), back w64 a.nanos c.ranges.nanos) in
    rw c.says-in-None.ensures
    (unchanged a.p a.ids.now a.numbers.now a.lengths.now c.requires.0 c.requires.1 c.requires.2 23
    ∙ ap (λ (o : Outcome). changed_by o a.p a.ids.now a.numbers.now a.lengths.now) (box_23 a.adding b a.nanos a.box_ids.now a.box_amounts.now a.n p (sym c.in-None.is ∙ s)))
