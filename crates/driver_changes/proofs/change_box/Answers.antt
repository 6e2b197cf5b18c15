-- Each way out is a case of the definition: 25, then 23 of the nanoErgs, then what the tokens' loop answers.
use native.Mathlib.Omega.{arith}
use mathlib.Core.Path.{◌≡◌, sym, ◌∙◌}
use mir.Syntax.{w64}
use borrow.Author.Rules.{rules}
use Rattle.signed.proofs.SignedLaws.{back, back64}
use Rattle.balance.specs.Boxes.{nanos_after}
use Rattle.balance.proofs.BoxLaws.{nanos_fit}
use Rattle.driver_changes.proofs.TokenLaws.{bytes_25, bytes_23, bytes_on}
use Rattle.driver_changes.proofs.change_box.Goals as goal

pub returns-then-held-gt-TOKEN_LIMIT : goal.returns-then-held-gt-TOKEN_LIMIT
returns-then-held-gt-TOKEN_LIMIT c =
    let a = c.args in
    bytes_25 a.adding a.balance a.nanos a.s.now a.i a.a a.n c.requires.0 c.if-held-gt-TOKEN_LIMIT.true

pub returns-in-Ok : goal.returns-in-Ok
returns-in-Ok c =
    let a = c.args in
    let v = c.in-Some.sum in
    let t : c.change_nanos.result ≡ nanos_after a.adding a.balance.nanos a.nanos =
    c.change_nanos.ensures ∙ simp (back w64 a.balance.nanos (search rules), back w64 a.nanos c.ranges.nanos) in
    let q = sym c.in-Some.is ∙ t in
    let d = rw c.in-Ok.is at c.change_tokens.ensures in
    let few = c.if-held-gt-TOKEN_LIMIT.false in
    rw (back64 v (nanos_fit a.adding a.balance.nanos a.nanos v q)) (bytes_on a.adding a.balance a.nanos a.s.now a.i a.a a.n c.requires.0 (omega (arith, few)) v q _ d)

pub returns-in-Err : goal.returns-in-Err
returns-in-Err c =
    let a = c.args in
    let v = c.in-Some.sum in
    let t : c.change_nanos.result ≡ nanos_after a.adding a.balance.nanos a.nanos =
    c.change_nanos.ensures ∙ simp (back w64 a.balance.nanos (search rules), back w64 a.nanos c.ranges.nanos) in
    let q = sym c.in-Some.is ∙ t in
    let d = rw c.in-Err.is at c.change_tokens.ensures in
    let few = c.if-held-gt-TOKEN_LIMIT.false in
    bytes_on a.adding a.balance a.nanos a.s.now a.i a.a a.n c.requires.0 (omega (arith, few)) v q _ d

pub returns-in-None : goal.returns-in-None
returns-in-None c =
    let a = c.args in
    let t : c.change_nanos.result ≡ nanos_after a.adding a.balance.nanos a.nanos =
    c.change_nanos.ensures ∙ simp (back w64 a.balance.nanos (search rules), back w64 a.nanos c.ranges.nanos) in
    bytes_23 a.adding a.balance a.nanos a.s.now a.i a.a a.n c.requires.0 (omega (arith, c.if-held-gt-TOKEN_LIMIT.false)) (sym c.in-None.is ∙ t)
