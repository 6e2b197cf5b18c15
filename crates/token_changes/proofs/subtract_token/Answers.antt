-- A token that is held loses the amount, and goes where nothing is left; one case of the definition for each way out.
use mathlib.Core.Path.{◌≡◌, sym, ◌∙◌}
use lib.IntN.{pos, ◌-ℤ◌}
use lib.ListN.{get_or}
use mir.Syntax.{w64}
use borrow.Author.Rules.{rules}
use Rattle.signed.specs.Checked.{checked}
use Rattle.std.specs.Prelude.{Some, None}
use Rattle.signed.proofs.SignedLaws.{back, back64, checked_fits}
use Rattle.balance_tokens.specs.Tokens.{id_at}
use Rattle.balance_tokens.proofs.TokenLaws.{subtract_known, subtract_unknown}
use Rattle.token_changes.proofs.subtract_token.Goals as goal

pub returns-then-rest-le0 : goal.returns-then-rest-le0
returns-then-rest-le0 c =
    let a = c.args in
    let v = c.in-Some.rest in
    let s : c.checked_sub.result ≡ checked (get_or a.sums.now a.at (pos 0) -ℤ a.amount) =
    c.checked_sub.ensures ∙ rw (back64 (get_or a.sums.now a.at (pos 0)) (search rules), back w64 a.amount c.ranges.amount) in
    let q = sym c.in-Some.is ∙ s in
    let d = subtract_known (record { ids = a.table.now; amounts = a.sums.now; count = a.count }) (id_at a.ids.now a.j) a.amount a.at c.requires.4 (Some v) c.if-at-count.true q in
    let e = rw (back64 v (checked_fits _ v (sym q)).1) at c.if-rest-le0.true in
    rw (c.close_amounts.ensures, c.close_ids.ensures) (rw e at d)

pub returns-in-Some : goal.returns-in-Some
returns-in-Some c =
    let a = c.args in
    let v = c.in-Some.rest in
    let s : c.checked_sub.result ≡ checked (get_or a.sums.now a.at (pos 0) -ℤ a.amount) =
    c.checked_sub.ensures ∙ rw (back64 (get_or a.sums.now a.at (pos 0)) (search rules), back w64 a.amount c.ranges.amount) in
    let q = sym c.in-Some.is ∙ s in
    let d = subtract_known (record { ids = a.table.now; amounts = a.sums.now; count = a.count }) (id_at a.ids.now a.j) a.amount a.at c.requires.4 (Some v) c.if-at-count.true q in
    let b = back64 v (checked_fits _ v (sym q)).1 in
    let e = rw b at c.if-rest-le0.false in
    rw b (rw e at d)

pub returns-in-None : goal.returns-in-None
returns-in-None c =
    let a = c.args in
    let s : c.checked_sub.result ≡ checked (get_or a.sums.now a.at (pos 0) -ℤ a.amount) =
    c.checked_sub.ensures ∙ rw (back64 (get_or a.sums.now a.at (pos 0)) (search rules), back w64 a.amount c.ranges.amount) in
    subtract_known (record { ids = a.table.now; amounts = a.sums.now; count = a.count }) (id_at a.ids.now a.j) a.amount a.at c.requires.4 None c.if-at-count.true (sym c.in-None.is ∙ s)

pub returns : goal.returns
returns c =
    let a = c.args in
    subtract_unknown (record { ids = a.table.now; amounts = a.sums.now; count = a.count }) (id_at a.ids.now a.j) a.amount a.at c.requires.4 c.if-at-count.false
