-- A token that is held gets the sum, a new one stands behind the others where there is room; one case of the definition for each way out.
use mathlib.Core.Path.{◌≡◌, sym, ◌∙◌}
use lib.IntN.{pos, ◌+ℤ◌}
use lib.ListN.{get_or}
use mir.Syntax.{w64}
use borrow.Author.Rules.{rules}
use Rattle.signed.specs.Checked.{checked}
use Rattle.std.specs.Prelude.{Some, None}
use Rattle.signed.proofs.SignedLaws.{back, back64, checked_fits}
use Rattle.balance_tokens.specs.Tokens.{id_at}
use Rattle.balance_tokens.proofs.TokenLaws.{add_known, add_new, add_full}
use Rattle.token_changes.proofs.add_token.Goals as goal

pub returns-in-Some : goal.returns-in-Some
returns-in-Some c =
    let a = c.args in
    let v = c.in-Some.sum in
    let s : c.checked_add.result ≡ checked (get_or a.sums.now a.at (pos 0) +ℤ a.amount) =
    c.checked_add.ensures ∙ rw (back64 (get_or a.sums.now a.at (pos 0)) (search rules), back w64 a.amount c.ranges.amount) in
    let q = sym c.in-Some.is ∙ s in
    rw (back64 v (checked_fits _ v (sym q)).1)
    (add_known (record { ids = a.table.now; amounts = a.sums.now; count = a.count }) (id_at a.ids.now a.j) a.amount a.at c.requires.4 (Some v) c.if-at-count.true q)

pub returns-in-None : goal.returns-in-None
returns-in-None c =
    let a = c.args in
    let s : c.checked_add.result ≡ checked (get_or a.sums.now a.at (pos 0) +ℤ a.amount) =
    c.checked_add.ensures ∙ rw (back64 (get_or a.sums.now a.at (pos 0)) (search rules), back w64 a.amount c.ranges.amount) in
    add_known (record { ids = a.table.now; amounts = a.sums.now; count = a.count }) (id_at a.ids.now a.j) a.amount a.at c.requires.4 None c.if-at-count.true (sym c.in-None.is ∙ s)

pub returns-then-count-lt-TOKEN_LIMIT : goal.returns-then-count-lt-TOKEN_LIMIT
returns-then-count-lt-TOKEN_LIMIT c =
    let a = c.args in
    rw (back w64 a.amount c.ranges.amount, c.put_id.ensures)
    (add_new (record { ids = a.table.now; amounts = a.sums.now; count = a.count }) (id_at a.ids.now a.j) a.amount a.at c.requires.4 c.if-at-count.false c.if-count-lt-TOKEN_LIMIT.true)

pub returns : goal.returns
returns c =
    let a = c.args in
    add_full (record { ids = a.table.now; amounts = a.sums.now; count = a.count }) (id_at a.ids.now a.j) a.amount a.at c.requires.4 c.if-at-count.false c.if-count-lt-TOKEN_LIMIT.false
