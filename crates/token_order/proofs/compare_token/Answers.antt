-- The ids decide, then the amounts.
use mathlib.Core.Path.{sym, ◌∙◌}
use lib.IntN.{pos}
use lib.ListN.{get_or}
use Rattle.signed.proofs.SignedLaws.{back64}
use Rattle.address_order.specs.Order.{of_signed}
use Rattle.token_order.proofs.IdOrder.{by_less, by_greater, by_amount}
use Rattle.token_order.proofs.compare_token.Goals as goal

pub returns-in-Less : goal.returns-in-Less
returns-in-Less c = by_less _ _ (sym c.in-Less.is ∙ c.compare_ids-by_id.ensures)

pub returns-in-Greater : goal.returns-in-Greater
returns-in-Greater c = by_greater _ _ (sym c.in-Greater.is ∙ c.compare_ids-by_id.ensures)

pub returns-in-Equal : goal.returns-in-Equal
returns-in-Equal c =
    let a = c.args in
    let e = back64 (get_or a.amounts.now a.i (pos 0)) c.x-1.given in
    let g = back64 (get_or a.other_amounts.now a.j (pos 0)) c.y-1.given in
    by_amount _ _ (sym c.in-Equal.is ∙ c.compare_ids-by_id.ensures) _ (c.compare_signed-by_amount.ensures ∙ (λ i. of_signed (e i) (g i)))
