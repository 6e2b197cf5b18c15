-- One law for each way out.
use mathlib.Core.Path.{sym, ◌∙◌}
use Rattle.token_order.proofs.NextLaws.{barred, first_found, lower_found, not_lower}
use Rattle.token_order.proofs.better_place.Goals as goal

pub returns-then-started-above : goal.returns-then-started-above
returns-then-started-above c =
    let a = c.args in
    barred a.ids.now a.count a.started a.last a.best a.i _ c.is_below-above.ensures c.if-started-above.true

pub returns-then-count-best : goal.returns-then-count-best
returns-then-count-best c =
    let a = c.args in
    first_found a.ids.now a.count a.started a.last a.best a.i _ c.is_below-above.ensures c.if-started-above.false c.if-count-best.true

pub returns-then-lower : goal.returns-then-lower
returns-then-lower c =
    let a = c.args in
    lower_found a.ids.now a.count a.started a.last a.best a.i _ c.is_below-above.ensures c.if-started-above.false c.if-count-best.false (sym c.is_below-lower.ensures ∙ c.if-lower.true)

pub returns : goal.returns
returns c =
    let a = c.args in
    not_lower a.ids.now a.count a.started a.last a.best a.i _ c.is_below-above.ensures c.if-started-above.false c.if-count-best.false (sym c.is_below-lower.ensures ∙ c.if-lower.false)
