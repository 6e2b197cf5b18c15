-- One law for each way out.
use mathlib.Core.Path.{sym, ◌∙◌}
use borrow.Author.Rules.{rules}
use Rattle.signed.proofs.SignedLaws.{back64}
use Rattle.address_order.specs.Order.{of_signed}
use Rattle.address_ranking.proofs.CheckLaws.{none_before, none_both, one_after, both_held}
use Rattle.address_ranking.proofs.compare_balances.Goals as goal

pub returns-then-other_held : goal.returns-then-other_held
returns-then-other_held c =
    let a = c.args in
    none_before a.held a.nanos a.ids.now a.amounts.now a.count a.other_held a.other_nanos a.other_ids.now a.other_amounts.now a.other_count (c.if-not-held.true) c.if-other_held.true

pub returns-then-not-held : goal.returns-then-not-held
returns-then-not-held c =
    let a = c.args in
    none_both a.held a.nanos a.ids.now a.amounts.now a.count a.other_held a.other_nanos a.other_ids.now a.other_amounts.now a.other_count (c.if-not-held.true) c.if-other_held.false

pub returns-then-not-other_held : goal.returns-then-not-other_held
returns-then-not-other_held c =
    let a = c.args in
    one_after a.held a.nanos a.ids.now a.amounts.now a.count a.other_held a.other_nanos a.other_ids.now a.other_amounts.now a.other_count (c.if-not-held.false) (c.if-not-other_held.true)

pub returns-in-Less : goal.returns-in-Less
returns-in-Less c =
    let a = c.args in
    let e = back64 a.nanos (search rules) in
    let g = back64 a.other_nanos (search rules) in
    sym (both_held a.held a.nanos a.ids.now a.amounts.now a.count a.other_held a.other_nanos a.other_ids.now a.other_amounts.now a.other_count (c.if-not-held.false) (c.if-not-other_held.false) _ (sym c.in-Less.is ∙ c.compare_signed-by_nanos.ensures ∙ (λ i. of_signed (e i) (g i))))

pub returns-in-Greater : goal.returns-in-Greater
returns-in-Greater c =
    let a = c.args in
    let e = back64 a.nanos (search rules) in
    let g = back64 a.other_nanos (search rules) in
    sym (both_held a.held a.nanos a.ids.now a.amounts.now a.count a.other_held a.other_nanos a.other_ids.now a.other_amounts.now a.other_count (c.if-not-held.false) (c.if-not-other_held.false) _ (sym c.in-Greater.is ∙ c.compare_signed-by_nanos.ensures ∙ (λ i. of_signed (e i) (g i))))

pub returns-in-Equal : goal.returns-in-Equal
returns-in-Equal c =
    let a = c.args in
    let e = back64 a.nanos (search rules) in
    let g = back64 a.other_nanos (search rules) in
    c.compare_tokens.ensures ∙ sym (both_held a.held a.nanos a.ids.now a.amounts.now a.count a.other_held a.other_nanos a.other_ids.now a.other_amounts.now a.other_count (c.if-not-held.false) (c.if-not-other_held.false) _ (sym c.in-Equal.is ∙ c.compare_signed-by_nanos.ensures ∙ (λ i. of_signed (e i) (g i))))
