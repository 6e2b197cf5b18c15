-- What is left of both lists of tokens, above the ids taken last, decides.
use Prim.Native.Nat.{◌<◌}
use mathlib.Core.Path.{◌≡◌, sym, ◌∙◌}
use native.Mathlib.Omega.{arith}
use lib.ListN.{length}
use borrow.Author.Rules.{rules}
use Rattle.balance_laws.specs.Calls.{tokens_from}
use Rattle.address_order.specs.Order.{of_lists, of_tokens, ascending}
use Rattle.token_order.proofs.PickLaws.{left_above, left_all, both_end, first_ends, second_ends, both_go_on, fewer_left}
use Rattle.token_order.proofs.compare_tokens.Statement.{statement}
use Rattle.token_order.proofs.compare_tokens.Tie as tie

abbrev invariant_loop : tie.invariant-loop-i
invariant_loop ids amounts count other_ids other_amounts other_count started₀ i₀ j₀ started i j =
    (i < 128) × (j < 128)
    × (of_lists of_tokens (ascending (tokens_from ids amounts 0 count)) (ascending (tokens_from other_ids other_amounts 0 other_count))
    ≡ of_lists of_tokens (left_above ids amounts count started i) (left_above other_ids other_amounts other_count started j))

abbrev decreases_loop : tie.decreases-loop-i
decreases_loop ids amounts count other_ids other_amounts other_count started₀ i₀ j₀ started i j = length (left_above ids amounts count started i)

loop-holds : tie.Need-loop-i-init invariant_loop decreases_loop
loop-holds c =
    let a = c.before.before.args in
    (omega arith, omega arith, (λ t. of_lists of_tokens (sym (left_all a.ids.now a.amounts.now a.count 0) t) (sym (left_all a.other_ids.now a.other_amounts.now a.other_count 0) t)))

next_place_requires : tie.Need-next_place-i-requires invariant_loop decreases_loop
next_place_requires c κs =
    let p = c.before.before.before.requires in
    (omega (arith, p.0.id_bytes, p.0.few), omega (arith, p.0.id_bytes, c.loop-i.invariant.0))

next_place_requires_2 : tie.Need-next_place-j-requires invariant_loop decreases_loop
next_place_requires_2 c κs =
    let p = c.before.before.before.before.requires in
    (omega (arith, p.1.id_bytes, p.1.few), omega (arith, p.1.id_bytes, c.before.loop-i.invariant.1))

returns : tie.Need-returns-then-other_count-j invariant_loop decreases_loop
returns c =
    let x = c.before.before in
    let l = x.before.before.loop-i in
    let a = x.before.before.before.before.before.args in
    let p = x.before.before.before.before.before.requires in
    sym (l.invariant.2 ∙ both_end a.ids.now a.amounts.now a.count a.other_ids.now a.other_amounts.now a.other_count l.started l.i _ l.j _ x.before.next_place-i.ensures x.next_place-j.ensures p.0.apart p.1.apart c.before.if-count-i.true c.if-other_count-j.true)

returns-2 : tie.Need-returns-then-count-i invariant_loop decreases_loop
returns-2 c =
    let x = c.before.before in
    let l = x.before.before.loop-i in
    let a = x.before.before.before.before.before.args in
    let p = x.before.before.before.before.before.requires in
    sym (l.invariant.2 ∙ first_ends a.ids.now a.amounts.now a.count a.other_ids.now a.other_amounts.now a.other_count l.started l.i _ l.j _ x.before.next_place-i.ensures x.next_place-j.ensures p.0.apart p.1.apart c.before.if-count-i.true c.if-other_count-j.false)

returns-3 : tie.Need-returns-then-other_count-j-2 invariant_loop decreases_loop
returns-3 c =
    let x = c.before.before in
    let l = x.before.before.loop-i in
    let a = x.before.before.before.before.before.args in
    let p = x.before.before.before.before.before.requires in
    sym (l.invariant.2 ∙ second_ends a.ids.now a.amounts.now a.count a.other_ids.now a.other_amounts.now a.other_count l.started l.i _ l.j _ x.before.next_place-i.ensures x.next_place-j.ensures p.0.apart p.1.apart c.before.if-count-i.false c.if-other_count-j-2.true)

compare_token_requires : tie.Need-compare_token-order-requires invariant_loop decreases_loop
compare_token_requires c κs =
    let p = c.before.before.before.before.before.before.before.requires in
    (omega (arith, p.0.id_bytes, p.0.few), omega (arith, p.0.places, p.0.few), omega (arith, p.1.id_bytes, p.1.few), omega (arith, p.1.places, p.1.few))

enum_told : tie.Need-enum_told-1 invariant_loop decreases_loop
enum_told c = search rules

returns-4 : tie.Need-returns-in-Less invariant_loop decreases_loop
returns-4 c =
    let x = c.before.before.before.before in
    let l = x.before.before.loop-i in
    let a = x.before.before.before.before.before.args in
    let p = x.before.before.before.before.before.requires in
    sym (l.invariant.2 ∙ both_go_on a.ids.now a.amounts.now a.count a.other_ids.now a.other_amounts.now a.other_count l.started l.i _ l.j _ x.before.next_place-i.ensures x.next_place-j.ensures p.0.apart p.1.apart c.before.before.before.if-count-i.false c.before.before.if-other_count-j-2.false _ (sym c.in-Less.is ∙ c.before.compare_token-order.ensures))

enum_told_2 : tie.Need-enum_told-in-Greater invariant_loop decreases_loop
enum_told_2 c = search rules

returns-5 : tie.Need-returns-in-Greater invariant_loop decreases_loop
returns-5 c =
    let x = c.before.before.before.before in
    let l = x.before.before.loop-i in
    let a = x.before.before.before.before.before.args in
    let p = x.before.before.before.before.before.requires in
    sym (l.invariant.2 ∙ both_go_on a.ids.now a.amounts.now a.count a.other_ids.now a.other_amounts.now a.other_count l.started l.i _ l.j _ x.before.next_place-i.ensures x.next_place-j.ensures p.0.apart p.1.apart c.before.before.before.if-count-i.false c.before.before.if-other_count-j-2.false _ (sym c.in-Greater.is ∙ c.before.compare_token-order.ensures))

enum_told_3 : tie.Need-enum_told-in-Equal invariant_loop decreases_loop
enum_told_3 c = search rules

loop-less : tie.Need-loop-i-smaller invariant_loop decreases_loop
loop-less c =
    let x = c.before.before.before.before in
    let l = x.before.before.loop-i in
    let a = x.before.before.before.before.before.args in
    let p = x.before.before.before.before.before.requires in
    fewer_left a.ids.now a.amounts.now a.count a.other_ids.now a.other_amounts.now a.other_count l.started l.i _ l.j _ x.before.next_place-i.ensures x.next_place-j.ensures p.0.apart p.1.apart c.before.before.before.if-count-i.false

loop-again : tie.Need-loop-i-preserved invariant_loop decreases_loop
loop-again c =
    let x = c.before.before.before.before in
    let l = x.before.before.loop-i in
    let a = x.before.before.before.before.before.args in
    let p = x.before.before.before.before.before.requires in
    (omega (arith, p.0.few), omega (arith, p.1.few), l.invariant.2 ∙ both_go_on a.ids.now a.amounts.now a.count a.other_ids.now a.other_amounts.now a.other_count l.started l.i _ l.j _ x.before.next_place-i.ensures x.next_place-j.ensures p.0.apart p.1.apart c.before.before.before.if-count-i.false c.before.before.if-other_count-j-2.false _ (sym c.in-Equal.is ∙ c.before.compare_token-order.ensures))

pub compare_tokens_spec : {M : Type 1} → statement M
compare_tokens_spec =
    tie.close
    (tie.spec
    invariant_loop
    decreases_loop
    loop-holds
    next_place_requires
    next_place_requires_2
    returns
    returns-2
    returns-3
    compare_token_requires
    enum_told
    returns-4
    enum_told_2
    returns-5
    enum_told_3
    loop-less
    loop-again)
