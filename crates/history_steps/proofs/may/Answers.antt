-- Each call by its test.
use mathlib.Core.Path.{sym, ap, ◌∙◌}
use mathlib.Core.Bool.{◌&&◌}
use Rattle.history_steps.specs.declared.Rank.{Rank}
use Rattle.history_steps.specs.Ranks.{ranks_in}
use Rattle.history_steps.specs.Legal as legal
use Rattle.history_steps.proofs.may.Goals as goal

pub returns-in-Append1 : goal.returns-in-Append1
unfolding legal.may
returns-in-Append1 c =
    let s = c.args in
    let none_stand = c.both.ensures ∙ (λ i. c.none.ensures i && c.none-in-Append1.ensures i) in
    c.both-in-Append1.ensures ∙ (λ i. c.lets_call.ensures i && none_stand i) ∙ sym (ap (λ (k : Rank). legal.may k (ranks_in s.standing) s.last) c.in-Append1.is)

pub returns-in-Append2 : goal.returns-in-Append2
unfolding legal.may
returns-in-Append2 c =
    let s = c.args in
    c.both-in-Append2.ensures ∙ (λ i. c.lets_call-in-Append2.ensures i && c.none-in-Append2.ensures i) ∙ sym (ap (λ (k : Rank). legal.may k (ranks_in s.standing) s.last) c.in-Append2.is)

pub returns-in-Spend1 : goal.returns-in-Spend1
unfolding legal.may
returns-in-Spend1 c =
    let s = c.args in
    c.both-in-Spend1.ensures ∙ (λ i. c.lets_call-in-Spend1.ensures i && c.fewer.ensures i) ∙ sym (ap (λ (k : Rank). legal.may k (ranks_in s.standing) s.last) c.in-Spend1.is)

pub returns-in-Spend2 : goal.returns-in-Spend2
unfolding legal.may
returns-in-Spend2 c =
    let s = c.args in
    c.both-in-Spend2.ensures ∙ (λ i. c.lets_call-in-Spend2.ensures i && c.fewer-in-Spend2.ensures i) ∙ sym (ap (λ (k : Rank). legal.may k (ranks_in s.standing) s.last) c.in-Spend2.is)

pub returns-in-Undo : goal.returns-in-Undo
unfolding legal.may
returns-in-Undo c =
    let s = c.args in
    c.both-in-Undo.ensures ∙ (λ i. c.lets_undo.ensures i && c.some.ensures i) ∙ sym (ap (λ (k : Rank). legal.may k (ranks_in s.standing) s.last) c.in-Undo.is)

pub returns-in-Flush : goal.returns-in-Flush
unfolding legal.may
returns-in-Flush c = let s = c.args in sym (ap (λ (k : Rank). legal.may k (ranks_in s.standing) s.last) c.in-Flush.is)
