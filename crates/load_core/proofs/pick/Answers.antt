-- A way out for each call that can be picked.
use mathlib.Core.Path.{◌∙◌}
use borrow.Author.Tests.{lt-ltb, le-ltb, eq-eqb, ne_eqb}
use Rattle.load_core.specs.Draw.{pick}
use Rattle.load_core.proofs.pick.Goals as goal

pub returns-then-k-lt4 : goal.returns-then-k-lt4
unfolding pick
returns-then-k-lt4 c = c.next_box.ensures ∙ simp (lt-ltb _ _ c.if-k-lt4.true)

pub returns-then-boxes-eq0 : goal.returns-then-boxes-eq0
unfolding pick
returns-then-boxes-eq0 c = c.next_box-then-boxes-eq0.ensures ∙ simp (le-ltb _ _ c.if-k-lt4.false, lt-ltb _ _ c.if-k-lt6.true, eq-eqb _ _ c.if-boxes-eq0.true)

pub returns-then-k-lt6 : goal.returns-then-k-lt6
unfolding pick
returns-then-k-lt6 c = c.next_spend.ensures ∙ simp (le-ltb _ _ c.if-k-lt4.false, lt-ltb _ _ c.if-k-lt6.true, ne_eqb _ _ c.if-boxes-eq0.false)

pub returns-then-k-eq6 : goal.returns-then-k-eq6
unfolding pick
returns-then-k-eq6 c = c.next_tx.ensures ∙ simp (le-ltb _ _ c.if-k-lt4.false, le-ltb _ _ c.if-k-lt6.false, eq-eqb _ _ c.if-k-eq6.true)

pub returns : goal.returns
unfolding pick
returns c = simp (le-ltb _ _ c.if-k-lt4.false, le-ltb _ _ c.if-k-lt6.false, ne_eqb _ _ c.if-k-eq6.false)
