-- The three tests in turn.
use mathlib.Core.Path.{sym, ◌∙◌}
use Rattle.buffer_core.specs.Pop.{lists_ok}
use Rattle.buffer_checks.proofs.lists_ok.Goals as goal

pub returns-then-spills_ok-2 : goal.returns-then-spills_ok-2
unfolding lists_ok
returns-then-spills_ok-2 c = rw (sym c.spills_ok.ensures ∙ c.if-spills_ok.true, sym c.spills_ok-then-spills_ok.ensures ∙ c.if-spills_ok-2.true, c.keys_ok.ensures)

pub returns-else-spills_ok-2 : goal.returns-else-spills_ok-2
unfolding lists_ok
returns-else-spills_ok-2 c = rw (sym c.spills_ok.ensures ∙ c.if-spills_ok.true, sym c.spills_ok-then-spills_ok.ensures ∙ c.if-spills_ok-2.false)

pub returns-else-spills_ok : goal.returns-else-spills_ok
unfolding lists_ok
returns-else-spills_ok c = rw (sym c.spills_ok.ensures ∙ c.if-spills_ok.false)
