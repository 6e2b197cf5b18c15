-- The three tests in turn.
use mathlib.Core.Path.{sym, ◌∙◌}
use Rattle.buffer_core.specs.Flip.{flip_ok}
use Rattle.buffer_checks.proofs.flip_ok.Goals as goal

pub returns-then-spills_ok : goal.returns-then-spills_ok
unfolding flip_ok
returns-then-spills_ok c = rw (sym c.head_ok.ensures ∙ c.if-head_ok.true, sym c.spills_ok.ensures ∙ c.if-spills_ok.true, c.spills_ok-then-spills_ok.ensures)

pub returns-else-spills_ok : goal.returns-else-spills_ok
unfolding flip_ok
returns-else-spills_ok c = rw (sym c.head_ok.ensures ∙ c.if-head_ok.true, sym c.spills_ok.ensures ∙ c.if-spills_ok.false)

pub returns-else-head_ok : goal.returns-else-head_ok
unfolding flip_ok
returns-else-head_ok c = rw (sym c.head_ok.ensures ∙ c.if-head_ok.false)
