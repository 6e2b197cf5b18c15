-- The two tests in turn.
use mathlib.Core.Path.{sym, ◌∙◌}
use Rattle.buffer_core.specs.Pop.{pop_ok}
use Rattle.buffer_checks.proofs.pop_ok.Goals as goal

pub returns-then-head_ok : goal.returns-then-head_ok
unfolding pop_ok
returns-then-head_ok c = rw (sym c.head_ok.ensures ∙ c.if-head_ok.true, c.lists_ok.ensures)

pub returns : goal.returns
unfolding pop_ok
returns c = rw (sym c.head_ok.ensures ∙ c.if-head_ok.false)
