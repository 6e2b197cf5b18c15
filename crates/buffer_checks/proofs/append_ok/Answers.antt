-- The two tests in turn.
use mathlib.Core.Path.{sym, ◌∙◌}
use Rattle.buffer_core.specs.Append.{append_ok}
use Rattle.buffer_checks.proofs.append_ok.Goals as goal

pub returns-then-head_ok : goal.returns-then-head_ok
unfolding append_ok
returns-then-head_ok c = rw (sym c.head_ok.ensures ∙ c.if-head_ok.true, c.spills_ok.ensures)

pub returns : goal.returns
unfolding append_ok
returns c = rw (sym c.head_ok.ensures ∙ c.if-head_ok.false)
