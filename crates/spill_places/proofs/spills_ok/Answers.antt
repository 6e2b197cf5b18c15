-- `spills::spills_ok` meets its contract: the staged spills are tested first.
use mathlib.Core.Path.{sym, ◌∙◌}
use Rattle.spill_places.specs.Inspection.{spills_ok}
use Rattle.spill_places.proofs.spills_ok.Goals as goal

pub returns-then-spills_ok : goal.returns-then-spills_ok
unfolding spills_ok
returns-then-spills_ok c = rw (sym c.spills_ok.ensures ∙ c.if-spills_ok.true) c.spills_ok-then-spills_ok.ensures

pub returns : goal.returns
unfolding spills_ok
returns c = rw (sym c.spills_ok.ensures ∙ c.if-spills_ok.false)
