-- `record_changes::full_for` meets its contract: a key that is there has its place.
use mathlib.Core.Path.{sym, ◌∙◌}
use Rattle.records.specs.Changes.{full_for}
use Rattle.record_changes.proofs.full_for.Goals as goal

pub returns-in-Some : goal.returns-in-Some
unfolding full_for
returns-in-Some c = rw (sym c.find-found.ensures ∙ c.in-Some.is)

pub returns-in-None : goal.returns-in-None
unfolding full_for
returns-in-None c = rw (sym c.find-found.ensures ∙ c.in-None.is)
