-- `distinct_keys::keys_ok` meets its contract: the bounds make the search for equal keys safe.
use Rattle.std.proofs.Common.{sym, ◌∙◌}
use Rattle.records.specs.Checks.{keys_ok}
use Rattle.distinct_keys.proofs.keys_ok.Goals as goal

pub returns-then-counts-le8 : goal.returns-then-counts-le8
unfolding keys_ok
returns-then-counts-le8 c = rw (sym c.bounds_hold.ensures ∙ c.if-bounds_hold.true) c.keys_differ_pairwise.ensures

pub returns-then-bounds_hold : goal.returns-then-bounds_hold
unfolding keys_ok
returns-then-bounds_hold c = rw (sym c.bounds_hold.ensures ∙ c.if-bounds_hold.true) c.keys_differ.ensures

pub returns : goal.returns
unfolding keys_ok
returns c = rw (sym c.bounds_hold.ensures ∙ c.if-bounds_hold.false)
