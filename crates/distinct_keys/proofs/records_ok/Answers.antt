-- `distinct_keys::records_ok` meets its contract: the bounds make the other two tests safe.
use Rattle.std.proofs.Common.{sym, ◌∙◌}
use Rattle.records.specs.Checks.{records_ok}
use Rattle.distinct_keys.proofs.records_ok.Goals as goal

pub returns-then-counts-le8 : goal.returns-then-counts-le8
unfolding records_ok
returns-then-counts-le8 c =
    rw (sym c.bounds_hold.ensures ∙ c.if-bounds_hold.true, sym c.lengths_fit.ensures ∙ c.if-lengths_fit.true)
    c.keys_differ_pairwise.ensures

pub returns-then-lengths_fit : goal.returns-then-lengths_fit
unfolding records_ok
returns-then-lengths_fit c =
    rw (sym c.bounds_hold.ensures ∙ c.if-bounds_hold.true, sym c.lengths_fit.ensures ∙ c.if-lengths_fit.true)
    c.keys_differ.ensures

pub returns-else-lengths_fit : goal.returns-else-lengths_fit
unfolding records_ok
returns-else-lengths_fit c = rw (sym c.bounds_hold.ensures ∙ c.if-bounds_hold.true, sym c.lengths_fit.ensures ∙ c.if-lengths_fit.false)

pub returns-else-bounds_hold : goal.returns-else-bounds_hold
unfolding records_ok
returns-else-bounds_hold c = rw (sym c.bounds_hold.ensures ∙ c.if-bounds_hold.false)
