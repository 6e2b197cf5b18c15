-- `undo_pruning::prune_below_window` meets its contract: one law for each way out.
use Prim.Native.Nat.{ℕ, ◌-◌}
use mathlib.Core.Path.{ap, ◌∙◌}
use Rattle.undo_pruning.proofs.PruneLaws.{prune_count, prune_short, prune_done}
use Rattle.undo_pruning.proofs.prune_below_window.Goals as goal

pub returns-then-capacity-count : goal.returns-then-capacity-count
returns-then-capacity-count c = prune_count _ _ _ _ _ c.if-capacity-count.true

pub returns-then-heights-capacity : goal.returns-then-heights-capacity
returns-then-heights-capacity c = prune_short _ _ _ _ _ c.if-capacity-count.false c.if-heights-capacity.true

pub returns : goal.returns
returns c =
    let low = c.lowest_kept-lowest.ensures ∙ ap (λ (w : ℕ). c.args.current - w) c.window_length.ensures in
    prune_done _ _ _ _ _ c.if-capacity-count.false c.if-heights-capacity.false _ _ _ _ low c.compact-n.ensures c.clear.ensures
