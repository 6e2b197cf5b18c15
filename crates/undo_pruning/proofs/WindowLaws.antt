-- The default window against a named one, at every height, every list and every capacity.
use Prim.Native.Nat.{ℕ}
use mathlib.Core.Path.{◌≡◌, refl}
use mathlib.Core.List.{List}
use Rattle.undo_pruning.specs.declared.Window.{Window}
use Rattle.undo_pruning.specs.declared.Window.TheVariants.{Named, Unnamed}
use Rattle.undo_pruning.specs.Prune.{window_of, rollback_window, pruned_of}

-- document 01: "no window named means 200"
abbrev pub window_before : Window → ℕ
window_before (Named heights) = heights
window_before Unnamed = 200

module _ (count capacity current : ℕ) (l : List ℕ) where
  -- document 02, U6: "a named 200 must prune at every height as the old default did"
  pub named_200 : pruned_of count capacity current (window_of (Named 200)) l ≡ pruned_of count capacity current (window_before Unnamed) l
  named_200 = refl

  -- no window named is a named 720
  pub named_720 : pruned_of count capacity current (window_of Unnamed) l ≡ pruned_of count capacity current (window_of (Named 720)) l
  named_720 = refl

  -- a named window is what it was, 0 too
  pub named_stays : (heights : ℕ) → pruned_of count capacity current (window_of (Named heights)) l ≡ pruned_of count capacity current (window_before (Named heights)) l
  named_stays heights = refl
