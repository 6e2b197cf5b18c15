-- The trial gave figures or was refused, and the outs hold them or are as they were.
use Prim.Native.Nat.{ℕ}
use mathlib.Core.Path.{◌≡◌}
use Rattle.std.specs.Prelude.{Ok, Err}
use Rattle.index_types.specs.Answers.{TriedForks}
use Rattle.ergo_index_trials.specs.Trials.{trial_out, trial_by}

module _ (r : TriedForks) (s d : ℕ) where
  pub told_figures : (a b : ℕ) → r ≡ Ok (a, b) → trial_out 0 a b ≡ trial_by r s d
  told_figures a b f = rw f

  pub told_refused : (code : ℕ) → r ≡ Err code → trial_out code s d ≡ trial_by r s d
  told_refused code f = rw f
