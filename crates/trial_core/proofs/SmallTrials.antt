-- Trials that are computed: no step, the state 0, and forks that are too deep.
use Prim.Native.Nat.{ℕ, ◌+◌}
use mathlib.Core.Path.{◌≡◌, refl}
use mathlib.Core.List.{[], ◌∷◌}
use lib.IntN.{pos, negsuc}
use Rattle.buffer_core.specs.Edition.{Edition}
use Rattle.std.specs.Prelude.{Ok, Err}
use Rattle.trial_core.specs.Trial.{Trial, on, with_blocks, tried, step_to, steps_to, block_of, fork_of, back_to}

module _ (T S D room : ℕ) where
  -- "at any one time": before the first call nothing is staged and nothing deleted
  no_step : tried 1 [] T S D room ≡ Ok (0, 0)
  unfolding tried steps_to
  no_step = refl

  -- "the flush at every change": a block without a call is no change of side
  no_change : (E : Edition) (s : Trial) → step_to E room (pos 0) s ≡ on (with_blocks (s.blocks + 1) s)
  unfolding block_of
  no_change E s = refl

  state_0 : tried 0 (pos 5 ∷ []) T S D room ≡ Err 38
  unfolding tried
  state_0 = refl

  -- a block without a call is a block
  empty_block_undone : tried 1 (pos 0 ∷ negsuc 0 ∷ []) T S D room ≡ Ok (0, 0)
  unfolding tried steps_to block_of fork_of back_to
  empty_block_undone = refl

  -- "39 for a fork deeper than 720 blocks"
  fork_of_721 : tried 1 (negsuc 720 ∷ []) T S D room ≡ Err 39
  unfolding tried steps_to fork_of
  fork_of_721 = refl

  -- "or deeper than the blocks still standing"
  two_of_one_block : tried 1 (pos 0 ∷ negsuc 1 ∷ []) T S D room ≡ Err 39
  unfolding tried steps_to block_of fork_of
  two_of_one_block = refl
