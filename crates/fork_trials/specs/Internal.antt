-- What the steps of a trial over borrowed buffers ask and give.
use Rattle.std.specs.Prelude.{ℕ, ◌≤◌, ◌≡◌, cond, List, eqb, ℤ, pos, length, replicate, Ok, Err}
use Rattle.load_core.specs.Draw.{source}
use Rattle.call_steps.specs.Steps.{spill_counts}
use Rattle.index_types.specs.Answers.{TriedForks}
use Rattle.trial_core.specs.Trial.{step_limit, figures, run_of}
use Rattle.standing_calls.specs.declared.Side.TheVariants.{Neither}
use Rattle.standing_calls.specs.declared.TrialState.{TrialState}
use Rattle.trial_runs.specs.declared.TrialRun.{TrialRun}
use Rattle.trial_buffers.specs.Sizes.{record_bytes, key_bytes, stood_numbers}

-- ---- the start, and the two figures
abbrev pub start_run : (x T S D : ℕ) → TrialRun
start_run x T S D =
    record {
      source = source x 0 0;
      state = record {
        counts = spill_counts (record { count = 0; capacity = S }) (record { count = 0; capacity = T }) (record { count = 0; capacity = D });
        side = Neither;
        stood = 0;
        staged = 0;
        deleted = 0;
        end = 0;
      };
      blocks = 0;
    }

abbrev pub told : TrialState → TriedForks
told t = cond (eqb t.end 0) (Ok (t.staged, t.deleted)) (Err t.end)

-- ---- the working buffers once they are zero
pub record Zeroed (T S D room : ℕ) (zs : List ℤ) (t s d : List ℕ) (k : List ℤ) : Type 0 where
  pub short : length zs ≤ step_limit
  pub table : t ≡ replicate (record_bytes T) 0
  pub staged : s ≡ replicate (record_bytes S) 0
  pub deleted : d ≡ replicate (key_bytes D) 0
  pub standing : stood_numbers room ≤ length k

-- working buffers of just their capacities
pub record Sized (T S D room : ℕ) (zs : List ℤ) (t s d : List ℕ) (k : List ℤ) : Type 0 where
  pub short : length zs ≤ step_limit
  pub table : length t ≡ record_bytes T
  pub staged : length s ≡ record_bytes S
  pub deleted : length d ≡ key_bytes D
  pub standing : length k ≡ stood_numbers room

pub record RunsSized (x T S D room : ℕ) (zs : List ℤ) (r : TriedForks) (t s d : List ℕ) (k : List ℤ) : Type 0 where
  pub answer : r ≡ figures (run_of x zs T S D room)
  pub table : t ≡ replicate (record_bytes T) 0
  pub staged : s ≡ replicate (record_bytes S) 0
  pub deleted : d ≡ replicate (key_bytes D) 0
  pub standing : k ≡ replicate (stood_numbers room) (pos 0)
