-- What the export of the trials leaves: the code and both figures, from the definition of the public call, and the four working buffers.
use Rattle.std.specs.Prelude.{ℕ, ◌≡◌, List, ℤ, pos, Ok, Err}
use Rattle.index_types.specs.Answers.{TriedForks}
use Rattle.trial_buffers.specs.Sizes.{record_bytes, key_bytes, stood_numbers}
use Rattle.fork_trials.specs.Tries.{try_of, after}

-- the code, and the largest numbers of staged rows and of deleted keys
pub record TrialOut : Type 0 where
  pub code : ℕ
  pub most_staged : ℕ
  pub most_deleted : ℕ

abbrev pub trial_out : (code s d : ℕ) → TrialOut
trial_out code s d = record { code = code; most_staged = s; most_deleted = d }

-- "ends it with that number and no figures": the outs are then as they were
abbrev pub trial_by : TriedForks → (s d : ℕ) → TrialOut
trial_by (Ok (a, b)) s d = trial_out 0 a b
trial_by (Err code) s d = trial_out code s d

module _ (x T S D room : ℕ) (zs : List ℤ) (t s d : List ℕ) (k : List ℤ) (a b : ℕ) where
  pub record TriesOut (code a' b' : ℕ) (t' s' d' : List ℕ) (k' : List ℤ) : Type 0 where
    pub out : trial_out code a' b' ≡ trial_by (try_of x T S D room zs t s d k) a b
    pub table : t' ≡ after x T S D room zs t s d k 0 (record_bytes T) t
    pub staged : s' ≡ after x T S D room zs t s d k 0 (record_bytes S) s
    pub deleted : d' ≡ after x T S D room zs t s d k 0 (key_bytes D) d
    pub standing : k' ≡ after x T S D room zs t s d k (pos 0) (stood_numbers room) k
