-- A trial of staging sizes with made-up forks (document 02, U12), with 25 and over borrowed buffers.
use Rattle.std.specs.Prelude.{ℕ, ◌≡◌, Bool, cond, List, eqb, ℤ, pos, length, replicate, Err}
use Rattle.stores.specs.Stores.{write}
use Rattle.index_types.specs.Answers.{TriedForks}
use Rattle.trial_core.specs.Trial.{tried}
use Rattle.trial_buffers.specs.Sizes.{record_bytes, key_bytes, stood_numbers, sizes_ok}

-- "zeroed after 25 and 38 are tested and again at the end, refused or not": to the capacity
abbrev pub cleared : {A : Type 0} → A → ℕ → List A → List A
cleared z n l = write 0 (replicate n z) l

-- ---- a trial: 25, then 38, then the run. The buffers are unchanged by 25 and 38, and zero to their capacities otherwise
module _ (x T S D room : ℕ) (zs : List ℤ) (t s d : List ℕ) (k : List ℤ) where
  abbrev pub passes : Bool
  passes = sizes_ok T S D room (length zs) (length t) (length s) (length d) (length k)

  abbrev pub try_of : TriedForks
  try_of = cond passes (tried x zs T S D room) (Err 25)

  abbrev pub after : {A : Type 0} → A → ℕ → List A → List A
  after z n l = cond passes (cond (eqb x 0) l (cleared z n l)) l

  pub record Tries (r : TriedForks) (t' s' d' : List ℕ) (k' : List ℤ) : Type 0 where
    pub answer : r ≡ try_of
    pub table : t' ≡ after 0 (record_bytes T) t
    pub staged : s' ≡ after 0 (record_bytes S) s
    pub deleted : d' ≡ after 0 (key_bytes D) d
    pub standing : k' ≡ after (pos 0) (stood_numbers room) k
