-- What the two figures of a trial are worth (document 02, U12).
use Rattle.std.specs.Prelude.{ℕ, ◌≤◌, ◌<◌, ◌≡◌, ◌⊎◌, List, [], ℤ, Ok, Err}
use Rattle.trial_core.specs.Trial.{Going, on, ended, run_of, tried}

-- what each call, undo and flush of a trial answered, the newest first
abbrev pub answers_of : Going → List ℕ
answers_of (on s) = s.answers
answers_of (ended k) = []

-- "With staging and deletion list of at least those sizes, the same state, shelf, standing-list size and steps give the same answers and never 16 or 21"
abbrev pub Enough : Type 0
Enough = (x : ℕ) (zs : List ℤ) (T S D room a b : ℕ) → tried x zs T S D room ≡ Ok (a, b) → (S' D' : ℕ) → a ≤ S' → b ≤ D'
    → (tried x zs T S' D' room ≡ Ok (a, b)) × (answers_of (run_of x zs T S' D' room) ≡ answers_of (run_of x zs T S D room))

-- the figures are within the capacities with which the trial was made
abbrev pub Within : Type 0
Within = (x : ℕ) (zs : List ℤ) (T S D room a b : ℕ) → tried x zs T S D room ≡ Ok (a, b) → (a ≤ S) × (b ≤ D)

-- they do not depend on these capacities: two trials of the same steps that give figures give the same
abbrev pub Exact : Type 0
Exact = (x : ℕ) (zs : List ℤ) (T S D room a b : ℕ) → tried x zs T S D room ≡ Ok (a, b) → (S' D' a' b' : ℕ) → tried x zs T S' D' room ≡ Ok (a', b') → (a ≡ a') × (b ≡ b')

-- with one record or one key less than the figures say, a trial gives none
abbrev pub Least : Type 0
Least = (x : ℕ) (zs : List ℤ) (T S D room a b : ℕ) → tried x zs T S D room ≡ Ok (a, b) → (S' D' a' b' : ℕ) → tried x zs T S' D' room ≡ Ok (a', b') → (a ≤ S') × (b ≤ D')

-- but it ends by 16 or by 21
abbrev pub Short : Type 0
Short = (x : ℕ) (zs : List ℤ) (T S D room a b : ℕ) → tried x zs T S D room ≡ Ok (a, b) → (S' D' : ℕ) → (S' < a) ⊎ (D' < b)
    → (tried x zs T S' D' room ≡ Err 16) ⊎ (tried x zs T S' D' room ≡ Err 21)
