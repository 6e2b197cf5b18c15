-- "Shorter lists come first, and equal lengths are ranked by their first differing call. Each legal list is given just one time, and no other list is given."
-- (document 02, U10)
use Rattle.std.specs.Prelude.{◌≡◌, ◌⊎◌, ℕ, ◌≤◌, ◌<◌, length}
use mathlib.Core.List.{List, [], ◌∷◌, Memᴰ}
use Rattle.index_types.specs.declared.RowEdition.{RowEdition}
use Rattle.buffer_core.specs.Edition.{edition_of}
use Rattle.ledger.specs.Ledger.{Parent}
use Rattle.history.specs.Machine.{Borrowed}
use Rattle.history.specs.ForkUndo.{Places, index_machine}
use Rattle.history_steps.specs.declared.Rank.{Rank}
use Rattle.history_steps.specs.Ranks.{number}
use Rattle.history_growth.specs.Listing.{histories}
use Rattle.short_history_laws.specs.Asked.{Asked}

-- "equal lengths are ranked by their first differing call"
unfoldable pub Lower : List Rank → List Rank → Type 0
Lower [] ks = ⊥
Lower (j ∷ js) [] = ⊥
Lower (j ∷ js) (k ∷ ks) = (number j < number k) ⊎ ((j ≡ k) × Lower js ks)

-- "Shorter lists come first"
abbrev pub Before : List Rank → List Rank → Type 0
Before js ks = (length js < length ks) ⊎ ((length js ≡ length ks) × Lower js ks)

-- each list comes before every later one: so "just one time"
unfoldable pub Ascending : List (List Rank) → Type 0
Ascending [] = Unit {0}
Ascending (ks ∷ ls) = ((js : List Rank) → Memᴰ js ls → Before ks js) × Ascending ls

-- "with staging and deletion list large enough": whatever the capacities, for nothing spills; at either edition of the rows, for all parents' ids of 32 bytes and
-- whatever the borrowed buffers hold
pub record Complete : Type 0 where
  pub ascending : Ascending histories
  pub given : (v : RowEdition) (ids : Parent → List ℕ) → ((p : Parent) → length (ids p) ≡ 32) → (B : Borrowed (edition_of v)) (s : Parent → Places)
      → (ks : List Rank) → length ks ≤ 5 → Asked (index_machine (edition_of v) ids B s) ks → Memᴰ ks histories
  pub others : (v : RowEdition) (ids : Parent → List ℕ) → ((p : Parent) → length (ids p) ≡ 32) → (B : Borrowed (edition_of v)) (s : Parent → Places)
      → (ks : List Rank) → Memᴰ ks histories → (length ks ≤ 5) × Asked (index_machine (edition_of v) ids B s) ks
