-- What the steps of the listing write: the histories that go on from the calls so far.
use Rattle.std.specs.Prelude.{ℕ, zero, suc, List, [], ◌∷◌, ◌++◌, map, drop}
use Rattle.history_steps.specs.declared.Rank.{Rank}
use Rattle.history_steps.specs.Ranks.{ranks}
use Rattle.history_growth.specs.Listing.{each_before, lists_of, only_legal}

unfoldable pub oldest_first : List Rank → List Rank
oldest_first [] = []
oldest_first (k ∷ ks) = oldest_first ks ++ (k ∷ [])

-- all lists of n calls of which the first stands at place i of the ranks or behind it
unfoldable pub lists_from : (n i : ℕ) → List (List Rank)
lists_from zero i = [] ∷ []
lists_from (suc n) i = each_before (drop i ranks) (lists_of n)

-- those that may follow the calls so far, each behind these; js are the calls that stand of them
abbrev pub going_on : (n i : ℕ) → (js : List Rank) → (last : Rank) → (so_far : List Rank) → List (List Rank)
going_on n i js last so_far = map (λ ks. oldest_first so_far ++ ks) (only_legal js last (lists_from n i))
