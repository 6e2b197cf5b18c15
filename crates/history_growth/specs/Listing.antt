-- Every short history, listed (document 02, U10): "every list of 0 to 5 calls for one fresh parent, over the numbers 1 and 2, that keeps the history rules ..
-- Each legal list is given just one time, and no other list is given." That it is so is the theorem of `short_history_laws`.
use Rattle.std.specs.Prelude.{ℕ, zero, suc, cond, List, [], ◌∷◌, ◌++◌, map, length}
use Rattle.history_steps.specs.declared.Rank.{Rank}
use Rattle.history_steps.specs.declared.Rank.TheVariants.{Flush}
use Rattle.history_steps.specs.Ranks.{ranks, number}
use Rattle.history_steps.specs.Legal.{legal_from}

-- each call of js before each list of ls: "equal lengths are ranked by their first differing call"
unfoldable pub each_before : (js : List Rank) → List (List Rank) → List (List Rank)
each_before [] ls = []
each_before (j ∷ js) ls = map (λ ks. j ∷ ks) ls ++ each_before js ls

-- all lists of n calls
unfoldable pub lists_of : ℕ → List (List Rank)
lists_of zero = [] ∷ []
lists_of (suc n) = each_before ranks (lists_of n)

-- "Shorter lists come first"
unfoldable pub lists_up_to : ℕ → List (List Rank)
lists_up_to zero = lists_of zero
lists_up_to (suc n) = lists_up_to n ++ lists_of (suc n)

-- those that may follow the standing calls js and the last call
unfoldable pub only_legal : (js : List Rank) → (last : Rank) → List (List Rank) → List (List Rank)
only_legal js last [] = []
only_legal js last (ks ∷ ls) = cond (legal_from js last ks) (ks ∷ only_legal js last ls) (only_legal js last ls)

-- the histories of at most n calls
abbrev pub histories_up_to : ℕ → List (List Rank)
histories_up_to n = only_legal [] Flush (lists_up_to n)

-- "every list of 0 to 5 calls"
abbrev pub histories : List (List Rank)
histories = histories_up_to 5

-- "They stand one after another in a lent output, each as a byte of its length and one byte per call, 1 to 6 by rank"
unfoldable pub bytes_of : List (List Rank) → List ℕ
bytes_of [] = []
bytes_of (ks ∷ ls) = (length ks ∷ map number ks) ++ bytes_of ls
