-- Pruning of document 01 ("Beside the spend"): "Pruning keeps heights >= current - window if current > window, else all". No window named means 720
-- (document 02, U6: "pruning with no window named should use 720 instead of 200").
use Rattle.std.specs.Prelude.{ℕ, ◌-◌, ◌≤◌, ◌≡◌, Bool, true, cond, ◌&&◌, List, [], ◌∷◌, ◌++◌, leb, ltb, length, take, drop, replicate, Ok, Err}
use Rattle.undo_pruning.specs.declared.Window.{Window}
use Rattle.undo_pruning.specs.declared.Window.TheVariants.{Named, Unnamed}
use Rattle.undo_pruning.specs.Answers.{Pruned}

abbrev pub rollback_window : ℕ
rollback_window = 720

abbrev pub window_of : Window → ℕ
window_of (Named heights) = heights
window_of Unnamed = rollback_window

-- "keeps heights >= current - window if current > window, else all"
abbrev pub keeps : (current window height : ℕ) → Bool
keeps current window height = cond (ltb window current) (leb (current - window) height) true

-- the heights that pass a test, in their order
unfoldable pub kept : (ℕ → Bool) → List ℕ → List ℕ
kept test [] = []
kept test (h ∷ hs) = cond (test h) (h ∷ kept test hs) (kept test hs)

-- the answer, and the list at exit
pub record Pruning : Type 0 where
  pub answer : Pruned
  pub heights : List ℕ

abbrev pub pruning : Pruned → List ℕ → Pruning
pruning answer heights = record { answer = answer; heights = heights }

-- zeros follow the heights that are kept, up to the capacity; what lies behind the capacity stays
abbrev pub padded : (capacity : ℕ) (kept behind : List ℕ) → List ℕ
padded capacity hs l = hs ++ (replicate (capacity - length hs) 0 ++ drop capacity l)

-- 25 for a list too short: a count above the capacity, or a borrowed list shorter than its capacity
unfoldable pub pruned_of : (count capacity current window : ℕ) → List ℕ → Pruning
pruned_of count capacity current window l =
    cond (leb count capacity && leb capacity (length l))
    (pruning (Ok (length (kept (keeps current window) (take count l)))) (padded capacity (kept (keeps current window) (take count l)) l))
    (pruning (Err 25) l)

-- what moving the kept heights to the front leaves: n of the first `count` are at least `lowest`
pub record Compacts (lowest count : ℕ) (l : List ℕ) (n : ℕ) (l' : List ℕ) : Type 0 where
  pub number : n ≡ length (kept (leb lowest) (take count l))
  pub front : take n l' ≡ kept (leb lowest) (take count l)
  pub few : n ≤ count
  pub behind : drop count l' ≡ drop count l
