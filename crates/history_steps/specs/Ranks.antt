-- The calls of a short history (document 02, U10): "The calls are append 1, append 2, spend 1, spend 2, undo and flush, ranked in that sequence."
use Rattle.std.specs.Prelude.{ℕ, List, [], ◌∷◌, take}
use Rattle.history_steps.specs.declared.Rank.{Rank}
use Rattle.history_steps.specs.declared.Rank.TheVariants.{Append1, Append2, Spend1, Spend2, Undo, Flush}
use Rattle.history_steps.specs.declared.RankList.{RankList}

abbrev pub ranks : List Rank
ranks = Append1 ∷ Append2 ∷ Spend1 ∷ Spend2 ∷ Undo ∷ Flush ∷ []

-- "1 to 6 by rank"
abbrev pub number : Rank → ℕ
number Append1 = 1
number Append2 = 2
number Spend1 = 3
number Spend2 = 4
number Undo = 5
number Flush = 6

-- the calls of a list of at most five, the newest first
abbrev pub ranks_in : RankList → List Rank
ranks_in l = take l.len (l.a ∷ l.b ∷ l.c ∷ l.d ∷ l.e ∷ [])
