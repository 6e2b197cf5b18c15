-- The addresses rank or are refused, and the out holds the order or is as it was.
use Prim.Native.Nat.{ℕ}
use mathlib.Core.Path.{◌≡◌, ◌∙◌, sym, ap}
use lib.IntN.{ℤ}
use Rattle.index_types.specs.declared.Order.{Order}
use Rattle.std.specs.Prelude.{Ok, Err}
use Rattle.index_types.specs.Answers.{Ranked}
use Rattle.ergo_index_ranking.specs.Ranking.{order_number, rank_out, rank_by}

module _ (r : Ranked) (n : ℤ) where
  pub told_ranks : (o : Order) → r ≡ Ok o → (z : ℤ) → z ≡ order_number o → rank_out 0 z ≡ rank_by r n
  told_ranks o e z q = ap (rank_out 0) q ∙ ap (λ u. rank_by u n) (sym e)

  pub told_refused : (code : ℕ) → r ≡ Err code → rank_out code n ≡ rank_by r n
  told_refused code e = rw e
