-- What the outs of an append and of a pop hold beside the summary: the outs are told whatever the lists hold, and so with the lists that the call left.
use Prim.Native.Nat.{ℕ}
use mathlib.Core.Path.{◌≡◌}
use mathlib.Core.List.{List}
use lib.IntN.{ℤ}
use Rattle.index_types.specs.Answers.{Appended}
use Rattle.index_types.specs.Answers.{Popped}
use Rattle.buffer_core.specs.Append.{Appending, appending}
use Rattle.buffer_core.specs.Pop.{Popping, popping}
use Rattle.summary_core.specs.Lines.{WithSummary, with_summary}
use Rattle.ergo_index_outs.specs.Outs.{append_out, append_by}
use Rattle.ergo_index_append.specs.Append.{append_export}
use Rattle.ergo_index_outs.specs.Outs.{pop_out, pop_by}
use Rattle.ergo_index_pop.specs.Pop.{pop_export}
use Rattle.ergo_index_summary.specs.Summary.{exported}
use Rattle.ergo_index_summary.proofs.SummaryLaws.{told_beside}

-- the head's length and spill count and the count of staged spills: before the call, and as the outs hold them
pub append_beside : (len : ℕ) (spills : ℤ) (count : ℕ) (r : Appended) (head : List ℤ) (staged S : List ℕ) (o : WithSummary Appending) → with_summary (appending r head staged) S ≡ o
    → (code len' : ℕ) (spills' : ℤ) (count' : ℕ) → ((x : List ℤ) (y : List ℕ) → append_out code len' spills' count' x y ≡ append_by r len spills count x y)
    → with_summary (append_out code len' spills' count' head staged) S ≡ exported (append_export len spills count) o
append_beside len spills count r head staged S o e code len' spills' count' f = told_beside (append_export len spills count) _ S o e _ (f head staged)

-- the same of the popped number, the head's counts and the counts of staged and deleted spills
pub pop_beside : (n : ℤ) (len : ℕ) (spills : ℤ) (s d : ℕ) (r : Popped) (head : List ℤ) (staged deleted S : List ℕ) (o : WithSummary Popping)
    → with_summary (popping r head staged deleted) S ≡ o
    → (code : ℕ) (n' : ℤ) (len' : ℕ) (spills' : ℤ) (s' d' : ℕ)
    → ((x : List ℤ) (y z : List ℕ) → pop_out code n' len' spills' s' d' x y z ≡ pop_by r n len spills s d x y z)
    → with_summary (pop_out code n' len' spills' s' d' head staged deleted) S ≡ exported (pop_export n len spills s d) o
pop_beside n len spills s d r head staged deleted S o e code n' len' spills' s' d' f = told_beside (pop_export n len spills s d) _ S o e _ (f head staged deleted)
