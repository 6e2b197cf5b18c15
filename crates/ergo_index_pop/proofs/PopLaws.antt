-- The export of a pop tells what the call left.
use Prim.Native.Nat.{ℕ}
use mathlib.Core.Path.{◌≡◌, ap}
use mathlib.Core.List.{List}
use lib.IntN.{ℤ}
use Rattle.index_types.specs.Answers.{Popped}
use Rattle.buffer_core.specs.Pop.{Popping, popping}
use Rattle.ergo_index_outs.specs.Outs.{pop_by}
use Rattle.ergo_index_pop.specs.Pop.{pop_export}

-- r, head, staged and deleted are what the call left
pub pop_told : (r : Popped) (head : List ℤ) (staged deleted : List ℕ) (o : Popping) → popping r head staged deleted ≡ o → (n : ℤ) (len : ℕ) (spills : ℤ) (s d : ℕ)
    → pop_by r n len spills s d head staged deleted ≡ pop_export n len spills s d o
pop_told r head staged deleted o e n len spills s d = ap (λ (p : Popping). pop_export n len spills s d p) e
