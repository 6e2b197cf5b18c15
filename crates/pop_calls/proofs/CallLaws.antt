-- One law for each way out of a pop.
use Prim.Native.Nat.{ℕ}
use mathlib.Core.Path.{◌≡◌}
use mathlib.Core.Bool.{true, false}
use mathlib.Core.List.{List}
use lib.IntN.{ℤ}
use Rattle.index_types.specs.declared.ListCounts.{ListCounts}
use Rattle.segment_id.specs.declared.Kind.{Kind}
use Rattle.index_types.specs.declared.HeadCounts.{HeadCounts}
use Rattle.index_types.specs.declared.RowEdition.{RowEdition}
use Rattle.std.specs.Prelude.{Ok, Err}
use Rattle.index_types.specs.Answers.{Popped}
use Rattle.buffer_core.specs.Edition.{edition_of}
use Rattle.buffer_core.specs.Pop.{Popping, popping, Lists, pop_ok, pop_core, pop_of}

module _ (v : RowEdition) (kind : Kind) (parent : List ℕ) (h : HeadCounts) (b : Lists) (head : List ℤ) where
  pub pop_25 : pop_ok (edition_of v) h b head ≡ false → popping (Err 25) head b.staged b.deleted ≡ pop_of (edition_of v) kind parent h b head
  unfolding pop_of
  pop_25 e = rw e

  pub pop_goes : pop_ok (edition_of v) h b head ≡ true → (o : Popping) → o ≡ pop_core (edition_of v) kind parent h b head → o ≡ pop_of (edition_of v) kind parent h b head
  unfolding pop_of
  pop_goes e o d = rw e d

-- ---- the popped number, as the number of a box or of a transaction

pub same_number : (r : Popped) (n : ℤ) (h : HeadCounts) (c d : ListCounts) (head : List ℤ) (staged deleted : List ℕ) (o : Popping) → popping r head staged deleted ≡ o
    → r ≡ Ok (n, h, c, d) → (m : ℤ) → m ≡ n → popping (Ok (m, h, c, d)) head staged deleted ≡ o
same_number r n h c d head staged deleted o e f m g = rw (g, ← f) e
