-- One law for each way out of an append.
use Prim.Native.Nat.{ℕ}
use mathlib.Core.Path.{◌≡◌}
use mathlib.Core.Bool.{true, false}
use mathlib.Core.List.{List}
use lib.IntN.{ℤ}
use Rattle.index_types.specs.declared.ListCounts.{ListCounts}
use Rattle.segment_id.specs.declared.Kind.{Kind}
use Rattle.index_types.specs.declared.HeadCounts.{HeadCounts}
use Rattle.index_types.specs.declared.RowEdition.{RowEdition}
use Rattle.std.specs.Prelude.{Err}
use Rattle.buffer_core.specs.Edition.{edition_of}
use Rattle.buffer_core.specs.Append.{Appending, appending, append_ok, append_core, append_of}

module _ (v : RowEdition) (kind : Kind) (parent : List ℕ) (h : HeadCounts) (number : ℤ) (c : ListCounts) (head : List ℤ) (staged : List ℕ) where
  pub append_25 : append_ok (edition_of v) h c head staged ≡ false → appending (Err 25) head staged ≡ append_of (edition_of v) kind parent h number c head staged
  unfolding append_of
  append_25 e = rw e

  pub append_goes : append_ok (edition_of v) h c head staged ≡ true → (o : Appending) → o ≡ append_core (edition_of v) kind parent h number c head staged
      → o ≡ append_of (edition_of v) kind parent h number c head staged
  unfolding append_of
  append_goes e o d = rw e d
