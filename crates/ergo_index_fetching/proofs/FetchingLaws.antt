-- The ways out of the export: the row was put and the out holds the count, or the put was refused and the out is as it was.
use Prim.Native.Nat.{ℕ}
use mathlib.Core.Path.{◌≡◌, sym, ap, ◌∙◌}
use mathlib.Core.List.{List}
use Rattle.index_types.specs.declared.ListCounts.{ListCounts}
use Rattle.std.specs.Prelude.{Ok, Err}
use Rattle.row_fetching.specs.Answers.{RowPut}
use Rattle.row_fetching.specs.Putting.{Putting, putting}
use Rattle.ergo_index_fetching.specs.Fetching.{put_out, put_by, put_export}

-- r and table are what the public call left
module _ (r : RowPut) (table : List ℕ) (o : Putting) (e : putting r table ≡ o) (count : ℕ) where
  pub put_done : (c : ListCounts) → r ≡ Ok c → put_out 0 c.count table ≡ put_export count o
  put_done c f = ap (λ (a : RowPut). put_by a count table) (sym f) ∙ ap (put_export count) e

  pub put_refused : (code : ℕ) → r ≡ Err code → put_out code count table ≡ put_export count o
  put_refused code f = ap (λ (a : RowPut). put_by a count table) (sym f) ∙ ap (put_export count) e
