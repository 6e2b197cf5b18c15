-- The ways out of the export that reads rows. Signed outs are the numbers as they were stored.
use Prim.Native.Nat.{ℕ}
use mathlib.Core.Path.{◌≡◌}
use mathlib.Core.List.{List}
use lib.IntN.{ℤ}
use Rattle.index_types.specs.declared.Loaded.{Loaded}
use Rattle.index_types.specs.declared.Loaded.TheVariants as loaded
use Rattle.segment_core.specs.Loading.{Loading, loading}
use Rattle.ergo_index_rows.specs.Rows.{Counted, counted, row_out, row_export}

module _ (r : Loaded) (l m : List ℤ) (o : Loading) (e : loading r l m ≡ o) (given : Counted) where
  pub row_read : (n k : ℕ) (b t : ℤ) (next : ℕ) → r ≡ loaded.Read n k b t next → (y : ℤ) → y ≡ b → (z : ℤ) → z ≡ t → row_out 0 (counted n k y z) l m ≡ row_export given o
  row_read n k b t next f y p z q = rw (← e, f, p, q)

  pub row_refused : (code : ℕ) → r ≡ loaded.Refused code → row_out code given l m ≡ row_export given o
  row_refused code f = rw (← e, f)
