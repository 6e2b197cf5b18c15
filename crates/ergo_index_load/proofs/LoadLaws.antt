-- The ways out of the exports of a load.
use Prim.Native.Nat.{ℕ}
use mathlib.Core.Path.{◌≡◌}
use mathlib.Core.List.{List}
use Rattle.load_core.specs.declared.Source.{Source}
use Rattle.std.specs.Prelude.{Ok, Err}
use Rattle.load.specs.Answers.{Generated}
use Rattle.load.specs.Generated.{Generating, generated}
use Rattle.ergo_index_load.specs.Load.{load_out, load_export}

module _ (r : Generated) (l : List ℕ) (o : Generating) (e : generated r l ≡ o) (m : ℕ) (h : Source) where
  pub load_done : (n : ℕ) (g : Source) → r ≡ Ok (n, g) → load_out 0 n g l ≡ load_export m h o
  load_done n g f = rw (← e, f)

  pub load_refused : (code : ℕ) → r ≡ Err code → load_out code m h l ≡ load_export m h o
  load_refused code f = rw (← e, f)
