-- One law for each way out of a spend, an unspend and a tally.
use Prim.Native.Nat.{ℕ}
use mathlib.Core.Path.{◌≡◌}
use mathlib.Core.Bool.{true, false}
use mathlib.Core.List.{List}
use lib.IntN.{ℤ}
use lib.ListN.{take}
use Rattle.index_types.specs.declared.ListCounts.{ListCounts}
use Rattle.index_types.specs.declared.HeadCounts.{HeadCounts}
use Rattle.index_types.specs.declared.RowEdition.{RowEdition}
use Rattle.buffer_core.specs.declared.Direction.{Direction}
use Rattle.std.specs.Prelude.{Err}
use Rattle.index_types.specs.Answers.{Tallied}
use Rattle.buffer_core.specs.Edition.{edition_of}
use Rattle.buffer_core.specs.Spills.{sources}
use Rattle.buffer_core.specs.Flip.{Flipping, flipping, flip_ok, flip_core, flip_of}
use Rattle.buffer_core.specs.Tally.{tally_core, tally_of}

-- ---- spend and unspend

module _ (v : RowEdition) (d : Direction) (parent : List ℕ) (h : HeadCounts) (target : ℤ) (c : ListCounts) (staged : List ℕ) (e : ListCounts) (table : List ℕ) (head : List ℤ) where
  pub flip_25 : flip_ok (edition_of v) h c staged e table head ≡ false → flipping (Err 25) head staged ≡ flip_of (edition_of v) d parent h target c staged e table head
  unfolding flip_of
  flip_25 q = rw q

  pub flip_goes : flip_ok (edition_of v) h c staged e table head ≡ true → (o : Flipping) → o ≡ flip_core (edition_of v) d parent h target c staged e table head
      → o ≡ flip_of (edition_of v) d parent h target c staged e table head
  unfolding flip_of
  flip_goes q o f = rw q f

-- ---- tally

module _ (v : RowEdition) (parent : List ℕ) (h : HeadCounts) (c : ListCounts) (staged : List ℕ) (e : ListCounts) (table : List ℕ) (head : List ℤ) where
  pub tally_25 : flip_ok (edition_of v) h c staged e table head ≡ false → Err 25 ≡ tally_of (edition_of v) parent h c staged e table head
  unfolding tally_of
  tally_25 q = rw q

  pub tally_goes : flip_ok (edition_of v) h c staged e table head ≡ true → (r : Tallied)
      → r ≡ tally_core (edition_of v) (sources parent staged c.count table e.count) h.spills (take h.len head) → r ≡ tally_of (edition_of v) parent h c staged e table head
  unfolding tally_of
  tally_goes q r f = rw q f
