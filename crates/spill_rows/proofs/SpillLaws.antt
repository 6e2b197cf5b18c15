-- Laws of finding a spill's row, one for each way out, and that what is read has at most 512 numbers.
use Prim.Native.Nat.{ℕ, ◌≤◌, ◌<◌}
use mathlib.Core.Path.{◌≡◌, refl, sym, ap, ◌∙◌}
use mathlib.Core.List.{List}
use native.Mathlib.Omega.{arith}
use lib.IntN.{ℤ, pos}
use lib.ListN.{length}
use Rattle.std.specs.Prelude.{Option, Some, None, Err}
use Rattle.records.specs.declared.Place.{Place}
use Rattle.records.specs.declared.Place.TheVariants as place
use Rattle.records.specs.Records.{keys}
use Rattle.records.specs.Find.{find_key, row_at, place_of, locate_key}
use Rattle.records.proofs.TurnLaws.{found_in}
use Rattle.segment_id.specs.Key.{row_key}
use Rattle.segment_id.specs.declared.Kind.{Kind}
use Rattle.index_types.specs.declared.RowEdition.{RowEdition}
use Rattle.buffer_core.specs.Edition.{good, numbers_of, edition_of, record_size, row_under}
use Rattle.buffer_core.specs.Spills.{sources, place_at, read_placed, spill_read}
use Rattle.row_edition.specs.Answers.{SpillRead}
use Rattle.row_edition.specs.Internal.{SpillInto}
use Rattle.buffer_core.proofs.UnderLaws.{decode_few}

-- ---- the row under a key

module _ (size : ℕ) (key staged : List ℕ) (m : ℕ) (table : List ℕ) (n : ℕ) (p : Place) (e : p ≡ locate_key size key m staged n table) where
  pub staged_below : (i : ℕ) → p ≡ place.Staged i → i < m
  staged_below i d = by_found (find_key key (keys size m staged)) refl (find_key key (keys size n table)) (sym e ∙ d)
    where
      by_found : (f : Option ℕ) → f ≡ find_key key (keys size m staged) → (g : Option ℕ) → place_of f g ≡ place.Staged i → i < m
      by_found (Some j) q g d = let a : j ≡ i = cc in found_in key size m staged i (Some j) q (ap Some a)
      by_found None q (Some j) d = let z : ◌≡◌ {A = ℕ} 0 1 = cc in absurd (omega arith)
      by_found None q None d = let z : ◌≡◌ {A = ℕ} 0 1 = cc in absurd (omega arith)

  pub table_below : (i : ℕ) → p ≡ place.Table i → i < n
  table_below i d = by_found (find_key key (keys size m staged)) (find_key key (keys size n table)) refl (sym e ∙ d)
    where
      by_found : (f g : Option ℕ) → g ≡ find_key key (keys size n table) → place_of f g ≡ place.Table i → i < n
      by_found (Some j) g q d = let z : ◌≡◌ {A = ℕ} 0 1 = cc in absurd (omega arith)
      by_found None (Some j) q d = let a : j ≡ i = cc in found_in key size n table i (Some j) q (ap Some a)
      by_found None None q d = let z : ◌≡◌ {A = ℕ} 0 1 = cc in absurd (omega arith)

module _ (v : RowEdition) (kind : Kind) (parent staged : List ℕ) (m : ℕ) (table : List ℕ) (n number : ℕ) (key : List ℕ) (named_by : key ≡ row_key parent kind (pos number))
    (p : Place) (e : p ≡ locate_key (record_size v) key m staged n table) where
  place_is : place_at (edition_of v) kind (sources parent staged m table n) number ≡ p
  unfolding place_at
  place_is = ap (λ (k : List ℕ). locate_key (record_size v) k m staged n table) (sym named_by) ∙ sym e

  module _ (r : SpillRead) (out : List ℤ) where
    -- the row of a staged spill, or of a record of the table
    pub under_staged : (i : ℕ) → p ≡ place.Staged i → (row : List ℕ) → row ≡ row_at (record_size v) i staged → SpillInto (numbers_of kind (row_under v kind parent (pos number) row)) r out
        → SpillInto (spill_read (edition_of v) kind (sources parent staged m table n) number) r out
    unfolding spill_read
    under_staged i d row q s = rw (place_is, d, ← q) s

    pub under_table : (i : ℕ) → p ≡ place.Table i → (row : List ℕ) → row ≡ row_at (record_size v) i table → SpillInto (numbers_of kind (row_under v kind parent (pos number) row)) r out
        → SpillInto (spill_read (edition_of v) kind (sources parent staged m table n) number) r out
    unfolding spill_read
    under_table i d row q s = rw (place_is, d, ← q) s

  pub under_missing : (out : List ℤ) → p ≡ place.Missing → SpillInto (spill_read (edition_of v) kind (sources parent staged m table n) number) (Err 12) out
  unfolding spill_read
  under_missing out d = rw (place_is, d) refl

-- what is read has at most 512 numbers
pub spill_few : (v : RowEdition) (kind : Kind) (parent staged : List ℕ) (m : ℕ) (table : List ℕ) (n number : ℕ) (zs : List ℤ)
    → spill_read (edition_of v) kind (sources parent staged m table n) number ≡ good zs → length zs ≤ 512
unfolding spill_read
spill_few v kind parent staged m table n number zs e = by_place (place_at (edition_of v) kind (sources parent staged m table n) number) e
  where
    by_place : (p : Place) → read_placed (edition_of v) kind (sources parent staged m table n) number p ≡ good zs → length zs ≤ 512
    by_place (place.Staged i) e = decode_few v kind parent (pos number) (row_at (record_size v) i staged) zs e
    by_place (place.Table i) e = decode_few v kind parent (pos number) (row_at (record_size v) i table) zs e
    by_place place.Missing e = let z : ◌≡◌ {A = ℕ} 0 1 = cc in absurd (omega arith)
