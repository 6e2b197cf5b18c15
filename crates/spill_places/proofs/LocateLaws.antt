-- What is located lies within its list, and inspection shows the row there.
use Prim.Native.Nat.{ℕ, ◌+◌, ◌*◌, ◌≤◌}
use mathlib.Core.Path.{◌≡◌, refl, sym, ap, subst, ◌∙◌}
use mathlib.Core.List.{List, []}
use mathlib.Core.Bool.{Bool, true, false, cond}
use native.Mathlib.Omega.{arith}
use lib.ListN.{length}
use Rattle.std.specs.Prelude.{Option, Some, None}
use Rattle.index_types.specs.declared.ListCounts.{ListCounts}
use Rattle.records.specs.declared.Place.{Place}
use Rattle.records.specs.declared.Place.TheVariants as place
use Rattle.records.specs.Records.{keys}
use Rattle.records.specs.Find.{find_key, place_of, locate_key, row_at, placed_row}
use Rattle.records.specs.Checks.{records_ok, InBounds, RecordsOk}
use Rattle.records.proofs.TurnLaws.{found_in, below_mul}
use Rattle.records.proofs.CheckLaws.{and_left, and_right, records_ok_facts}
use Rattle.spill_places.specs.declared.Located.{Located}
use Rattle.spill_places.specs.declared.Located.TheVariants.{Staged, Table, Missing, Refused}
use Rattle.spill_places.specs.Inspection.{spills_ok, located, located_code, located_row, Within, locate_row, inspect_code, inspect_row}

-- what the test of both lists establishes
pub record SpillsOk (size limit : ℕ) (sc : ListCounts) (staged : List ℕ) (tc : ListCounts) (table : List ℕ) : Type 0 where
  pub in_staged : RecordsOk size limit sc staged
  pub in_table : RecordsOk size limit tc table

pub spills_ok_facts : (size limit : ℕ) (sc : ListCounts) (staged : List ℕ) (tc : ListCounts) (table : List ℕ)
    → spills_ok size limit sc staged tc table ≡ true → SpillsOk size limit sc staged tc table
unfolding spills_ok
spills_ok_facts size limit sc staged tc table h =
    record {
      in_staged = records_ok_facts size limit sc staged (and_left (records_ok size limit sc staged) (records_ok size limit tc table) h);
      in_table = records_ok_facts size limit tc table (and_right (records_ok size limit sc staged) (records_ok size limit tc table) h);
    }

-- a record that was located lies within the list that is named
pub within_staged : (size : ℕ) (staged table : List ℕ) (r : Located) (i : ℕ) → r ≡ Staged i → Within size staged table r → i * size + size ≤ length staged
within_staged size staged table r i d w = rw d at w

pub within_table : (size : ℕ) (staged table : List ℕ) (r : Located) (i : ℕ) → r ≡ Table i → Within size staged table r → i * size + size ≤ length table
within_table size staged table r i d w = rw d at w

-- a record that was found lies within the list
found_within : (size : ℕ) (c : ListCounts) (key l : List ℕ) (i : ℕ) → InBounds size c l → find_key key (keys size c.count l) ≡ Some i
    → i * size + size ≤ length l
found_within size c key l i b e = omega (arith, below_mul size c.count i (found_in key size c.count l i (Some i) (sym e) refl), b.within)

module _ (size limit : ℕ) (sc : ListCounts) (staged : List ℕ) (tc : ListCounts) (table key : List ℕ) where
  -- the record that an answer names lies within its list
  pub located_within : Within size staged table (locate_row size limit sc staged tc table key)
  unfolding locate_row
  located_within = by_test (spills_ok size limit sc staged tc table) refl
    where
      by_case : SpillsOk size limit sc staged tc table
          → (f : Option ℕ) → find_key key (keys size sc.count staged) ≡ f → (g : Option ℕ) → find_key key (keys size tc.count table) ≡ g
          → Within size staged table (located (place_of f g))
      by_case ok (Some i) e g d = found_within size sc key staged i ok.in_staged.bounds e
      by_case ok None e (Some i) d = found_within size tc key table i ok.in_table.bounds d
      by_case ok None e None d = omega arith

      by_test : (t : Bool) → spills_ok size limit sc staged tc table ≡ t
          → Within size staged table (cond t (located (locate_key size key sc.count staged tc.count table)) (Refused 25))
      by_test true t =
          by_case (spills_ok_facts size limit sc staged tc table t)
          (find_key key (keys size sc.count staged)) refl (find_key key (keys size tc.count table)) refl
      by_test false t = omega arith

  pub staged_within : (r : Located) (i : ℕ) → r ≡ locate_row size limit sc staged tc table key → r ≡ Staged i → i * size + size ≤ length staged
  staged_within r i e d = rw (sym e ∙ d) at located_within

  pub table_within : (r : Located) (i : ℕ) → r ≡ locate_row size limit sc staged tc table key → r ≡ Table i → i * size + size ≤ length table
  table_within r i e d = rw (sym e ∙ d) at located_within

  pub any_within : (r : Located) → r ≡ locate_row size limit sc staged tc table key → Within size staged table r
  any_within r e = subst (Within size staged table) (sym e) located_within

  -- inspection answers the code of what is located
  pub code_located : (r : Located) → r ≡ locate_row size limit sc staged tc table key → located_code r ≡ inspect_code size limit sc staged tc table key
  unfolding inspect_code
  code_located r e = ap located_code e

  -- inspection shows the row at what is located
  pub inspect_located : (r x : Located) → r ≡ locate_row size limit sc staged tc table key → r ≡ x
      → located_row size staged table x ≡ inspect_row size limit sc staged tc table key
  unfolding locate_row inspect_row
  inspect_located r x e d = ap (located_row size staged table) (sym d ∙ e) ∙ by_test (spills_ok size limit sc staged tc table)
    where
      by_place : (p : Place) → located_row size staged table (located p) ≡ placed_row size staged table p
      by_place (place.Staged i) = refl
      by_place (place.Table i) = refl
      by_place place.Missing = refl

      by_test : (t : Bool) → located_row size staged table (cond t (located (locate_key size key sc.count staged tc.count table)) (Refused 25))
          ≡ cond t (placed_row size staged table (locate_key size key sc.count staged tc.count table)) []
      by_test true = by_place (locate_key size key sc.count staged tc.count table)
      by_test false = refl
