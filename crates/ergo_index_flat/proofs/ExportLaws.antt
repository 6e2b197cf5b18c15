-- The ways out of the exports: what the public call left, told through the outs.
use Prim.Native.Nat.{ℕ}
use mathlib.Core.Path.{◌≡◌, sym, ap, ◌∙◌}
use mathlib.Core.List.{List}
use lib.IntN.{ℤ}
use Rattle.index_types.specs.declared.BoxNumber.{BoxNumber}
use Rattle.std.specs.Prelude.{Ok, Err}
use Rattle.index_types.specs.Answers.{FlatChanged}
use Rattle.index_types.specs.Answers.{FlatPopped}
use Rattle.flat_list.specs.Flat.{Changing, changing, Popping, popping}
use Rattle.ergo_index_flat.specs.Exports.{ChangeOut, change_out, change_by, change_export, pop_out, pop_by, pop_export}

pub told_done : (r : FlatChanged) (count : ℕ) (l : List ℤ) (after : ℕ) → r ≡ Ok after → change_out 0 after l ≡ change_by r count l
told_done r count l after e = ap (λ (a : FlatChanged). change_by a count l) (sym e)

pub told_refused : (r : FlatChanged) (count : ℕ) (l : List ℤ) (code : ℕ) → r ≡ Err code → change_out code count l ≡ change_by r count l
told_refused r count l code e = ap (λ (a : FlatChanged). change_by a count l) (sym e)

-- what the call left is c; the export tells its answer
pub change_told : (r : FlatChanged) (l : List ℤ) (c : Changing) → changing r l ≡ c → (count : ℕ) (o : ChangeOut) → o ≡ change_by r count l → o ≡ change_export count c
change_told r l c e count o f = f ∙ ap (change_export count) e

module _ (r : FlatPopped) (l : List ℤ) (p : Popping) (e : popping r l ≡ p) (number : ℤ) (count : ℕ) where
  pub pop_done : (m : BoxNumber) (after : ℕ) → r ≡ Ok (m, after) → (z : ℤ) → z ≡ m.0 → pop_out 0 z after l ≡ pop_export number count p
  pop_done m after f z g = ap (λ (x : ℤ). pop_out 0 x after l) g ∙ ap (λ (a : FlatPopped). pop_by a number count l) (sym f) ∙ ap (pop_export number count) e

  pub pop_refused : (code : ℕ) → r ≡ Err code → pop_out code number count l ≡ pop_export number count p
  pop_refused code f = ap (λ (a : FlatPopped). pop_by a number count l) (sym f) ∙ ap (pop_export number count) e
