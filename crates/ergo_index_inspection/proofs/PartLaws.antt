-- The bytes that the export of `inspect_spill` points at are the row that `inspect_spill` shows.
use Prim.Native.Nat.{ℕ, zero, suc, ◌+◌, ◌*◌}
use mathlib.Core.Path.{◌≡◌, refl, sym, ap, ◌∙◌}
use mathlib.Core.List.{List, [], ◌∷◌, ◌++◌}
use lib.ListN.{length, take, drop, take-append-drop}
use lib.Seq.{drop-drop}
use Rattle.index_types.specs.declared.ListCounts.{ListCounts}
use Rattle.records.specs.Records.{stored_length, stored_row}
use Rattle.records.specs.Find.{row_at}
use Rattle.spill_places.specs.declared.Located.TheVariants.{Staged, Table}
use Rattle.spill_places.specs.Inspection.{locate_row, inspect_row}
use Rattle.spill_places.proofs.LocateLaws.{inspect_located}

-- ---- a part of a front part lies at the same place in the whole
front : (n : ℕ) (p r : List ℕ) → take (length (take n p)) (p ++ r) ≡ take n p
front zero p r = refl
front (suc n) [] r = refl
front (suc n) (x ∷ p) r = ap (λ (s : List ℕ). x ∷ s) (front n p r)

part : (n m : ℕ) (p r : List ℕ) → take (length (take n (drop m p))) (drop m (p ++ r)) ≡ take n (drop m p)
part n zero p r = front n p r
part zero (suc m) [] r = refl
part (suc n) (suc m) [] r = refl
part n (suc m) (x ∷ p) r = part n m p r

-- the row of the record with index i, in the list
part_of_row : (z i : ℕ) (l : List ℕ) → take (length (row_at z i l)) (drop (i * z + 34) l) ≡ row_at z i l
unfolding stored_row
part_of_row z i l =
    let rest = drop (i * z) l in
    let r = take z rest in
    ap (λ (s : List ℕ). take (length (take (stored_length r) (drop 34 r))) s) (sym (drop-drop 34 (i * z) l) ∙ ap (λ (s : List ℕ). drop 34 s) (sym (take-append-drop z rest)))
    ∙ part (stored_length r) 34 r (drop z rest)

module _ (z limit : ℕ) (sc : ListCounts) (staged : List ℕ) (tc : ListCounts) (table key : List ℕ) (i : ℕ) where
  abbrev shown : List ℕ
  shown = inspect_row z limit sc staged tc table key

  pub staged_part : locate_row z limit sc staged tc table key ≡ Staged i → take (length shown) (drop (i * z + 34) staged) ≡ shown
  staged_part e = rw (← (inspect_located z limit sc staged tc table key (Staged i) (Staged i) (sym e) refl)) (part_of_row z i staged)

  pub table_part : locate_row z limit sc staged tc table key ≡ Table i → take (length shown) (drop (i * z + 34) table) ≡ shown
  table_part e = rw (← (inspect_located z limit sc staged tc table key (Table i) (Table i) (sym e) refl)) (part_of_row z i table)
