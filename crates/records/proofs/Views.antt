-- The list-of-records view: what a put and a removal are on a list of records or of keys, and the row under a key.
use Prim.Native.Nat.{ℕ, zero, suc, ◌-◌, ◌<◌}
use mathlib.Core.Path.{◌≡◌, refl, ap}
use mathlib.Core.List.{List, [], ◌∷◌, ◌++◌, map}
use mathlib.Core.Bool.{Bool, true, false}
use mathlib.Core.Logic.{◌⊎◌, inl, inr}
use native.Mathlib.Omega.{arith}
use lib.Dec.{eqb}
use lib.ListN.{length, get_or, take, set, length-set, length-take, length-map, get_or-map}
use lib.Seq.{get_or-set_same, get_or-set_other, get_or-take}
use borrow.Author.Tests.{eqb-true, eqb-false}
use Rattle.std.specs.Prelude.{Option, Some, None}
use Rattle.records.specs.Records.{keys, stored_row}
use Rattle.records.specs.Find.{find_key, row_at}

module _ {A : Type 0} where
  -- a in the place that was found, or last
  abbrev pub put_at : Option ℕ → A → List A → List A
  put_at (Some i) a xs = set xs i a
  put_at None a xs = xs ++ a ∷ []

  -- without the element at i: the last one moves into the gap
  unfoldable pub remove_at : A → ℕ → List A → List A
  remove_at d i xs = take (length xs - 1) (set xs i (get_or xs (length xs - 1) d))

  -- without the element that was found
  abbrev pub remove_found : A → Option ℕ → List A → List A
  remove_found d (Some i) xs = remove_at d i xs
  remove_found d None xs = xs

  module _ (d : A) (xs : List A) (i : ℕ) (h : i < length xs) where
    pub length_remove : length (remove_at d i xs) ≡ length xs - 1
    unfolding remove_at
    length_remove = simp (length-take, length-set) (omega arith)

    pub remove_same : i < length xs - 1 → get_or (remove_at d i xs) i d ≡ get_or xs (length xs - 1) d
    unfolding remove_at
    remove_same l = rw (get_or-take, get_or-set_same)

    pub remove_other : (j : ℕ) → j < length xs - 1 → (j ≡ i → ⊥) → get_or (remove_at d i xs) j d ≡ get_or xs j d
    unfolding remove_at
    remove_other j l n = rw (get_or-take, get_or-set_other)

    -- where the element that stands at j afterwards came from
    pub record From (j : ℕ) : Type 0 where
      pub from : ℕ
      pub in_list : from < length xs
      pub not_gap : from ≡ i → ⊥
      pub stands : get_or (remove_at d i xs) j d ≡ get_or xs from d
      pub which : ((from ≡ j) × (j ≡ i → ⊥)) ⊎ ((j ≡ i) × (from ≡ length xs - 1))

    pub came_from : (j : ℕ) → j < length xs - 1 → From j
    came_from j l = by_test (eqb j i) refl
      where
        by_test : (t : Bool) → eqb j i ≡ t → From j
        by_test true t =
            let e = eqb-true j i t in
            record { from = length xs - 1; in_list = omega arith; not_gap = λ d. omega arith; stands = rw e (remove_same (omega arith)); which = inr (e, refl) }
        by_test false t =
            let e = eqb-false j i t in
            record { from = j; in_list = omega arith; not_gap = e; stands = remove_other j l e; which = inl (refl, e) }

-- a map of each element goes through the view
module _ {A B : Type 0} (f : A → B) where
  pub map_set : (xs : List A) (i : ℕ) (a : A) → map f (set xs i a) ≡ set (map f xs) i (f a)
  map_set [] i a = refl
  map_set (x ∷ xs) zero a = refl
  map_set (x ∷ xs) (suc i) a = ap (λ (ys : List B). f x ∷ ys) (map_set xs i a)

  pub map_take : (n : ℕ) (xs : List A) → map f (take n xs) ≡ take n (map f xs)
  map_take zero xs = refl
  map_take (suc n) [] = refl
  map_take (suc n) (x ∷ xs) = ap (λ (ys : List B). f x ∷ ys) (map_take n xs)

  pub map_more : (xs : List A) (a : A) → map f (xs ++ a ∷ []) ≡ map f xs ++ f a ∷ []
  map_more [] a = refl
  map_more (x ∷ xs) a = ap (λ (ys : List B). f x ∷ ys) (map_more xs a)

  pub map_put : (o : Option ℕ) (a : A) (xs : List A) → map f (put_at o a xs) ≡ put_at o (f a) (map f xs)
  map_put (Some i) a xs = map_set xs i a
  map_put None a xs = map_more xs a

  pub map_remove : (d : A) (i : ℕ) (xs : List A) → map f (remove_at d i xs) ≡ remove_at (f d) i (map f xs)
  unfolding remove_at
  map_remove d i xs = rw (map_take, map_set, length-map, ← get_or-map f xs (length xs - 1) d)

-- ---- rows

-- the row of the record that was found, empty where none was
abbrev pub found_row : (size : ℕ) → List ℕ → Option ℕ → List ℕ
found_row size l (Some i) = row_at size i l
found_row size l None = []

-- the row under a key, empty where the key is not there
abbrev pub row_under : (size count : ℕ) → (key l : List ℕ) → List ℕ
row_under size count key l = found_row size l (find_key key (keys size count l))

-- the row of the record that was found, read off the list of records
abbrev pub view_row : Option ℕ → List (List ℕ) → List ℕ
view_row (Some i) rs = stored_row (get_or rs i [])
view_row None rs = []
