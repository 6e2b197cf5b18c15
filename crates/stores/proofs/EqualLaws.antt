-- Laws of `same_bytes`: it is equality.
use Prim.Native.Nat.{ℕ}
use mathlib.Core.Path.{◌≡◌, refl, ap}
use mathlib.Core.Bool.{Bool, true, false, ◌&&◌}
use mathlib.Core.List.{List, [], ◌∷◌}
use lib.Dec.{eqb}
use borrow.Author.Tests.{eq-eqb, eqb-true}
use Rattle.std.specs.Cmp.Lexicographic.{pointwise}
use Rattle.std.proofs.Common.{nat_eq}
use Rattle.stores.specs.Equal.{same_bytes}

-- it is the test that `==` of slices makes
pub same_is_eq : (a b : List ℕ) → pointwise nat_eq a b ≡ same_bytes a b
unfolding same_bytes
same_is_eq [] [] = refl
same_is_eq [] (y ∷ ys) = refl
same_is_eq (x ∷ xs) [] = refl
same_is_eq (x ∷ xs) (y ∷ ys) = ap (λ (t : Bool). eqb x y && t) (same_is_eq xs ys)

pub same_refl : (a : List ℕ) → same_bytes a a ≡ true
unfolding same_bytes
same_refl [] = refl
same_refl (x ∷ xs) = rw (eq-eqb x x refl, same_refl xs)

pub same_true : (a b : List ℕ) → same_bytes a b ≡ true → a ≡ b
unfolding same_bytes
same_true [] [] h = refl
same_true [] (y ∷ ys) h = cc
same_true (x ∷ xs) [] h = cc
same_true (x ∷ xs) (y ∷ ys) h = same_cons (same_true xs ys) (eqb x y) refl h
  where
    same_cons : (same_bytes xs ys ≡ true → xs ≡ ys) → (t : Bool) → eqb x y ≡ t → t && same_bytes xs ys ≡ true → x ∷ xs ≡ y ∷ ys
    same_cons rest true e h = let p = eqb-true x y e in let q = rest h in cc
    same_cons rest false e h = cc
