-- Laws of `position` and `flipped_at`.
use mathlib.Core.Path.{◌≡◌, refl, sym, ap, ◌∙◌, subst}
use mathlib.Core.Bool.{Bool, true, false, cond}
use mathlib.Core.List.{List, [], ◌∷◌, map}
use Prim.Native.Nat.{ℕ, zero, suc, ◌+◌, ◌<◌, ◌≤◌}
use native.Mathlib.Omega.{arith}
use native.Mathlib.Numerals.{add-one}
use borrow.Author.Tests.{eqb-true}
use lib.Dec.{eqb}
use lib.IntN.{ℤ, pos, negsuc, nat_abs, neg_ℤ}
use lib.ListN.{length, take, get_or, set}
use lib.Seq.{length-take-le, get_or-take}
use Rattle.signed.specs.Sign.{wanted, is_negative}
use Rattle.entries.specs.Flip.{position, flipped_at}
use Rattle.entries.specs.declared.Position.{Position}
use Rattle.entries.specs.declared.Position.TheVariants.{At, Seen, Absent}

-- what an answer `At j` says, of a search that counted from k
pub record Spot (d : Bool) (t : ℕ) (zs : List ℤ) (k j : ℕ) : Type 0 where
  pub at : ℕ
  pub is : j ≡ k + at
  pub inside : at < length zs
  pub size : nat_abs (get_or zs at (pos 0)) ≡ t
  pub sign : wanted d (get_or zs at (pos 0)) ≡ true

module _ (d : Bool) (t : ℕ) (z : ℤ) (zs : List ℤ) where
  later : (k j : ℕ) → Spot d t zs (k + 1) j → Spot d t (z ∷ zs) k j
  later k j s = record { at = suc s.at; is = omega arith; inside = omega arith; size = s.size; sign = s.sign }

  module _ (ih : (k : ℕ) (seen : Bool) (j : ℕ) → position d t zs k seen ≡ At j → Spot d t zs k j) where
    spot_by : (b w : Bool) → eqb (nat_abs z) t ≡ b → wanted d z ≡ w → (k : ℕ) (seen : Bool) (j : ℕ) → position d t (z ∷ zs) k seen ≡ At j → Spot d t (z ∷ zs) k j
    spot_by true true p q k seen j e =
        let same : k ≡ j = cc (rw (p, q) at e) in
        record { at = 0; is = omega arith; inside = omega arith; size = eqb-true (nat_abs z) t p; sign = q }
    spot_by true false p q k seen j e = later k j (ih (k + 1) true j (rw (p, q) at e))
    spot_by false w p q k seen j e = later k j (ih (k + 1) seen j (rw p at e))

nope : {X : Type 0} → ◌≡◌ {A = ℕ} 0 1 → X
nope e = let f : ⊥ = omega arith in absurd f

pub spot : (d : Bool) (t : ℕ) (zs : List ℤ) (k : ℕ) (seen : Bool) (j : ℕ) → position d t zs k seen ≡ At j → Spot d t zs k j
spot d t [] k true j e = nope (cc)
spot d t [] k false j e = nope (cc)
spot d t (z ∷ zs) k seen j e = spot_by d t z zs (λ k seen j e. spot d t zs k seen j e) (eqb (nat_abs z) t) (wanted d z) refl refl k seen j e

-- the same of the first n of a longer list
pub record Hit (d : Bool) (t n : ℕ) (xs : List ℤ) (j : ℕ) : Type 0 where
  pub early : j < n
  pub inside : j < length xs
  pub size : nat_abs (get_or xs j (pos 0)) ≡ t
  pub sign : wanted d (get_or xs j (pos 0)) ≡ true

pub hit : (d : Bool) (t n : ℕ) (xs : List ℤ) (j : ℕ) → n ≤ length xs → position d t (take n xs) 0 false ≡ At j → Hit d t n xs j
hit d t n xs j h e =
    let s = spot d t (take n xs) 0 false j e in
    let l = length-take-le n xs h in
    let at : s.at ≡ j = omega arith in
    let low : j < n = omega arith in
    let g : get_or (take n xs) s.at (pos 0) ≡ get_or xs j (pos 0) = ap (λ (i : ℕ). get_or (take n xs) i (pos 0)) at ∙ get_or-take n xs j (pos 0) low in
    record { early = low; inside = omega arith; size = ap nat_abs (sym g) ∙ s.size; sign = ap (wanted d) (sym g) ∙ s.sign }
