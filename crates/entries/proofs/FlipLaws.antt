-- What a flip does to the absolute values, to the order and to the spent copies, and what the two refusals say.
use mathlib.Core.Path.{◌≡◌, refl, sym, ap, ◌∙◌, subst}
use mathlib.Core.Logic.{◌⊎◌, inl, inr}
use mathlib.Core.Bool.{Bool, true, false, ◌&&◌, cond}
use mathlib.Core.List.{List, [], ◌∷◌, ◌++◌, map}
use Prim.Native.Nat.{ℕ, zero, suc, ◌+◌, ◌<◌, ◌≤◌}
use native.Mathlib.Omega.{arith}
use borrow.Author.Tests.{eqb-true, eqb-false, eq-eqb, ne_eqb}
use lib.Dec.{T, eqb}
use lib.IntN.{ℤ, pos, negsuc, nat_abs, neg_ℤ}
use lib.ListN.{length, take, get_or, set}
use lib.Seq.{map-set_same, take-set-lt, length-take-le, get_or-take, set-get_or}
use Rattle.signed.specs.Sign.{wanted, is_negative}
use Rattle.entries.specs.Order.{ordered, order_ok}
use Rattle.entries.proofs.Counts.{bit, copies, neg1, negs}
use Rattle.entries.specs.Flip.{position, flipped_at}
use Rattle.entries.proofs.PositionLaws.{Hit, hit}
use Rattle.entries.specs.declared.Position.{Position}
use Rattle.entries.specs.declared.Position.TheVariants.{At, Seen, Absent}

pub natAbs_neg : (z : ℤ) → nat_abs (neg_ℤ z) ≡ nat_abs z
natAbs_neg (pos zero) = refl
natAbs_neg (pos (suc n)) = refl
natAbs_neg (negsuc n) = refl

-- ---- the absolute values are as they were, whatever was found
pub abs_kept : (p : Position) (zs : List ℤ) → map nat_abs (flipped_at p zs) ≡ map nat_abs zs
abs_kept (At i) zs = map-set_same nat_abs zs i (neg_ℤ (get_or zs i (pos 0))) (pos 0) (natAbs_neg (get_or zs i (pos 0)))
abs_kept Seen zs = refl
abs_kept Absent zs = refl

pub map_take : (n : ℕ) (zs : List ℤ) → map nat_abs (take n zs) ≡ take n (map nat_abs zs)
map_take zero zs = refl
map_take (suc n) [] = refl
map_take (suc n) (z ∷ zs) = ap (λ (l : List ℕ). nat_abs z ∷ l) (map_take n zs)

pub abs_kept_first : (p : Position) (n : ℕ) (zs : List ℤ) → map nat_abs (take n (flipped_at p zs)) ≡ map nat_abs (take n zs)
abs_kept_first p n zs = map_take n (flipped_at p zs) ∙ ap (take n) (abs_kept p zs) ∙ sym (map_take n zs)

pub order_kept : (p : Position) (n : ℕ) (zs : List ℤ) → order_ok (take n (flipped_at p zs)) ≡ order_ok (take n zs)
order_kept p n zs = ap (ordered 0) (abs_kept_first p n zs)

-- ---- the spent copies
pub negs_set : (t : ℕ) (zs : List ℤ) (m : ℕ) (y : ℤ) → m < length zs → negs t (set zs m y) + neg1 t (get_or zs m (pos 0)) ≡ negs t zs + neg1 t y
negs_set t [] m y h = let f : ⊥ = omega arith in absurd f
negs_set t (z ∷ zs) zero y h = omega arith
negs_set t (z ∷ zs) (suc m) y h = omega (arith, negs_set t zs m y (omega arith))

pub negs_append : (t : ℕ) (a b : List ℤ) → negs t (a ++ b) ≡ negs t a + negs t b
negs_append t [] b = omega arith
negs_append t (z ∷ a) b = omega (arith, negs_append t a b)

neg1_spend : (t : ℕ) (z : ℤ) → 0 < t → nat_abs z ≡ t → wanted true z ≡ true → (neg1 t z ≡ 0) × (neg1 t (neg_ℤ z) ≡ 1)
neg1_spend t (pos zero) h e w = let f : ⊥ = omega arith in absurd f
neg1_spend t (pos (suc n)) h e w = (refl, ap bit (eq-eqb (suc n) t e))
neg1_spend t (negsuc n) h e w = absurd (subst T (sym w) tt)

neg1_unspend : (t : ℕ) (z : ℤ) → 0 < t → nat_abs z ≡ t → wanted false z ≡ true → (neg1 t z ≡ 1) × (neg1 t (neg_ℤ z) ≡ 0)
neg1_unspend t (pos n) h e w = let f : ⊥ = omega (arith, eqb-true n 0 w) in absurd f
neg1_unspend t (negsuc n) h e w = (ap bit (eq-eqb (suc n) t e), refl)

neg1_other : (u : ℕ) (z : ℤ) → (nat_abs z ≡ u → ⊥) → neg1 u z ≡ 0
neg1_other u (pos n) h = refl
neg1_other u (negsuc n) h = ap bit (ne_eqb (suc n) u h)

module _ (d : Bool) (t n : ℕ) (xs : List ℤ) (j : ℕ) (k : n ≤ length xs) (e : position d t (take n xs) 0 false ≡ At j) where
  -- the count of any u, before and after
  pub flip_counts : (u : ℕ) → negs u (take n (flipped_at (At j) xs)) + neg1 u (get_or xs j (pos 0)) ≡ negs u (take n xs) + neg1 u (neg_ℤ (get_or xs j (pos 0)))
  flip_counts u =
      let h = hit d t n xs j k e in
      let s = negs_set u (take n xs) j (neg_ℤ (get_or xs j (pos 0))) (omega (arith, length-take-le n xs k, h.early)) in
      omega (arith, s, ap (negs u) (take-set-lt n xs j (neg_ℤ (get_or xs j (pos 0))) h.early), ap (neg1 u) (get_or-take n xs j (pos 0) h.early))

  pub flip_others : (u : ℕ) → (u ≡ t → ⊥) → negs u (take n (flipped_at (At j) xs)) ≡ negs u (take n xs)
  flip_others u ne =
      let z = get_or xs j (pos 0) in
      let h = hit d t n xs j k e in
      omega (arith, flip_counts u, neg1_other u z (λ q. ne (sym q ∙ h.size)), neg1_other u (neg_ℤ z) (λ q. ne (sym q ∙ natAbs_neg z ∙ h.size)))

pub spend_counts : (t n : ℕ) (xs : List ℤ) (j : ℕ) → n ≤ length xs → position true t (take n xs) 0 false ≡ At j → 0 < t
    → negs t (take n (flipped_at (At j) xs)) ≡ negs t (take n xs) + 1
spend_counts t n xs j k e h =
    let s = hit true t n xs j k e in
    let p = neg1_spend t (get_or xs j (pos 0)) h s.size s.sign in
    omega (arith, flip_counts true t n xs j k e t, p.0, p.1)

pub unspend_counts : (t n : ℕ) (xs : List ℤ) (j : ℕ) → n ≤ length xs → position false t (take n xs) 0 false ≡ At j → 0 < t
    → negs t (take n xs) ≡ negs t (take n (flipped_at (At j) xs)) + 1
unspend_counts t n xs j k e h =
    let s = hit false t n xs j k e in
    let p = neg1_unspend t (get_or xs j (pos 0)) h s.size s.sign in
    omega (arith, flip_counts false t n xs j k e t, p.0, p.1)

-- ---- what the two refusals say
nope : {X : Type 0} → ◌≡◌ {A = ℕ} 0 1 → X
nope e = let f : ⊥ = omega arith in absurd f

-- a copy of t that a flip in direction d takes
abbrev pub want1 : Bool → ℕ → ℤ → ℕ
want1 d t z = bit (eqb (nat_abs z) t && wanted d z)

abbrev pub wants : Bool → ℕ → List ℤ → ℕ
wants d t [] = 0
wants d t (z ∷ zs) = want1 d t z + wants d t zs

-- no answer but `At`: no copy to take
pub record Missed (d : Bool) (t : ℕ) (zs : List ℤ) (seen : Bool) (r : Position) : Type 0 where
  pub untaken : wants d t zs ≡ 0
  pub never : r ≡ Absent → (seen ≡ false) × (copies t (map nat_abs zs) ≡ 0)
  pub once : r ≡ Seen → seen ≡ false → 0 < copies t (map nat_abs zs)

module _ (d : Bool) (t : ℕ) (z : ℤ) (zs : List ℤ) (ih : (k : ℕ) (seen : Bool) (r : Position) → ((j : ℕ) → r ≡ At j → ⊥) → position d t zs k seen ≡ r → Missed d t zs seen r) where
  missed_by : (b w : Bool) → eqb (nat_abs z) t ≡ b → wanted d z ≡ w → (k : ℕ) (seen : Bool) (r : Position) → ((j : ℕ) → r ≡ At j → ⊥) → position d t (z ∷ zs) k seen ≡ r → Missed d t (z ∷ zs) seen r
  missed_by true true p q k seen r nay e = absurd (nay k (sym (rw (p, q) at e)))
  missed_by true false p q k seen r nay e =
      let m = ih (k + 1) true r nay (rw (p, q) at e) in
      record {
        untaken = simp (p, q) (omega (arith, m.untaken));
        never = λ a. nope (cc (m.never a).0);
        once = λ a s. simp p (omega arith);
      }
  missed_by false w p q k seen r nay e =
      let m = ih (k + 1) seen r nay (rw p at e) in
      record {
        untaken = simp p (omega (arith, m.untaken));
        never = λ a. ((m.never a).0, simp p (omega (arith, (m.never a).1)));
        once = λ a s. simp p (omega (arith, m.once a s));
      }

pub missed : (d : Bool) (t : ℕ) (zs : List ℤ) (k : ℕ) (seen : Bool) (r : Position) → ((j : ℕ) → r ≡ At j → ⊥) → position d t zs k seen ≡ r → Missed d t zs seen r
missed d t [] k true r nay e = record { untaken = refl; never = λ a. nope (cc); once = λ a s. nope (cc) }
missed d t [] k false r nay e = record { untaken = refl; never = λ a. (refl, refl); once = λ a s. nope (cc) }
missed d t (z ∷ zs) k seen r nay e =
    missed_by d t z zs (λ k seen r nay e. missed d t zs k seen r nay e) (eqb (nat_abs z) t) (wanted d z) refl refl k seen r nay e

seen_not_at : (j : ℕ) → Seen ≡ At j → ⊥
seen_not_at j e = nope (cc)

absent_not_at : (j : ℕ) → Absent ≡ At j → ⊥
absent_not_at j e = nope (cc)

-- of t > 0: what a spend can take are the copies that are not spent, and what an unspend can take those that are
and_true : (b : Bool) → bit (b && true) ≡ bit b
and_true true = refl
and_true false = refl

and_false : (b : Bool) → bit (b && false) ≡ 0
and_false true = refl
and_false false = refl

zero_by : (t n : ℕ) → 0 < t → (a b : Bool) → eqb n t ≡ a → eqb n 0 ≡ b → bit (eqb n t && eqb n 0) ≡ 0
zero_by t n h true true p q = let f : ⊥ = omega (arith, eqb-true n t p, eqb-true n 0 q) in absurd f
zero_by t n h true false p q = simp (p, q)
zero_by t n h false b p q = simp p

spend1 : (t : ℕ) (z : ℤ) → 0 < t → neg1 t z + want1 true t z ≡ bit (eqb (nat_abs z) t)
spend1 t (pos n) h = omega (arith, and_true (eqb n t))
spend1 t (negsuc n) h = omega (arith, and_false (eqb (suc n) t))

unspend1 : (t : ℕ) (z : ℤ) → 0 < t → want1 false t z ≡ neg1 t z
unspend1 t (pos n) h = zero_by t n h (eqb n t) (eqb n 0) refl refl
unspend1 t (negsuc n) h = and_true (eqb (suc n) t)

pub spend_left : (t : ℕ) (zs : List ℤ) → 0 < t → negs t zs + wants true t zs ≡ copies t (map nat_abs zs)
spend_left t [] h = refl
spend_left t (z ∷ zs) h = omega (arith, spend1 t z h, spend_left t zs h)

pub unspend_left : (t : ℕ) (zs : List ℤ) → 0 < t → wants false t zs ≡ negs t zs
unspend_left t [] h = refl
unspend_left t (z ∷ zs) h = omega (arith, unspend1 t z h, unspend_left t zs h)

-- 14 at a spend: every copy is spent, and there is one
pub spend_14 : (t : ℕ) (zs : List ℤ) → 0 < t → position true t zs 0 false ≡ Seen → (negs t zs ≡ copies t (map nat_abs zs)) × (0 < copies t (map nat_abs zs))
spend_14 t zs h e =
    let m = missed true t zs 0 false Seen seen_not_at e in
    (omega (arith, spend_left t zs h, m.untaken), m.once refl refl)

-- 14 at an unspend: no copy is spent, and there is one
pub unspend_14 : (t : ℕ) (zs : List ℤ) → 0 < t → position false t zs 0 false ≡ Seen → (negs t zs ≡ 0) × (0 < copies t (map nat_abs zs))
unspend_14 t zs h e =
    let m = missed false t zs 0 false Seen seen_not_at e in
    (omega (arith, unspend_left t zs h, m.untaken), m.once refl refl)

-- 15: there is no copy
pub flip_15 : (d : Bool) (t : ℕ) (zs : List ℤ) → position d t zs 0 false ≡ Absent → copies t (map nat_abs zs) ≡ 0
flip_15 d t zs e = ((missed d t zs 0 false Absent absent_not_at e).never refl).1

-- a copy to take is found
found_by : (d : Bool) (t : ℕ) (zs : List ℤ) → 0 < wants d t zs → (r : Position) → position d t zs 0 false ≡ r → (j : ℕ) × (position d t zs 0 false ≡ At j)
found_by d t zs h (At j) e = (j, e)
found_by d t zs h Seen e = let f : ⊥ = omega (arith, (missed d t zs 0 false Seen seen_not_at e).untaken) in absurd f
found_by d t zs h Absent e = let f : ⊥ = omega (arith, (missed d t zs 0 false Absent absent_not_at e).untaken) in absurd f

pub found : (d : Bool) (t : ℕ) (zs : List ℤ) → 0 < wants d t zs → (j : ℕ) × (position d t zs 0 false ≡ At j)
found d t zs h = found_by d t zs h (position d t zs 0 false) refl

-- a spend of t > 0 is taken where fewer copies are spent than there are, and an unspend where one is spent
pub spend_taken : (t : ℕ) (zs : List ℤ) → 0 < t → negs t zs < copies t (map nat_abs zs) → (j : ℕ) × (position true t zs 0 false ≡ At j)
spend_taken t zs h l = found true t zs (omega (arith, spend_left t zs h))

pub unspend_taken : (t : ℕ) (zs : List ℤ) → 0 < t → 0 < negs t zs → (j : ℕ) × (position false t zs 0 false ≡ At j)
unspend_taken t zs h l = found false t zs (omega (arith, unspend_left t zs h))

-- target 0: the list stays
zero_neg : (z : ℤ) → nat_abs z ≡ 0 → neg_ℤ z ≡ z
zero_neg (pos zero) e = refl
zero_neg (pos (suc n)) e = let f : ⊥ = omega arith in absurd f
zero_neg (negsuc n) e = let f : ⊥ = omega arith in absurd f

pub flip_zero : (d : Bool) (n : ℕ) (xs : List ℤ) (j : ℕ) → n ≤ length xs → position d 0 (take n xs) 0 false ≡ At j → flipped_at (At j) xs ≡ xs
flip_zero d n xs j k e = ap (set xs j) (zero_neg (get_or xs j (pos 0)) (hit d 0 n xs j k e).size) ∙ set-get_or xs j (pos 0)
