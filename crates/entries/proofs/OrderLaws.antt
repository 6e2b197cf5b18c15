-- Laws of numbers in order: none before a place is larger, and what a search by halves may leave out.
use mathlib.Core.Path.{◌≡◌, refl, sym, ap, ◌∙◌, subst}
use mathlib.Core.Bool.{Bool, true, false, ◌&&◌, cond}
use mathlib.Core.List.{List, [], ◌∷◌, map}
use Prim.Native.Nat.{ℕ, zero, suc, ◌+◌, ◌-◌, ◌<◌, ◌≤◌}
use native.Mathlib.Omega.{arith}
use native.Mathlib.Numerals.{add-one}
use borrow.Author.Tests.{ne_eqb, leb-true}
use lib.IntN.{ℤ, pos, nat_abs}
use lib.ListN.{length, take, get_or}
use lib.Seq.{slice, slice_empty, length-take-le, get_or-take}
use lib.Dec.{leb, ltb}
use Rattle.entries.specs.Order.{ordered, order_ok, Below, From}
use Rattle.entries.specs.Flip.{position}
use Rattle.entries.specs.declared.Position.TheVariants.{Seen, Absent}
use Rattle.entries.proofs.TurnLaws.{position_step}

both : (a b c : Bool) → a && (b && c) ≡ true → (a ≡ true) × (c ≡ true)
both true true true e = (refl, refl)
both true true false e = let x : ◌≡◌ {A = ℕ} 0 1 = cc in absurd (omega arith)
both true false c e = let x : ◌≡◌ {A = ℕ} 0 1 = cc in absurd (omega arith)
both false b c e = let x : ◌≡◌ {A = ℕ} 0 1 = cc in absurd (omega arith)

parts : (z : ℤ) (zs : List ℤ) (lo : ℕ) → ordered lo (map nat_abs (z ∷ zs)) ≡ true → (lo ≤ nat_abs z) × (ordered (nat_abs z) (map nat_abs zs) ≡ true)
parts z zs lo e =
    let b = both (leb lo (nat_abs z)) (ltb (nat_abs z) 9223372036854775808) (ordered (nat_abs z) (map nat_abs zs)) e in
    (leb-true lo (nat_abs z) b.0, b.1)

at_least : (zs : List ℤ) (lo k : ℕ) → ordered lo (map nat_abs zs) ≡ true → k < length zs → lo ≤ nat_abs (get_or zs k (pos 0))
at_least [] lo k e h = absurd (omega arith)
at_least (z ∷ zs) lo zero e h = (parts z zs lo e).0
at_least (z ∷ zs) lo (suc k) e h =
    let b = parts z zs lo e in
    let a = at_least zs (nat_abs z) k b.1 (omega arith) in
    omega (arith, b.0)

rising : (zs : List ℤ) (lo j k : ℕ) → ordered lo (map nat_abs zs) ≡ true → j ≤ k → k < length zs → nat_abs (get_or zs j (pos 0)) ≤ nat_abs (get_or zs k (pos 0))
rising [] lo j k e h l = absurd (omega arith)
rising (z ∷ zs) lo zero zero e h l = omega arith
rising (z ∷ zs) lo zero (suc k) e h l = at_least zs (nat_abs z) k (parts z zs lo e).1 (omega arith)
rising (z ∷ zs) lo (suc j) zero e h l = absurd (omega arith)
rising (z ∷ zs) lo (suc j) (suc k) e h l = rising zs (nat_abs z) j k (parts z zs lo e).1 (omega arith) (omega arith)

module _ (xs : List ℤ) (n : ℕ) (h : n ≤ length xs) (e : order_ok (take n xs) ≡ true) where
  -- absolute values never fall
  pub never_fall : (j k : ℕ) → j ≤ k → k < n → nat_abs (get_or xs j (pos 0)) ≤ nat_abs (get_or xs k (pos 0))
  never_fall j k p q =
      rw (get_or-take n xs j (pos 0) (omega arith), get_or-take n xs k (pos 0) q) at (rising (take n xs) 0 j k e p (omega (arith, length-take-le n xs h)))

  -- an entry below the target, and one that is not
  pub below_more : (t m : ℕ) → m < n → nat_abs (get_or xs m (pos 0)) < t → Below t (m + 1) xs
  below_more t m q p j l = let a = never_fall j m (omega arith) q in omega arith

  pub from_more : (t m : ℕ) → m < n → t ≤ nat_abs (get_or xs m (pos 0)) → From t m n xs
  from_more t m q p j l k = let a = never_fall m j l k in omega arith

-- entries below the target are passed
pub skip : (d : Bool) (t : ℕ) (xs : List ℤ) (n r : ℕ) → n ≤ length xs → r ≤ n → Below t r xs
    → position d t (slice 0 n xs) 0 false ≡ position d t (slice r n xs) r false
skip d t xs n zero h l b = refl
skip d t xs n (suc r) h l b =
    skip d t xs n r h (omega arith) (λ j k. b j (omega arith))
    ∙ position_step xs n r (omega arith) h d t false (nat_abs (get_or xs r (pos 0))) refl
    ∙ rw (ne_eqb (nat_abs (get_or xs r (pos 0))) t (let a = b r (omega arith) in omega arith), add-one r) refl

-- entries above the target are none of it
pub none_left : (d : Bool) (t : ℕ) (seen : Bool) (xs : List ℤ) (n : ℕ) → n ≤ length xs → (k i : ℕ) → i + k ≡ n → From (suc t) i n xs
    → position d t (slice i n xs) i seen ≡ cond seen Seen Absent
none_left d t seen xs n h zero i e f = let p : i ≡ n = omega arith in rw (p, slice_empty n xs) refl
none_left d t seen xs n h (suc k) i e f =
    position_step xs n i (omega arith) h d t seen (nat_abs (get_or xs i (pos 0))) refl
    ∙ rw (ne_eqb (nat_abs (get_or xs i (pos 0))) t (let a = f i (omega arith) (omega arith) in omega arith)) (none_left d t seen xs n h k (i + 1) (omega arith) (λ j l m. f j (omega arith) m))
