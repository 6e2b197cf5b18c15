-- Numbers, lists and pairs are totally ordered.
use mathlib.Core.Path.{◌≡◌, refl, sym, ◌∙◌, ap}
use mathlib.Core.Bool.{Bool, true, false}
use mathlib.Core.List.{List, [], ◌∷◌}
use Prim.Native.Nat.{ℕ}
use native.Mathlib.Omega.{arith}
use lib.Dec.{ltb}
use lib.IntN.{ℤ, pos, negsuc}
use lib.Signed.{lt_z}
use borrow.Author.Tests.{ltb-true, ltb-false, lt-ltb, le-ltb}
use Rattle.index_types.specs.declared.Order.{Order}
use Rattle.index_types.specs.declared.Order.TheVariants.{Less, Equal, Greater}
use Rattle.address_order.specs.Order.{or_else, reversed, by_tests, of_numbers, of_signed, of_lists, Total}

abbrev pub Plain : {A : Type 0} → (A → A → Order) → Type 0
Plain f = Total f (λ x y. x ≡ y)

pub less≢equal : Less ≡ Equal → ⊥
less≢equal e = let z : ◌≡◌ {A = ℕ} 0 1 = cc in omega arith

pub less≢greater : Less ≡ Greater → ⊥
less≢greater e = let z : ◌≡◌ {A = ℕ} 0 1 = cc in omega arith

pub greater≢equal : Greater ≡ Equal → ⊥
greater≢equal e = let z : ◌≡◌ {A = ℕ} 0 1 = cc in omega arith

-- a comparison by a test of "below" that is irreflexive, transitive and complete
module _ {A : Type 0} (below : A → A → Bool) (irr : (x : A) → below x x ≡ false) (trans : (x y z : A) → below x y ≡ true → below y z ≡ true → below x z ≡ true)
    (asym : (x y : A) → below x y ≡ true → below y x ≡ false) (eq : (x y : A) → below x y ≡ false → below y x ≡ false → x ≡ y) where
  abbrev f : A → A → Order
  f x y = by_tests (below x y) (below y x)

  self : (x : A) → f x x ≡ Equal
  self x = rw (irr x)

  by_equal : (x y : A) (u v : Bool) → below x y ≡ u → below y x ≡ v → by_tests u v ≡ Equal → x ≡ y
  by_equal x y true v p q e = absurd (less≢equal e)
  by_equal x y false true p q e = absurd (greater≢equal e)
  by_equal x y false false p q e = eq x y p q

  by_turn : (x y : A) (u v : Bool) → below x y ≡ u → below y x ≡ v → by_tests v u ≡ reversed (by_tests u v)
  by_turn x y true true p q = let z : true ≡ false = sym q ∙ asym x y p in let w : ◌≡◌ {A = ℕ} 0 1 = cc in absurd (omega arith)
  by_turn x y true false p q = refl
  by_turn x y false true p q = refl
  by_turn x y false false p q = refl

  is_below : (x y : A) (u v : Bool) → below x y ≡ u → below y x ≡ v → by_tests u v ≡ Less → u ≡ true
  is_below x y true v p q e = refl
  is_below x y false true p q e = absurd (less≢greater (sym e))
  is_below x y false false p q e = absurd (less≢equal (sym e))

  pub by_below : Plain f
  by_below = record {
    equal_of = λ x y e. ap (f x) (sym e) ∙ self x;
    same_of = λ x y e. by_equal x y (below x y) (below y x) refl refl e;
    reverses = λ x y. by_turn x y (below x y) (below y x) refl refl;
    follows = λ x y z p q.
        let a = is_below x y (below x y) (below y x) refl refl p in
        let b = is_below y z (below y z) (below z y) refl refl q in
        ap (λ u. by_tests u (below z x)) (trans x y z a b);
  }

pub numbers_total : Plain of_numbers
unfolding of_numbers
numbers_total = by_below ltb (λ x. le-ltb x x (omega arith)) (λ x y z p q. lt-ltb x z (omega (arith, ltb-true x y p, ltb-true y z q))) (λ x y p. le-ltb y x (omega (arith, ltb-true x y p)))
    (λ x y p q. omega (arith, ltb-false x y p, ltb-false y x q))

-- ---- lists
module _ {A : Type 0} (f : A → A → Order) (T : Plain f) where
  lists_self : (xs : List A) → of_lists f xs xs ≡ Equal
  unfolding of_lists
  lists_self [] = refl
  lists_self (x ∷ xs) = ap (λ o. or_else o (of_lists f xs xs)) (T.equal_of x x refl) ∙ lists_self xs

  both_equal : (o p : Order) → or_else o p ≡ Equal → (o ≡ Equal) × (p ≡ Equal)
  both_equal Less p e = absurd (less≢equal e)
  both_equal Equal p e = (refl, e)
  both_equal Greater p e = absurd (greater≢equal e)

  lists_same : (xs ys : List A) → of_lists f xs ys ≡ Equal → xs ≡ ys
  unfolding of_lists
  lists_same [] [] e = refl
  lists_same [] (y ∷ ys) e = absurd (less≢equal e)
  lists_same (x ∷ xs) [] e = absurd (greater≢equal e)
  lists_same (x ∷ xs) (y ∷ ys) e = let b = both_equal (f x y) (of_lists f xs ys) e in λ i. T.same_of x y b.0 i ∷ lists_same xs ys b.1 i

  turn_else : (o p : Order) → or_else (reversed o) (reversed p) ≡ reversed (or_else o p)
  turn_else Less p = refl
  turn_else Equal p = refl
  turn_else Greater p = refl

  lists_turn : (xs ys : List A) → of_lists f ys xs ≡ reversed (of_lists f xs ys)
  unfolding of_lists
  lists_turn [] [] = refl
  lists_turn [] (y ∷ ys) = refl
  lists_turn (x ∷ xs) [] = refl
  lists_turn (x ∷ xs) (y ∷ ys) = (λ i. or_else (T.reverses x y i) (lists_turn xs ys i)) ∙ turn_else (f x y) (of_lists f xs ys)

  -- the first two decide
  cases : (x y z : A) (p q r : Order) (o w : Order) → f x y ≡ o → f y z ≡ w → or_else o p ≡ Less → or_else w q ≡ Less → (p ≡ Less → q ≡ Less → r ≡ Less) → or_else (f x z) r ≡ Less
  cases x y z p q r Less Less a b u v g = ap (λ o. or_else o r) (T.follows x y z a b)
  cases x y z p q r Less Equal a b u v g = ap (λ o. or_else o r) (ap (f x) (sym (T.same_of y z b)) ∙ a)
  cases x y z p q r Less Greater a b u v g = absurd (less≢greater (sym v))
  cases x y z p q r Equal Less a b u v g = ap (λ o. or_else o r) (ap (λ t. f t z) (T.same_of x y a) ∙ b)
  cases x y z p q r Equal Equal a b u v g = ap (λ o. or_else o r) (ap (λ t. f t z) (T.same_of x y a) ∙ b) ∙ g u v
  cases x y z p q r Equal Greater a b u v g = absurd (less≢greater (sym v))
  cases x y z p q r Greater w a b u v g = absurd (less≢greater (sym u))

  lists_follow : (xs ys zs : List A) → of_lists f xs ys ≡ Less → of_lists f ys zs ≡ Less → of_lists f xs zs ≡ Less
  unfolding of_lists
  lists_follow xs [] [] p q = absurd (less≢equal (sym q))
  lists_follow [] [] (z ∷ zs) p q = refl
  lists_follow (x ∷ xs) [] (z ∷ zs) p q = absurd (less≢greater (sym p))
  lists_follow xs (y ∷ ys) [] p q = absurd (less≢greater (sym q))
  lists_follow [] (y ∷ ys) (z ∷ zs) p q = refl
  lists_follow (x ∷ xs) (y ∷ ys) (z ∷ zs) p q =
      cases x y z (of_lists f xs ys) (of_lists f ys zs) (of_lists f xs zs) (f x y) (f y z) refl refl p q (λ u v. lists_follow xs ys zs u v)

  pub lists_total : Plain (of_lists f)
  lists_total = record { equal_of = λ x y e. ap (of_lists f x) (sym e) ∙ lists_self x; same_of = lists_same; reverses = lists_turn; follows = lists_follow }

-- ---- signed numbers
below_irr : (x : ℤ) → lt_z x x ≡ false
below_irr (pos a) = le-ltb a a (omega arith)
below_irr (negsuc a) = le-ltb a a (omega arith)

below_trans : (x y z : ℤ) → lt_z x y ≡ true → lt_z y z ≡ true → lt_z x z ≡ true
below_trans (pos a) (pos b) (pos c) p q = lt-ltb a c (omega (arith, ltb-true a b p, ltb-true b c q))
below_trans (pos a) (pos b) (negsuc c) p q = absurd (let z : ◌≡◌ {A = ℕ} 0 1 = cc in omega arith)
below_trans (pos a) (negsuc b) z p q = absurd (let z : ◌≡◌ {A = ℕ} 0 1 = cc in omega arith)
below_trans (negsuc a) y (pos c) p q = refl
below_trans (negsuc a) (pos b) (negsuc c) p q = absurd (let z : ◌≡◌ {A = ℕ} 0 1 = cc in omega arith)
below_trans (negsuc a) (negsuc b) (negsuc c) p q = lt-ltb c a (omega (arith, ltb-true b a p, ltb-true c b q))

below_asym : (x y : ℤ) → lt_z x y ≡ true → lt_z y x ≡ false
below_asym (pos a) (pos b) p = le-ltb b a (omega (arith, ltb-true a b p))
below_asym (pos a) (negsuc b) p = absurd (let z : ◌≡◌ {A = ℕ} 0 1 = cc in omega arith)
below_asym (negsuc a) (pos b) p = refl
below_asym (negsuc a) (negsuc b) p = le-ltb a b (omega (arith, ltb-true b a p))

below_eq : (x y : ℤ) → lt_z x y ≡ false → lt_z y x ≡ false → x ≡ y
below_eq (pos a) (pos b) p q = let z : a ≡ b = omega (arith, ltb-false a b p, ltb-false b a q) in ap pos z
below_eq (pos a) (negsuc b) p q = absurd (let z : ◌≡◌ {A = ℕ} 0 1 = cc in omega arith)
below_eq (negsuc a) (pos b) p q = absurd (let z : ◌≡◌ {A = ℕ} 0 1 = cc in omega arith)
below_eq (negsuc a) (negsuc b) p q = let z : a ≡ b = omega (arith, ltb-false b a p, ltb-false a b q) in ap negsuc z

pub signed_total : Plain of_signed
unfolding of_signed
signed_total = by_below lt_z below_irr below_trans below_asym below_eq

-- ---- one comparison, then another
module _ {A B : Type 0} (f : A → A → Order) (g : B → B → Order) (T : Plain f) (S : Plain g) where
  abbrev pub by_both : (A × B) → (A × B) → Order
  by_both a b = or_else (f a.0 b.0) (g a.1 b.1)

  pub both_total : Plain by_both
  both_total = record {
    equal_of = λ x y e. ap (by_both x) (sym e) ∙ (λ i. or_else (T.equal_of x.0 x.0 refl i) (S.equal_of x.1 x.1 refl i));
    same_of = λ x y e. let b = both_equal f T (f x.0 y.0) (g x.1 y.1) e in λ i. (T.same_of x.0 y.0 b.0 i, S.same_of x.1 y.1 b.1 i);
    reverses = λ x y. (λ i. or_else (T.reverses x.0 y.0 i) (S.reverses x.1 y.1 i)) ∙ turn_else f T (f x.0 y.0) (g x.1 y.1);
    follows = λ x y z p q. cases f T x.0 y.0 z.0 (g x.1 y.1) (g y.1 z.1) (g x.1 z.1) (f x.0 y.0) (f y.0 z.0) refl refl p q (λ u v. S.follows x.1 y.1 z.1 u v);
  }
