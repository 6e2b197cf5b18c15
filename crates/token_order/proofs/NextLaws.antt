-- The search for the least id above the last one: each way out of a step, and that a step looks at one place more.
use mathlib.Core.Path.{◌≡◌, refl, sym, ◌∙◌, ap, subst}
use mathlib.Core.Bool.{Bool, true, false, cond, not, ◌&&◌}
use mathlib.Core.List.{List}
use Prim.Native.Nat.{ℕ, ◌+◌, ◌≤◌, ◌<◌}
use native.Mathlib.Omega.{arith}
use lib.Dec.{ltb, leb}
use borrow.Author.Tests.{ltb-true, ltb-false, le-leb, lt-leb, leb-true, leb-false}
use Rattle.balance_tokens.specs.Tokens.{id_at}
use Rattle.records.proofs.KeyLaws.{clash}
use Rattle.index_types.specs.declared.Order.{Order}
use Rattle.index_types.specs.declared.Order.TheVariants.{Less, Equal, Greater}
use Rattle.address_order.specs.Order.{reversed, of_ids}
use Rattle.address_order.proofs.Comparisons.{greater≢equal}
use Rattle.address_order.proofs.TokenOrder.{ids_total}
use Rattle.token_order.specs.Internal.{is_less, is_above, better_place, Next}

pub less_is : (o : Order) → is_less o ≡ true → o ≡ Less
less_is Less e = refl
less_is Equal e = absurd (clash e refl)
less_is Greater e = absurd (clash e refl)

-- ---- the ways out of a step

module _ (ids : List ℕ) (count : ℕ) (started : Bool) (last best i : ℕ) (u : Bool) (e : u ≡ is_less (of_ids (id_at ids last) (id_at ids i))) where
  pub barred : started && not u ≡ true → best ≡ better_place ids count started last best i
  unfolding better_place
  barred h = sym (rw (sym e, h))

  pub first_found : started && not u ≡ false → count ≤ best → i ≡ better_place ids count started last best i
  unfolding better_place
  first_found h k = sym (rw (sym e, h, le-leb count best k))

  pub lower_found : started && not u ≡ false → best < count → is_less (of_ids (id_at ids i) (id_at ids best)) ≡ true → i ≡ better_place ids count started last best i
  unfolding better_place
  lower_found h k l = sym (rw (sym e, h, lt-leb count best k, l))

  pub not_lower : started && not u ≡ false → best < count → is_less (of_ids (id_at ids i) (id_at ids best)) ≡ false → best ≡ better_place ids count started last best i
  unfolding better_place
  not_lower h k l = sym (rw (sym e, h, lt-leb count best k, l))

-- ---- one place more

module _ (ids : List ℕ) (count : ℕ) (started : Bool) (last best i : ℕ) (h : i < count) (N : Next ids count started last i best) where
  abbrev id : ℕ → List ℕ
  id j = id_at ids j

  abbrev Least : ℕ → ℕ → Type 0
  Least r j = is_above started (id last) (id j) ≡ true → (r < count) × (of_ids (id r) (id j) ≡ Greater → ⊥)

  -- a place below i + 1 is below i, or it is i
  up_to : (r : ℕ) → ((j : ℕ) → j < i → Least r j) → Least r i → (j : ℕ) → j < i + 1 → Least r j
  up_to r f g j k = by_test (ltb j i) refl
    where
      by_test : (b : Bool) → ltb j i ≡ b → Least r j
      by_test true e = f j (ltb-true j i e)
      by_test false e = let q : i ≡ j = omega (arith, ltb-false j i e) in subst (Least r) q g

  -- where i is below the best place, it is below all that the best place is below
  lower : is_less (of_ids (id i) (id best)) ≡ true → (j : ℕ) → (of_ids (id best) (id j) ≡ Greater → ⊥) → of_ids (id i) (id j) ≡ Greater → ⊥
  lower l j n g =
      let p : of_ids (id j) (id i) ≡ Less = ids_total.reverses (id i) (id j) ∙ ap reversed g in
      let q : of_ids (id j) (id best) ≡ Less = ids_total.follows (id j) (id i) (id best) p (less_is (of_ids (id i) (id best)) l) in
      n (ids_total.reverses (id j) (id best) ∙ ap reversed q)

  no_higher : is_less (of_ids (id i) (id best)) ≡ false → of_ids (id best) (id i) ≡ Greater → ⊥
  no_higher l g =
      let q : of_ids (id i) (id best) ≡ Less = ids_total.reverses (id best) (id i) ∙ ap reversed g in
      clash (ap is_less q) l

  pub next_turn : Next ids count started last (i + 1) (better_place ids count started last best i)
  unfolding better_place
  next_turn = by_bar (started && not (is_less (of_ids (id last) (id i)))) refl
    where
      by_lower : (b : Bool) → is_less (of_ids (id i) (id best)) ≡ b → best < count → is_above started (id last) (id i) ≡ true → Next ids count started last (i + 1) (cond b i best)
      by_lower true l k a = record {
        within = omega arith;
        above = λ m. a;
        least = up_to i (λ j m b. (h, lower l j (N.least j m b).1)) (λ b. (h, λ g. greater≢equal (sym g ∙ ids_total.equal_of (id i) (id i) refl)));
      }
      by_lower false l k a = record { within = N.within; above = N.above; least = up_to best N.least (λ b. (k, no_higher l)) }

      by_none : (b : Bool) → leb count best ≡ b → is_above started (id last) (id i) ≡ true
          → Next ids count started last (i + 1) (cond b i (cond (is_less (of_ids (id i) (id best))) i best))
      by_none true k a = record {
        within = omega arith;
        above = λ m. a;
        least = up_to i (λ j m b. absurd (let q = (N.least j m b).0 in omega (arith, q, leb-true count best k))) (λ b. (h, λ g. greater≢equal (sym g ∙ ids_total.equal_of (id i) (id i) refl)));
      }
      by_none false k a = by_lower (is_less (of_ids (id i) (id best))) refl (leb-false count best k) a

      by_bar : (b : Bool) → started && not (is_less (of_ids (id last) (id i))) ≡ b
          → Next ids count started last (i + 1) (cond b best (cond (leb count best) i (cond (is_less (of_ids (id i) (id best))) i best)))
      by_bar true e = record { within = N.within; above = N.above; least = up_to best N.least (λ b. absurd (clash b (ap not e))) }
      by_bar false e = by_none (leb count best) refl (ap not e)

pub next_none : (ids : List ℕ) (count : ℕ) (started : Bool) (last : ℕ) → Next ids count started last 0 count
next_none ids count started last = record { within = omega arith; above = λ m. absurd (omega arith); least = λ j m b. absurd (omega arith) }
