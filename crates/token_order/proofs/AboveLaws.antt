-- The tokens above an id: the least of them comes first, and then those above it.
use mathlib.Core.Path.{◌≡◌, refl, sym, ◌∙◌, ap, subst}
use mathlib.Core.Bool.{Bool, true, false, cond, not}
use mathlib.Core.Logic.{◌⊎◌, ⊎_elim}
use mathlib.Core.List.Memᴰ
use mathlib.Core.List.{[], ◌∷◌, Memᴰ}
use Rattle.ledger.specs.Ledger.{TokenId, Tokens}
use Rattle.records.proofs.KeyLaws.{clash}
use Rattle.index_types.specs.declared.Order.{Order}
use Rattle.index_types.specs.declared.Order.TheVariants.{Less, Equal, Greater}
use Rattle.address_order.specs.Order.{of_ids, ascending}
use Rattle.address_order.proofs.TokenOrder.{Token, Apart, ids_total, ascending_in, in_ascending, ascending_rises, rising_same}
use Rattle.token_order.specs.Internal.{is_less, is_above}
use Rattle.token_order.proofs.NextLaws.{less_is}

abbrev In : Token → Tokens → Type 0
In x ts = Memᴰ x ts

-- those of the tokens whose id is above
pub above : Bool → TokenId → Tokens → Tokens
above s k [] = []
above s k (x ∷ ts) = cond (is_above s k x.0) (x ∷ above s k ts) (above s k ts)

module _ (s : Bool) (k : TokenId) where
  pub in_above : (ts : Tokens) (z : Token) → In z (above s k ts) → In z ts × (is_above s k z.0 ≡ true)
  unfolding above
  in_above [] z h = absurd (Memᴰ.not-nil h)
  in_above (x ∷ ts) z h = by_test (λ u. let r = in_above ts z u in (Memᴰ.tail r.0, r.1)) (is_above s k x.0) refl h
    where
      by_test : (In z (above s k ts) → In z (x ∷ ts) × (is_above s k z.0 ≡ true)) → (b : Bool) → is_above s k x.0 ≡ b
          → In z (cond b (x ∷ above s k ts) (above s k ts)) → In z (x ∷ ts) × (is_above s k z.0 ≡ true)
      by_test rest true e h = ⊎_elim (λ q. (Memᴰ.head q, ap (λ (w : Token). is_above s k w.0) q ∙ e)) rest (Memᴰ.cases_cons h)
      by_test rest false e h = rest h

  pub above_in : (ts : Tokens) (z : Token) → In z ts → is_above s k z.0 ≡ true → In z (above s k ts)
  unfolding above
  above_in [] z h a = absurd (Memᴰ.not-nil h)
  above_in (x ∷ ts) z h a = by_test (λ u. above_in ts z u a) (is_above s k x.0) refl (Memᴰ.cases_cons h)
    where
      by_test : (In z ts → In z (above s k ts)) → (b : Bool) → is_above s k x.0 ≡ b → (z ≡ x) ⊎ In z ts → In z (cond b (x ∷ above s k ts) (above s k ts))
      by_test rest true e h = ⊎_elim Memᴰ.head (λ u. Memᴰ.tail (rest u)) h
      by_test rest false e h = ⊎_elim (λ q. absurd (clash (ap (λ (w : Token). is_above s k w.0) (sym q) ∙ a) e)) rest h

  pub above_apart : (ts : Tokens) → Apart ts → Apart (above s k ts)
  unfolding above
  above_apart [] A = tt
  above_apart (x ∷ ts) A = by_test (above_apart ts A.1) (is_above s k x.0)
    where
      by_test : Apart (above s k ts) → (b : Bool) → Apart (cond b (x ∷ above s k ts) (above s k ts))
      by_test rest true = ((λ y h. A.0 y (in_above ts y h).0), rest)
      by_test rest false = rest

  -- none is above
  pub above_none : (ts : Tokens) → ((z : Token) → In z ts → is_above s k z.0 ≡ true → ⊥) → above s k ts ≡ []
  unfolding above
  above_none [] n = refl
  above_none (x ∷ ts) n = by_test (above_none ts (λ z h. n z (Memᴰ.tail h))) (is_above s k x.0) refl
    where
      by_test : above s k ts ≡ [] → (b : Bool) → is_above s k x.0 ≡ b → cond b (x ∷ above s k ts) (above s k ts) ≡ []
      by_test rest true e = absurd (n x (Memᴰ.head refl) e)
      by_test rest false e = rest

-- at the start all are above
pub above_all : (k : TokenId) (ts : Tokens) → above false k ts ≡ ts
unfolding above
above_all k [] = refl
above_all k (x ∷ ts) = ap (λ u. x ∷ u) (above_all k ts)

-- two tokens of one balance with the same id are the same
pub one_each : (ts : Tokens) → Apart ts → (x y : Token) → In x ts → In y ts → x.0 ≡ y.0 → x ≡ y
one_each [] A x y h g e = absurd (Memᴰ.not-nil h)
one_each (t ∷ ts) A x y h g e =
    ⊎_elim
    (λ p. ⊎_elim (λ q. p ∙ sym q) (λ v. absurd (A.0 y v (ap (λ (w : Token). w.0) (sym p) ∙ e))) (Memᴰ.cases_cons g))
    (λ u. ⊎_elim (λ q. absurd (A.0 x u (ap (λ (w : Token). w.0) (sym q) ∙ sym e))) (λ v. one_each ts A.1 x y u v e) (Memᴰ.cases_cons g))
    (Memᴰ.cases_cons h)

-- the least of those above comes first, then those above it
module _ (s : Bool) (k : TokenId) (ts : Tokens) (A : Apart ts) (m : Token) (h : Memᴰ m ts) (a : is_above s k m.0 ≡ true)
    (l : (z : Token) → Memᴰ z ts → is_above s k z.0 ≡ true → of_ids m.0 z.0 ≡ Greater → ⊥) where
  after : (z : Token) → is_above true m.0 z.0 ≡ true → of_ids m.0 z.0 ≡ Less
  after z e = less_is (of_ids m.0 z.0) (by_test (is_less (of_ids m.0 z.0)) e)
    where
      by_test : (b : Bool) → not (not b) ≡ true → b ≡ true
      by_test true e = refl
      by_test false e = e

  still : (b : Bool) (z : Token) → is_above b k m.0 ≡ true → of_ids m.0 z.0 ≡ Less → is_above b k z.0 ≡ true
  still false z a p = refl
  still true z a p = ap (λ o. not (not (is_less o))) (ids_total.follows k m.0 z.0 (less_is (of_ids k m.0) (by_test (is_less (of_ids k m.0)) a)) p)
    where
      by_test : (b : Bool) → not (not b) ≡ true → b ≡ true
      by_test true e = refl
      by_test false e = e

  onward : (z : Token) → In z (ascending (above s k ts)) → In z (m ∷ ascending (above true m.0 ts))
  onward z u = let r = in_above s k ts z (ascending_in (above s k ts) z u) in by_order (of_ids m.0 z.0) refl r
    where
      by_order : (o : Order) → of_ids m.0 z.0 ≡ o → In z ts × (is_above s k z.0 ≡ true) → In z (m ∷ ascending (above true m.0 ts))
      by_order Less e r = Memᴰ.tail (in_ascending (above true m.0 ts) z (above_in true m.0 ts z r.0 (ap (λ o. not (not (is_less o))) e)))
      by_order Equal e r = Memᴰ.head (one_each ts A z m r.0 h (sym (ids_total.same_of m.0 z.0 e)))
      by_order Greater e r = absurd (l z r.0 r.1 e)

  back_from : (z : Token) → In z (m ∷ ascending (above true m.0 ts)) → In z (ascending (above s k ts))
  back_from z u =
      in_ascending (above s k ts) z
      (⊎_elim
      (λ q. above_in s k ts z (subst (λ (w : Token). In w ts) (sym q) h) (ap (λ (w : Token). is_above s k w.0) q ∙ a))
      (λ v. let r = in_above true m.0 ts z (ascending_in (above true m.0 ts) z v) in above_in s k ts z r.0 (still s z a (after z r.1)))
      (Memᴰ.cases_cons u))

  pub least_first : ascending (above s k ts) ≡ m ∷ ascending (above true m.0 ts)
  least_first =
      rising_same (ascending (above s k ts)) (m ∷ ascending (above true m.0 ts)) (ascending_rises (above s k ts) (above_apart s k ts A))
      ((λ y u. after y (in_above true m.0 ts y (ascending_in (above true m.0 ts) y u)).1), ascending_rises (above true m.0 ts) (above_apart true m.0 ts A))
      (λ z. (onward z, back_from z))
