-- The places that the search picks, one after the other, give the tokens by ascending id.
use mathlib.Core.Path.{◌≡◌, refl, sym, ◌∙◌, ap, subst}
use mathlib.Core.Bool.{Bool, true, false}
use mathlib.Core.Logic.{⊎_elim}
use mathlib.Core.List.Memᴰ
use mathlib.Core.List.{List, [], ◌∷◌, Memᴰ}
use Prim.Native.Nat.{ℕ, zero, suc, ◌+◌, ◌≤◌, ◌<◌}
use native.Mathlib.Omega.{arith}
use lib.Dec.{eqb}
use lib.IntN.{ℤ, pos}
use lib.ListN.{length, get_or}
use borrow.Author.Tests.{eqb-true, eqb-false}
use Rattle.ledger.specs.Ledger.{Tokens}
use Rattle.records.specs.Records.{keys}
use Rattle.records.specs.Find.{distinct}
use Rattle.records.proofs.KeyLaws.{of_distinct}
use Rattle.records.proofs.TurnLaws.{length_keys}
use Rattle.records.proofs.RecordLaws.{key_at}
use Rattle.balance_tokens.specs.Tokens.{id_at}
use Rattle.balance_laws.specs.Calls.{tokens_from}
use Rattle.address_order.specs.Order.{or_else, of_ids, of_tokens, of_lists, ascending}
use Rattle.address_order.proofs.TokenOrder.{Token, Apart}
use Rattle.index_types.specs.declared.Order.{Order}
use Rattle.index_types.specs.declared.Order.TheVariants.{Less, Equal, Greater}
use Rattle.token_order.specs.Internal.{is_above, Next}
use Rattle.token_order.proofs.AboveLaws.{above, above_none, above_all, least_first}

module _ (ids : List ℕ) (amounts : List ℤ) where
  abbrev pub token_at : ℕ → Token
  token_at j = (id_at ids j, get_or amounts j (pos 0))

  record Placed (z : Token) (i n : ℕ) : Type 0 where
    place : ℕ
    from : i ≤ place
    to : place < i + n
    is : z ≡ token_at place

  in_place : (i n : ℕ) (z : Token) → Memᴰ z (tokens_from ids amounts i n) → Placed z i n
  in_place i zero z h = absurd (Memᴰ.not-nil h)
  in_place i (suc n) z h =
      ⊎_elim
      (λ q. record { place = i; from = omega arith; to = omega arith; is = q })
      (λ u. let p = in_place (suc i) n z u in record { place = p.place; from = omega (arith, p.from); to = omega (arith, p.to); is = p.is })
      (Memᴰ.cases_cons h)

  place_in : (i n j : ℕ) → i ≤ j → j < i + n → Memᴰ (token_at j) (tokens_from ids amounts i n)
  place_in i zero j h k = absurd (omega arith)
  place_in i (suc n) j h k = by_place (λ l. place_in (suc i) n j l (omega arith)) (eqb j i) refl
    where
      by_place : (suc i ≤ j → Memᴰ (token_at j) (tokens_from ids amounts (suc i) n)) → (b : Bool) → eqb j i ≡ b → Memᴰ (token_at j) (tokens_from ids amounts i (suc n))
      by_place rest true e = Memᴰ.head (ap token_at (eqb-true j i e))
      by_place rest false e = Memᴰ.tail (rest (let q = eqb-false j i e in omega arith))

  tokens_apart_from : (i n : ℕ) → ((a b : ℕ) → i ≤ a → a < b → b < i + n → id_at ids a ≡ id_at ids b → ⊥) → Apart (tokens_from ids amounts i n)
  tokens_apart_from i zero d = tt
  tokens_apart_from i (suc n) d =
      ((λ y h e. let p = in_place (suc i) n y h in d i p.place (omega arith) (omega (arith, p.from)) (omega (arith, p.to)) (e ∙ ap (λ (w : Token). w.0) p.is)), tokens_apart_from (suc i) n (λ a b u v w. d a b (omega arith) v (omega arith)))

  pub tokens_apart : (n : ℕ) → distinct (keys 32 n ids) ≡ true → Apart (tokens_from ids amounts 0 n)
  tokens_apart n t =
      let d = of_distinct (keys 32 n ids) t in
      tokens_apart_from 0 n (λ a b u v w e. d a b v (rw (length_keys 32 n ids) (omega arith)) (key_at 32 n a ids (omega arith) (omega arith) ∙ e ∙ sym (key_at 32 n b ids (omega arith) (omega arith))))

  -- what is left of the tokens by ascending id
  abbrev pub left_above : ℕ → Bool → ℕ → Tokens
  left_above n s last = ascending (above s (id_at ids last) (tokens_from ids amounts 0 n))

  pub left_all : (n last : ℕ) → left_above n false last ≡ ascending (tokens_from ids amounts 0 n)
  left_all n last = ap ascending (above_all (id_at ids last) (tokens_from ids amounts 0 n))

  module _ (n : ℕ) (s : Bool) (last r : ℕ) (N : Next ids n s last n r) where
    pub picked : distinct (keys 32 n ids) ≡ true → r < n → left_above n s last ≡ token_at r ∷ left_above n true r
    picked t h =
        least_first s (id_at ids last) (tokens_from ids amounts 0 n) (tokens_apart n t) (token_at r) (place_in 0 n r (omega arith) (omega arith)) (N.above h)
        (λ z u a g. let p = in_place 0 n z u in
        (N.least p.place (let t = p.to in omega arith) (subst (λ (w : Token). is_above s (id_at ids last) w.0 ≡ true) p.is a)).1
        (subst (λ (w : Token). of_ids (id_at ids r) w.0 ≡ Greater) p.is g))

    pub none_picked : n ≤ r → left_above n s last ≡ []
    unfolding ascending
    none_picked h =
        ap ascending (above_none s (id_at ids last) (tokens_from ids amounts 0 n)
        (λ z u a. let p = in_place 0 n z u in let q = (N.least p.place (let t = p.to in omega arith) (subst (λ (w : Token). is_above s (id_at ids last) w.0 ≡ true) p.is a)).0 in omega (arith, q)))

-- ---- a turn of the comparison, and its ways out

module _ (ids : List ℕ) (amounts : List ℤ) (n : ℕ) (ids' : List ℕ) (amounts' : List ℤ) (n' : ℕ) (s : Bool) (last r last' r' : ℕ) (N : Next ids n s last n r) (N' : Next ids' n' s last' n' r')
    (d : distinct (keys 32 n ids) ≡ true) (d' : distinct (keys 32 n' ids') ≡ true) where
  abbrev now_left : Order
  now_left = of_lists of_tokens (left_above ids amounts n s last) (left_above ids' amounts' n' s last')

  pub both_end : n ≤ r → n' ≤ r' → now_left ≡ Equal
  unfolding of_lists
  both_end h k = rw (none_picked ids amounts n s last r N h, none_picked ids' amounts' n' s last' r' N' k)

  pub first_ends : n ≤ r → r' < n' → now_left ≡ Less
  unfolding of_lists
  first_ends h k = rw (none_picked ids amounts n s last r N h, picked ids' amounts' n' s last' r' N' d' k)

  pub second_ends : r < n → n' ≤ r' → now_left ≡ Greater
  unfolding of_lists
  second_ends h k = rw (picked ids amounts n s last r N d h, none_picked ids' amounts' n' s last' r' N' k)

  pub both_go_on : r < n → r' < n' → (o : Order) → o ≡ of_tokens (token_at ids amounts r) (token_at ids' amounts' r')
      → now_left ≡ or_else o (of_lists of_tokens (left_above ids amounts n true r) (left_above ids' amounts' n' true r'))
  unfolding of_lists
  both_go_on h k o e =
      (λ i. of_lists of_tokens (picked ids amounts n s last r N d h i) (picked ids' amounts' n' s last' r' N' d' k i))
      ∙ ap (λ u. or_else u (of_lists of_tokens (left_above ids amounts n true r) (left_above ids' amounts' n' true r'))) (sym e)

  pub fewer_left : r < n → length (left_above ids amounts n true r) < length (left_above ids amounts n s last)
  fewer_left h = let e = ap length (picked ids amounts n s last r N d h) in omega arith
