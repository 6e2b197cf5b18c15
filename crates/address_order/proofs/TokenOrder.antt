-- Tokens with distinct ids, taken by ascending id: two lists give the same exactly where they hold the same tokens, in whatever sequence.
use mathlib.Core.Path.{◌≡◌, refl, sym, ◌∙◌, ap, subst}
use mathlib.Core.Logic.{◌⊎◌, inl, inr, ⊎_elim}
use mathlib.Core.List.Memᴰ
use mathlib.Core.List.{[], ◌∷◌, Memᴰ}
use lib.IntN.{ℤ}
use Rattle.ledger.specs.Ledger.{TokenId, Tokens}
use Rattle.index_types.specs.declared.Order.{Order}
use Rattle.index_types.specs.declared.Order.TheVariants.{Less, Equal, Greater}
use Rattle.address_order.specs.Order.{reversed, of_numbers, of_ids, put_before, insert, ascending, SameTokens}
use Rattle.address_order.proofs.Comparisons.{Plain, less≢equal, numbers_total, lists_total}

abbrev pub Token : Type 0
Token = TokenId × ℤ

pub ids_total : Plain of_ids
ids_total = lists_total of_numbers numbers_total

-- no id stands twice
abbrev pub Apart : Tokens → Type 0
Apart [] = Unit {0}
Apart (x ∷ ts) = ((y : Token) → Memᴰ y ts → x.0 ≡ y.0 → ⊥) × Apart ts

-- each id is below every later one
abbrev pub Rising : Tokens → Type 0
Rising [] = Unit {0}
Rising (x ∷ ts) = ((y : Token) → Memᴰ y ts → of_ids x.0 y.0 ≡ Less) × Rising ts

abbrev In : Token → Tokens → Type 0
In x ts = Memᴰ x ts

-- ---- what an insertion holds
in_by : (o : Order) (x y : Token) (ts : Tokens) (z : Token) → In z (put_before o x y (y ∷ ts) (insert x ts)) → (In z (insert x ts) → (z ≡ x) ⊎ In z ts) → (z ≡ x) ⊎ In z (y ∷ ts)
in_by Less x y ts z h ih = Memᴰ.cases_cons h
in_by Equal x y ts z h ih = Memᴰ.cases_cons h
in_by Greater x y ts z h ih = ⊎_elim (λ e. inr (Memᴰ.head e)) (λ u. ⊎_elim inl (λ v. inr (Memᴰ.tail v)) (ih u)) (Memᴰ.cases_cons h)

insert_in : (x : Token) (ts : Tokens) (z : Token) → In z (insert x ts) → (z ≡ x) ⊎ In z ts
unfolding insert
insert_in x [] z h = Memᴰ.cases_cons h
insert_in x (y ∷ ts) z h = in_by (of_ids x.0 y.0) x y ts z h (insert_in x ts z)

has_by : (o : Order) (x y : Token) (ts : Tokens) (z : Token) → (z ≡ x) ⊎ In z (y ∷ ts) → ((z ≡ x) ⊎ In z ts → In z (insert x ts)) → In z (put_before o x y (y ∷ ts) (insert x ts))
has_by Less x y ts z h ih = ⊎_elim Memᴰ.head Memᴰ.tail h
has_by Equal x y ts z h ih = ⊎_elim Memᴰ.head Memᴰ.tail h
has_by Greater x y ts z h ih = ⊎_elim (λ e. Memᴰ.tail (ih (inl e))) (λ u. ⊎_elim Memᴰ.head (λ v. Memᴰ.tail (ih (inr v))) (Memᴰ.cases_cons u)) h

in_insert : (x : Token) (ts : Tokens) (z : Token) → (z ≡ x) ⊎ In z ts → In z (insert x ts)
unfolding insert
in_insert x [] z h = ⊎_elim Memᴰ.head (λ u. absurd (Memᴰ.not-nil u)) h
in_insert x (y ∷ ts) z h = has_by (of_ids x.0 y.0) x y ts z h (in_insert x ts z)

pub ascending_in : (ts : Tokens) (z : Token) → In z (ascending ts) → In z ts
unfolding ascending
ascending_in [] z h = h
ascending_in (x ∷ ts) z h = ⊎_elim Memᴰ.head (λ u. Memᴰ.tail (ascending_in ts z u)) (insert_in x (ascending ts) z h)

pub in_ascending : (ts : Tokens) (z : Token) → In z ts → In z (ascending ts)
unfolding ascending
in_ascending [] z h = h
in_ascending (x ∷ ts) z h = in_insert x (ascending ts) z (⊎_elim inl (λ u. inr (in_ascending ts z u)) (Memᴰ.cases_cons h))

-- ---- it rises
rise_by : (o : Order) (x y : Token) (ts : Tokens) → of_ids x.0 y.0 ≡ o → (x.0 ≡ y.0 → ⊥) → Rising (y ∷ ts) → Rising (insert x ts) → Rising (put_before o x y (y ∷ ts) (insert x ts))
rise_by Less x y ts e n R ih = ((λ z h. ⊎_elim (λ q. subst (λ (w : Token). of_ids x.0 w.0 ≡ Less) (sym q) e) (λ u. ids_total.follows x.0 y.0 z.0 e (R.0 z u)) (Memᴰ.cases_cons h)), R)
rise_by Equal x y ts e n R ih = absurd (n (ids_total.same_of x.0 y.0 e))
rise_by Greater x y ts e n R ih =
    let b : of_ids y.0 x.0 ≡ Less = ids_total.reverses x.0 y.0 ∙ ap reversed e in
    ((λ z h. ⊎_elim (λ q. subst (λ (w : Token). of_ids y.0 w.0 ≡ Less) (sym q) b) (λ u. R.0 z u) (insert_in x ts z h)), ih)

insert_rises : (x : Token) (ts : Tokens) → Rising ts → ((y : Token) → In y ts → x.0 ≡ y.0 → ⊥) → Rising (insert x ts)
unfolding insert
insert_rises x [] R n = ((λ z h. absurd (Memᴰ.not-nil h)), tt)
insert_rises x (y ∷ ts) R n = rise_by (of_ids x.0 y.0) x y ts refl (n y (Memᴰ.head refl)) R (insert_rises x ts R.1 (λ z h. n z (Memᴰ.tail h)))

pub ascending_rises : (ts : Tokens) → Apart ts → Rising (ascending ts)
unfolding ascending
ascending_rises [] A = tt
ascending_rises (x ∷ ts) A = insert_rises x (ascending ts) (ascending_rises ts A.1) (λ y h. A.0 y (ascending_in ts y h))

-- ---- two rising lists with the same tokens are equal
self_less : (x : Token) → of_ids x.0 x.0 ≡ Less → ⊥
self_less x e = less≢equal (sym e ∙ ids_total.equal_of x.0 x.0 refl)

both_less : (x y : Token) → of_ids x.0 y.0 ≡ Less → of_ids y.0 x.0 ≡ Less → ⊥
both_less x y p q = self_less x (ids_total.follows x.0 y.0 x.0 p q)

heads : (x y : Token) (ts us : Tokens) → Rising (x ∷ ts) → Rising (y ∷ us) → SameTokens (x ∷ ts) (y ∷ us) → x ≡ y
heads x y ts us R S h =
    ⊎_elim (λ e. e) (λ u. ⊎_elim (λ e. sym e) (λ v. absurd (both_less x y (R.0 y v) (S.0 x u))) (Memᴰ.cases_cons ((h y).1 (Memᴰ.head refl))))
    (Memᴰ.cases_cons ((h x).0 (Memᴰ.head refl)))

drop_head : (x y : Token) (ts us : Tokens) → x ≡ y → Rising (x ∷ ts) → (z : Token) → In z ts → (In z (x ∷ ts) → In z (y ∷ us)) → In z us
drop_head x y ts us e R z h f =
    ⊎_elim (λ q. absurd (self_less x (subst (λ (w : Token). of_ids x.0 w.0 ≡ Less) (q ∙ sym e) (R.0 z h)))) (λ u. u) (Memᴰ.cases_cons (f (Memᴰ.tail h)))

pub rising_same : (ts us : Tokens) → Rising ts → Rising us → SameTokens ts us → ts ≡ us
rising_same [] [] R S h = refl
rising_same [] (y ∷ us) R S h = absurd (Memᴰ.not-nil ((h y).1 (Memᴰ.head refl)))
rising_same (x ∷ ts) [] R S h = absurd (Memᴰ.not-nil ((h x).0 (Memᴰ.head refl)))
rising_same (x ∷ ts) (y ∷ us) R S h =
    let e = heads x y ts us R S h in
    let r = rising_same ts us R.1 S.1 (λ z. ((λ u. drop_head x y ts us e R z u (h z).0), (λ u. drop_head y x us ts (sym e) S z u (h z).1))) in
    λ i. e i ∷ r i

pub ascending_same : (ts us : Tokens) → Apart ts → Apart us → SameTokens ts us → ascending ts ≡ ascending us
ascending_same ts us A B h =
    rising_same (ascending ts) (ascending us) (ascending_rises ts A) (ascending_rises us B)
    (λ z. ((λ u. in_ascending us z ((h z).0 (ascending_in ts z u))), (λ u. in_ascending ts z ((h z).1 (ascending_in us z u)))))

pub same_ascending : (ts us : Tokens) → ascending ts ≡ ascending us → SameTokens ts us
same_ascending ts us e z =
    ((λ u. ascending_in us z (subst (Memᴰ z) e (in_ascending ts z u))), (λ u. ascending_in ts z (subst (Memᴰ z) (sym e) (in_ascending us z u))))
