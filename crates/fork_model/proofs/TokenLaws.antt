-- Lists of tokens: what setting, dropping and adding one id changes, in natural numbers.
use Rattle.ledger.specs.Ledger.{amount_in}
use Rattle.ledger.proofs.TestLaws.{ite_yes, ite_no}
use mathlib.Core.Path.{◌≡◌, refl, sym, ◌∙◌, ap, subst}
use mathlib.Core.Logic.{◌⊎◌, inl, inr, ⊎_elim, ◌≢◌}
use mathlib.Core.List.{[], ◌∷◌, ◌++◌}
use Prim.Native.Nat.{ℕ, zero, suc, ◌+◌, ◌≤◌, ◌<◌}
use native.Mathlib.Decide.{dec_lt}
use native.Mathlib.Omega.{arith}
use lib.IntN.{ℤ, pos, negsuc, nat_abs, ◌+ℤ◌, ◌-ℤ◌, +ℤ-neg_ℤ_cancel}
use lib.Signed.{◌≤ℤ◌, mag}
use lib.ListN.{length, length-append}
use Rattle.ledger.specs.Ledger.{TokenId, id_dec, Tokens, ite, sum_of, AllPos}
use Rattle.ledger.specs.Run.{done, refused}
use Rattle.fork_model.proofs.Search.{done≢refused, ite_cases}
use Rattle.fork_model.proofs.Balances.{Has, has_dec, set_token, drop_token, shrink}
use Rattle.fork_model.proofs.Balances as Ba

-- amounts as natural numbers
abbrev pub AN : Tokens → TokenId → ℕ
AN l t = nat_abs (amount_in l t)

abbrev pub sum_n : TokenId → Tokens → ℕ
sum_n t [] = 0
sum_n t (x ∷ ts) = ite (id_dec x.0 t) (nat_abs x.1 + sum_n t ts) (sum_n t ts)

pub pos_of : (z : ℤ) → pos 1 ≤ℤ z → (w : ℕ) × (z ≡ pos (suc w))
pos_of (pos zero) h = absurd h.le
pos_of (pos (suc w)) h = (w, refl)
pos_of (negsuc w) h = absurd h.le

pub non_of : (z : ℤ) → pos 0 ≤ℤ z → z ≡ pos (nat_abs z)
non_of (pos n) h = refl
non_of (negsuc w) h = absurd h.le

sum_ite : {P : Type 0} (w : Dec P) (z : ℤ) (a : ℕ) (s : ℤ) (k : ℕ) → z ≡ pos (suc a) → s ≡ pos k → ite w (z +ℤ s) s ≡ pos (ite w (nat_abs z + k) k)
unfolding ite
sum_ite (yes e) z a s k h q = (λ i. h i +ℤ q i) ∙ ap (λ x. pos (nat_abs x + k)) (sym h)
sum_ite (no n) z a s k h q = q

pub sum_pos : (t : TokenId) (ts : Tokens) → AllPos ts → sum_of t ts ≡ pos (sum_n t ts)
sum_pos t [] h = refl
sum_pos t (x ∷ ts) h = let p = pos_of x.1 h.0 in sum_ite (id_dec x.0 t) x.1 p.0 (sum_of t ts) (sum_n t ts) p.1 (sum_pos t ts h.1)

module _ (lim cap : ℕ) where
  -- a list of tokens in which no id repeats, each amount above 0
  pub record TokOk (z : ℤ) : Type 0 where
    pub val : ℕ
    pub is : z ≡ pos (suc val)
    pub low : suc val < lim

  abbrev pub GoodT : Tokens → Type 0
  GoodT [] = Unit {0}
  GoodT (x ∷ l) = TokOk x.1 × (Has l x.0 → ⊥) × GoodT l

  pub has_val : (l : Tokens) (t : TokenId) → GoodT l → Has l t → TokOk (amount_in l t)
  has_val [] t g h = absurd h
  has_val (x ∷ l) t g h = go (id_dec x.0 t) (⊎_elim (λ e. inl e) (λ u. inr (has_val l t g.2 u)) h)
    where
      go : (w : Dec (x.0 ≡ t)) → (x.0 ≡ t) ⊎ TokOk (amount_in l t) → TokOk (ite w x.1 (amount_in l t))
      go (yes e) c = subst TokOk (sym (ite_yes (yes e) x.1 (amount_in l t) e)) g.0
      go (no n) c = subst TokOk (sym (ite_no (no n) x.1 (amount_in l t) n)) (⊎_elim (λ e. absurd (n e)) (λ u. u) c)

  pub not_has : (l : Tokens) (t : TokenId) → (Has l t → ⊥) → amount_in l t ≡ pos 0
  not_has [] t n = refl
  not_has (x ∷ l) t n = ite_no (id_dec x.0 t) x.1 (amount_in l t) (λ e. n (inl e)) ∙ not_has l t (λ h. n (inr h))

  pub record Nat (l : Tokens) (t : TokenId) : Type 0 where
    pub is : amount_in l t ≡ pos (AN l t)
    pub low : 0 < lim → AN l t < lim

  pub amt_nat : (l : Tokens) (t : TokenId) → GoodT l → Dec (Has l t) → Nat l t
  amt_nat l t g (yes h) = let v = has_val l t g h in
      record { is = v.is ∙ ap pos (sym (ap nat_abs v.is)); low = λ z. omega (arith, v.low, ap nat_abs v.is) }
  amt_nat l t g (no n) = let v = not_has l t n in
      record { is = v ∙ ap pos (sym (ap nat_abs v)); low = λ z. omega (arith, ap nat_abs v) }

  pub record UpdN (l : Tokens) (t : TokenId) (v : ℕ) (l' : Tokens) : Type 0 where
    pub good : GoodT l'
    pub len : length l' ≤ cap
    pub here : AN l' t ≡ v
    pub other : (u : TokenId) → t ≢ u → AN l' u ≡ AN l u

  -- set
  set_has : (l : Tokens) (t : TokenId) (v : ℤ) (u : TokenId) → Has (set_token l t v) u → Has l u
  unfolding ite
  set_has [] t v u h = h
  set_has (x ∷ l) t v u h = go (id_dec x.0 t) h (set_has l t v u)
    where
      go : (w : Dec (x.0 ≡ t)) → Has (ite w ((t, v) ∷ l) (x ∷ set_token l t v)) u → (Has (set_token l t v) u → Has l u) → Has (x ∷ l) u
      go (yes e) a f = ⊎_elim (λ q. inl (e ∙ q)) (λ k. inr k) a
      go (no n) a f = ⊎_elim (λ q. inl q) (λ k. inr (f k)) a

  set_good : (l : Tokens) (t : TokenId) (v : ℤ) → TokOk v → GoodT l → GoodT (set_token l t v)
  unfolding ite
  set_good [] t v o g = tt
  set_good (x ∷ l) t v o g = go (id_dec x.0 t) (set_good l t v o g.2)
    where
      go : (w : Dec (x.0 ≡ t)) → GoodT (set_token l t v) → GoodT (ite w ((t, v) ∷ l) (x ∷ set_token l t v))
      go (yes e) k = (o, (λ h. g.1 (subst (Has l) (sym e) h)), g.2)
      go (no n) k = (g.0, (λ h. g.1 (set_has l t v x.0 h)), k)

  set_len : (l : Tokens) (t : TokenId) (v : ℤ) → length (set_token l t v) ≡ length l
  unfolding ite
  set_len [] t v = refl
  set_len (x ∷ l) t v = go (id_dec x.0 t) (set_len l t v)
    where
      go : (w : Dec (x.0 ≡ t)) → length (set_token l t v) ≡ length l → length (ite w ((t, v) ∷ l) (x ∷ set_token l t v)) ≡ suc (length l)
      go (yes e) k = refl
      go (no n) k = ap suc k

  set_here : (l : Tokens) (t : TokenId) (v : ℤ) → Has l t → amount_in (set_token l t v) t ≡ v
  unfolding ite
  set_here [] t v h = absurd h
  set_here (x ∷ l) t v h = go (id_dec x.0 t) (⊎_elim (λ e. inl e) (λ k. inr (set_here l t v k)) h)
    where
      go : (w : Dec (x.0 ≡ t)) → (x.0 ≡ t) ⊎ (amount_in (set_token l t v) t ≡ v) → amount_in (ite w ((t, v) ∷ l) (x ∷ set_token l t v)) t ≡ v
      go (yes e) k = ite_yes (id_dec t t) v (amount_in l t) refl
      go (no n) k = ite_no (id_dec x.0 t) x.1 (amount_in (set_token l t v) t) n ∙ ⊎_elim (λ e. absurd (n e)) (λ q. q) k

  set_other : (l : Tokens) (t : TokenId) (v : ℤ) (u : TokenId) → t ≢ u → amount_in (set_token l t v) u ≡ amount_in l u
  unfolding ite
  set_other [] t v u q = refl
  set_other (x ∷ l) t v u q = go (id_dec x.0 t) (set_other l t v u q)
    where
      go : (w : Dec (x.0 ≡ t)) → amount_in (set_token l t v) u ≡ amount_in l u → amount_in (ite w ((t, v) ∷ l) (x ∷ set_token l t v)) u ≡ ite (id_dec x.0 u) x.1 (amount_in l u)
      go (yes e) k = ite_no (id_dec t u) v (amount_in l u) q ∙ sym (ite_no (id_dec x.0 u) x.1 (amount_in l u) (λ z. q (sym e ∙ z)))
      go (no n) k = ap (ite (id_dec x.0 u) x.1) k

  -- drop
  drop_has : (l : Tokens) (t : TokenId) (u : TokenId) → Has (drop_token l t) u → Has l u
  unfolding ite
  drop_has [] t u h = h
  drop_has (x ∷ l) t u h = go (id_dec x.0 t) h (drop_has l t u)
    where
      go : (w : Dec (x.0 ≡ t)) → Has (ite w l (x ∷ drop_token l t)) u → (Has (drop_token l t) u → Has l u) → Has (x ∷ l) u
      go (yes e) a f = inr a
      go (no n) a f = ⊎_elim (λ q. inl q) (λ k. inr (f k)) a

  drop_good : (l : Tokens) (t : TokenId) → GoodT l → GoodT (drop_token l t)
  unfolding ite
  drop_good [] t g = tt
  drop_good (x ∷ l) t g = go (id_dec x.0 t) (drop_good l t g.2)
    where
      go : (w : Dec (x.0 ≡ t)) → GoodT (drop_token l t) → GoodT (ite w l (x ∷ drop_token l t))
      go (yes e) k = g.2
      go (no n) k = (g.0, (λ h. g.1 (drop_has l t x.0 h)), k)

  drop_len : (l : Tokens) (t : TokenId) → length (drop_token l t) ≤ length l
  unfolding ite
  drop_len [] t = omega arith
  drop_len (x ∷ l) t = go (id_dec x.0 t) (drop_len l t)
    where
      go : (w : Dec (x.0 ≡ t)) → length (drop_token l t) ≤ length l → length (ite w l (x ∷ drop_token l t)) ≤ suc (length l)
      go (yes e) k = omega arith
      go (no n) k = omega arith

  drop_here : (l : Tokens) (t : TokenId) → GoodT l → amount_in (drop_token l t) t ≡ pos 0
  unfolding ite
  drop_here [] t g = refl
  drop_here (x ∷ l) t g = go (id_dec x.0 t) (drop_here l t g.2)
    where
      go : (w : Dec (x.0 ≡ t)) → amount_in (drop_token l t) t ≡ pos 0 → amount_in (ite w l (x ∷ drop_token l t)) t ≡ pos 0
      go (yes e) k = not_has l t (λ h. g.1 (subst (Has l) (sym e) h))
      go (no n) k = ite_no (id_dec x.0 t) x.1 (amount_in (drop_token l t) t) n ∙ k

  drop_other : (l : Tokens) (t : TokenId) (u : TokenId) → t ≢ u → amount_in (drop_token l t) u ≡ amount_in l u
  unfolding ite
  drop_other [] t u q = refl
  drop_other (x ∷ l) t u q = go (id_dec x.0 t) (drop_other l t u q)
    where
      go : (w : Dec (x.0 ≡ t)) → amount_in (drop_token l t) u ≡ amount_in l u → amount_in (ite w l (x ∷ drop_token l t)) u ≡ ite (id_dec x.0 u) x.1 (amount_in l u)
      go (yes e) k = sym (ite_no (id_dec x.0 u) x.1 (amount_in l u) (λ z. q (sym e ∙ z)))
      go (no n) k = ap (ite (id_dec x.0 u) x.1) k

  -- a new id, last
  snoc_has : (l : Tokens) (t : TokenId) (a : ℤ) (u : TokenId) → Has (l ++ ((t, a) ∷ [])) u → Has l u ⊎ (t ≡ u)
  snoc_has [] t a u h = ⊎_elim (λ e. inr e) (λ k. inl k) h
  snoc_has (x ∷ l) t a u h = ⊎_elim (λ e. inl (inl e)) (λ k. ⊎_elim (λ z. inl (inr z)) (λ e. inr e) (snoc_has l t a u k)) h

  snoc_good : (l : Tokens) (t : TokenId) (a : ℤ) → TokOk a → (Has l t → ⊥) → GoodT l → GoodT (l ++ ((t, a) ∷ []))
  snoc_good [] t a o n g = (o, (λ h. h), tt)
  snoc_good (x ∷ l) t a o n g = (g.0, (λ h. ⊎_elim g.1 (λ e. n (inl (sym e))) (snoc_has l t a x.0 h)), snoc_good l t a o (λ h. n (inr h)) g.2)

  snoc_here : (l : Tokens) (t : TokenId) (a : ℤ) → (Has l t → ⊥) → amount_in (l ++ ((t, a) ∷ [])) t ≡ a
  snoc_here [] t a n = ite_yes (id_dec t t) a (pos 0) refl
  snoc_here (x ∷ l) t a n = ite_no (id_dec x.0 t) x.1 (amount_in (l ++ ((t, a) ∷ [])) t) (λ e. n (inl e)) ∙ snoc_here l t a (λ h. n (inr h))

  snoc_other : (l : Tokens) (t : TokenId) (a : ℤ) (u : TokenId) → t ≢ u → amount_in (l ++ ((t, a) ∷ [])) u ≡ amount_in l u
  snoc_other [] t a u q = ite_no (id_dec t u) a (pos 0) q
  snoc_other (x ∷ l) t a u q = ap (ite (id_dec x.0 u) x.1) (snoc_other l t a u q)

  -- ---- a credit and a debit of one token
  module _ (l : Tokens) (t : TokenId) (w : ℕ) (g : GoodT l) (len : length l ≤ cap) where
    plus : amount_in l t +ℤ pos (suc w) ≡ pos (suc (AN l t + w))
    plus = ap (λ z. z +ℤ pos (suc w)) (amt_nat l t g (has_dec l t)).is ∙ ap pos (omega arith)

    abbrev sum : ℤ
    sum = amount_in l t +ℤ pos (suc w)

    sum_ok : mag sum < lim → TokOk sum
    sum_ok h = record { val = AN l t + w; is = plus; low = subst (λ (z : ℤ). mag z < lim) plus h }

    pub add_one_ok : (k : Tokens) → Ba.token_added lim cap l t (pos (suc w)) ≡ done k → UpdN l t (AN l t + suc w) k
    add_one_ok k e =
        ite_cases (dec_lt (mag sum) lim) (ite (has_dec l t) (done (set_token l t sum)) (ite (dec_lt (length l) cap) (done (l ++ ((t, pos (suc w)) ∷ []))) (refused 24))) (refused 23) (done k) e
        (λ h a. ite_cases (has_dec l t) (done (set_token l t sum)) (ite (dec_lt (length l) cap) (done (l ++ ((t, pos (suc w)) ∷ []))) (refused 24)) (done k) a
        (λ p b. let q : set_token l t sum ≡ k = cc in subst (UpdN l t (AN l t + suc w)) q (record {
          good = set_good l t sum (sum_ok h) g;
          len = omega (arith, set_len l t sum);
          here = ap nat_abs (set_here l t sum p ∙ plus) ∙ omega arith;
          other = λ u n. ap nat_abs (set_other l t sum u n);
        }))
        (λ p b. ite_cases (dec_lt (length l) cap) (done (l ++ ((t, pos (suc w)) ∷ []))) (refused 24) (done k) b
        (λ c d. let q : l ++ ((t, pos (suc w)) ∷ []) ≡ k = cc in subst (UpdN l t (AN l t + suc w)) q (record {
          good = snoc_good l t (pos (suc w)) (record { val = w; is = refl; low = omega (arith, subst (λ (z : ℤ). mag z < lim) plus h) }) p g;
          len = omega (arith, length-append l ((t, pos (suc w)) ∷ []));
          here = ap nat_abs (snoc_here l t (pos (suc w)) p) ∙ omega (arith, ap nat_abs (not_has l t p));
          other = λ u n. ap nat_abs (snoc_other l t (pos (suc w)) u n);
        }))
        (λ c d. absurd (done≢refused (sym d)))))
        (λ h a. absurd (done≢refused (sym a)))

    pub add_one_no : (k : ℕ) → AN l t + suc w < lim → ((Has l t → ⊥) → length l < cap) → Ba.token_added lim cap l t (pos (suc w)) ≡ refused k → ⊥
    add_one_no k h c e =
        ite_cases (dec_lt (mag sum) lim) (ite (has_dec l t) (done (set_token l t sum)) (ite (dec_lt (length l) cap) (done (l ++ ((t, pos (suc w)) ∷ []))) (refused 24))) (refused 23) (refused k) e
        (λ x a. ite_cases (has_dec l t) (done (set_token l t sum)) (ite (dec_lt (length l) cap) (done (l ++ ((t, pos (suc w)) ∷ []))) (refused 24)) (refused k) a
        (λ p b. done≢refused b)
        (λ p b. ite_cases (dec_lt (length l) cap) (done (l ++ ((t, pos (suc w)) ∷ []))) (refused 24) (refused k) b (λ y d. done≢refused d) (λ y d. y (c p))))
        (λ x a. x (subst (λ (z : ℤ). mag z < lim) (sym plus) (omega arith)))

    -- a debit of what is there
    module _ (y : ℕ) (there : AN l t ≡ y + suc w) where
      minus : amount_in l t -ℤ pos (suc w) ≡ pos y
      minus = ap (λ z. z -ℤ pos (suc w)) ((amt_nat l t g (has_dec l t)).is ∙ ap pos there) ∙ +ℤ-neg_ℤ_cancel (pos y) (pos (suc w))

      present : Has l t
      present = go (has_dec l t)
        where
          go : Dec (Has l t) → Has l t
          go (yes h) = h
          go (no n) = absurd (omega (arith, there, ap nat_abs (not_has l t n)))

      below : y < lim
      below = let v = has_val l t g present in omega (arith, v.low, ap nat_abs v.is, there)

      shrink_ok : (v : ℕ) → v < lim → UpdN l t v (shrink l t (pos v))
      shrink_ok zero h = record { good = drop_good l t g; len = omega (arith, drop_len l t); here = ap nat_abs (drop_here l t g); other = λ u n. ap nat_abs (drop_other l t u n) }
      shrink_ok (suc v) h = record {
        good = set_good l t (pos (suc v)) (record { val = v; is = refl; low = h }) g;
        len = omega (arith, set_len l t (pos (suc v)));
        here = ap nat_abs (set_here l t (pos (suc v)) present);
        other = λ u n. ap nat_abs (set_other l t (pos (suc v)) u n);
      }

      pub sub_one : (k : Tokens) × (Ba.token_taken lim cap l t (pos (suc w)) ≡ done k) × UpdN l t y k
      sub_one = (
        shrink l t (pos y),
        ite_yes (has_dec l t) (ite (dec_lt (mag (amount_in l t -ℤ pos (suc w))) lim) (done (shrink l t (amount_in l t -ℤ pos (suc w)))) (refused 23)) (done l) present
            ∙ ite_yes (dec_lt (mag (amount_in l t -ℤ pos (suc w))) lim) (done (shrink l t (amount_in l t -ℤ pos (suc w)))) (refused 23) (subst (λ (z : ℤ). mag z < lim) (sym minus) below)
            ∙ ap (λ z. done (shrink l t z)) minus,
        shrink_ok y below,
      )
