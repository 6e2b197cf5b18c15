-- What a credit and a debit do to the amounts, and that an undo of one gives back what was there.
use Rattle.ledger.specs.Ledger.{amount_in}
use Rattle.ledger.proofs.TestLaws.{ite_yes}
use mathlib.Core.Path.{◌≡◌, refl, sym, ◌∙◌, ap, subst}
use mathlib.Core.Logic.{◌⊎◌, inl, inr, ⊎_elim, ◌≢◌}
use mathlib.Core.List.{[], ◌∷◌}
use Prim.Native.Nat.{ℕ, suc, ◌+◌, ◌-◌, ◌≤◌, ◌<◌}
use native.Mathlib.Decide.{dec_lt}
use native.Mathlib.Omega.{arith}
use lib.IntN.{ℤ, pos, nat_abs, ◌+ℤ◌, ◌-ℤ◌, +ℤ-neg_ℤ_cancel, -ℤ-+ℤ_cancel}
use lib.Signed.{◌≤ℤ◌, mag}
use lib.Dec.{leb→le}
use lib.ListN.{length}
use Rattle.fork_model.proofs.Paid.{Paid}
use Rattle.fork_model.proofs.Paid as Pd
use Rattle.ledger.specs.Ledger.{TokenId, id_dec, Tokens, ite, sum_of, AllPos}
use Rattle.ledger.specs.Run.{Res, done, refused}
use Rattle.fork_model.proofs.Store.{then_do}
use Rattle.fork_model.proofs.Search.{done≢refused, ite_cases}
use Rattle.fork_model.proofs.Balances.{Has, has_dec, drop_token, stop0, Bal, no_balance, nano_of, amount_of}
use Rattle.fork_model.proofs.Balances as Ba
use Rattle.fork_model.proofs.TokenLaws.{AN, sum_n, pos_of, non_of, sum_pos}
use Rattle.fork_model.proofs.TokenLaws as Tl

module _ (lim cap : ℕ) where
  abbrev GoodT : Tokens → Type 0
  GoodT l = Tl.GoodT lim cap l

  abbrev UpdN : Tokens → TokenId → ℕ → Tokens → Type 0
  UpdN l t v k = Tl.UpdN lim cap l t v k

  -- ---- all tokens of a box
  record Grown (l ts l' : Tokens) : Type 0 where
    good : GoodT l'
    len : length l' ≤ cap
    sums : (u : TokenId) → AN l' u ≡ AN l u + sum_n u ts

  grow_at : {l : Tokens} {t : TokenId} {w : ℕ} {k : Tokens} → UpdN l t (AN l t + suc w) k → (a : ℤ) → a ≡ pos (suc w) → (u : TokenId) (r : ℕ) (d : Dec (t ≡ u)) → AN k u + r ≡ AN l u + ite d (nat_abs a + r) r
  unfolding ite
  grow_at {l} {t} {w} {k} p a h u r (yes e) = subst (λ (x : TokenId). AN k x + r ≡ AN l x + (nat_abs a + r)) e (omega (arith, p.here, ap nat_abs h))
  grow_at {l} {t} {w} {k} p a h u r (no n) = omega (arith, p.other u n)

  adds_rest : (l : Tokens) (x : TokenId × ℤ) (ts k' : Tokens) (X : Res Tokens) → GoodT l → length l ≤ cap → AllPos (x ∷ ts) → Ba.token_added lim cap l x.0 x.1 ≡ X → then_do X (λ k. Ba.add_tokens lim cap k ts) ≡ done k'
      → ((k : Tokens) → GoodT k → length k ≤ cap → Ba.add_tokens lim cap k ts ≡ done k' → Grown k ts k') → Grown l (x ∷ ts) k'
  adds_rest l x ts k' (refused j) g n p a e ih = absurd (done≢refused (sym e))
  adds_rest l x ts k' (done k) g n p a e ih =
      let v = pos_of x.1 p.0 in
      let q = Tl.add_one_ok lim cap l x.0 v.0 g n k (subst (λ (z : ℤ). Ba.token_added lim cap l x.0 z ≡ done k) v.1 a) in
      let r = ih k q.good q.len e in
      record { good = r.good; len = r.len; sums = λ u. r.sums u ∙ grow_at q x.1 v.1 u (sum_n u ts) (id_dec x.0 u) }

  adds_ok : (ts l k : Tokens) → GoodT l → length l ≤ cap → AllPos ts → Ba.add_tokens lim cap l ts ≡ done k → Grown l ts k
  unfolding Ba.add_tokens
  adds_ok [] l k g n p e = let q : l ≡ k = cc in subst (Grown l []) q (record { good = g; len = n; sums = λ u. omega arith })
  adds_ok (x ∷ ts) l k g n p e = adds_rest l x ts k (Ba.token_added lim cap l x.0 x.1) g n p refl e (λ y a b c. adds_ok ts y k a b p.1 c)

  -- a debit
  record Cut (l ts : Tokens) : Type 0 where
    left : Tokens
    eq : Ba.subtract_tokens lim cap l ts ≡ done left
    good : GoodT left
    len : length left ≤ cap
    sums : (u : TokenId) → AN left u + sum_n u ts ≡ AN l u

  sum_here : (t : TokenId) (x : TokenId × ℤ) (ts : Tokens) → x.0 ≡ t → sum_n t (x ∷ ts) ≡ nat_abs x.1 + sum_n t ts
  sum_here t x ts e = ite_yes (id_dec x.0 t) (nat_abs x.1 + sum_n t ts) (sum_n t ts) e

  cut_le : {l : Tokens} {t : TokenId} {y : ℕ} {k : Tokens} (w : ℕ) → UpdN l t y k → AN l t ≡ y + suc w → (a : ℤ) → a ≡ pos (suc w) → (u : TokenId) (r : ℕ) (d : Dec (t ≡ u)) → ite d (nat_abs a + r) r ≤ AN l u → r ≤ AN k u
  unfolding ite
  cut_le {l} {t} {y} {k} w p h a q u r (yes e) = subst (λ (x : TokenId). nat_abs a + r ≤ AN l x → r ≤ AN k x) e (λ z. omega (arith, p.here, h, ap nat_abs q))
  cut_le {l} {t} {y} {k} w p h a q u r (no n) = λ z. omega (arith, p.other u n)

  cut_eq : {l : Tokens} {t : TokenId} {y : ℕ} {k : Tokens} (w : ℕ) → UpdN l t y k → AN l t ≡ y + suc w → (a : ℤ) → a ≡ pos (suc w) → (u : TokenId) (z r : ℕ) (d : Dec (t ≡ u)) → z + r ≡ AN k u → z + ite d (nat_abs a + r) r ≡ AN l u
  unfolding ite
  cut_eq {l} {t} {y} {k} w p h a q u z r (yes e) = subst (λ (x : TokenId). z + r ≡ AN k x → z + (nat_abs a + r) ≡ AN l x) e (λ f. omega (arith, p.here, h, ap nat_abs q))
  cut_eq {l} {t} {y} {k} w p h a q u z r (no n) = λ f. omega (arith, p.other u n)

  cuts : (ts l : Tokens) → GoodT l → length l ≤ cap → AllPos ts → ((u : TokenId) → sum_n u ts ≤ AN l u) → Cut l ts
  unfolding Ba.subtract_tokens
  cuts [] l g n p h = record { left = l; eq = refl; good = g; len = n; sums = λ u. omega arith }
  cuts (x ∷ ts) l g n p h =
      let v = pos_of x.1 p.0 in
      let there : AN l x.0 ≡ (AN l x.0 - suc v.0) + suc v.0 = omega (arith, h x.0, sum_here x.0 x ts refl, ap nat_abs v.1) in
      let q = Tl.sub_one lim cap l x.0 v.0 g n (AN l x.0 - suc v.0) there in
      let r = cuts ts q.0 q.2.good q.2.len p.1 (λ u. cut_le v.0 q.2 there x.1 v.1 u (sum_n u ts) (id_dec x.0 u) (h u)) in
      record {
        left = r.left;
        eq = ap (λ (X : Res Tokens). then_do X (λ k. Ba.subtract_tokens lim cap k ts)) (ap (Ba.token_taken lim cap l x.0) v.1 ∙ q.1) ∙ r.eq;
        good = r.good;
        len = r.len;
        sums = λ u. cut_eq v.0 q.2 there x.1 v.1 u (AN r.left u) (sum_n u ts) (id_dec x.0 u) (r.sums u);
      }

  -- a credit of what was there before: no more ids than before
  drop_len_has : (l : Tokens) (t : TokenId) → Has l t → suc (length (drop_token l t)) ≡ length l
  unfolding ite
  drop_len_has [] t h = absurd h
  drop_len_has (x ∷ l) t h = go (id_dec x.0 t) (⊎_elim (λ e. inl e) (λ k. inr (drop_len_has l t k)) h)
    where
      go : (w : Dec (x.0 ≡ t)) → (x.0 ≡ t) ⊎ (suc (length (drop_token l t)) ≡ length l) → suc (length (ite w l (x ∷ drop_token l t))) ≡ suc (length l)
      go (yes e) k = refl
      go (no n) k = ap suc (⊎_elim (λ e. absurd (n e)) (λ q. q) k)

  drop_has_other : (l : Tokens) (t u : TokenId) → t ≢ u → Has l u → Has (drop_token l t) u
  unfolding ite
  drop_has_other [] t u q h = h
  drop_has_other (x ∷ l) t u q h = go (id_dec x.0 t) (⊎_elim (λ e. inl e) (λ k. inr (k, drop_has_other l t u q k)) h)
    where
      go : (w : Dec (x.0 ≡ t)) → (x.0 ≡ u) ⊎ (Has l u × Has (drop_token l t) u) → Has (ite w l (x ∷ drop_token l t)) u
      go (yes e) k = ⊎_elim (λ z. absurd (q (sym e ∙ z))) (λ z. z.0) k
      go (no n) k = ⊎_elim (λ z. inl z) (λ z. inr z.1) k

  has_some : (l : Tokens) (t : TokenId) → Has l t → 0 < length l
  has_some [] t h = absurd h
  has_some (x ∷ l) t h = omega arith

  pigeon : (l l₀ : Tokens) (t : TokenId) → GoodT l → ((u : TokenId) → Has l u → Has l₀ u) → Has l₀ t → (Has l t → ⊥) → length l < length l₀
  pigeon [] l₀ t g s h n = has_some l₀ t h
  pigeon (x ∷ l) l₀ t g s h n =
      omega (
        arith,
        drop_len_has l₀ x.0 (s x.0 (inl refl)),
        pigeon l (drop_token l₀ x.0) t g.2
            (λ u k. drop_has_other l₀ x.0 u (λ e. g.1 (subst (Has l) (sym e) k)) (s u (inr k)))
            (drop_has_other l₀ x.0 t (λ e. n (inl e)) h) (λ k. n (inr k)),
      )

  above : (l : Tokens) (t : TokenId) → 0 < AN l t → Has l t
  above l t h = go (has_dec l t)
    where
      go : Dec (Has l t) → Has l t
      go (yes k) = k
      go (no n) = absurd (omega (arith, ap nat_abs (Tl.not_has lim cap l t n)))

  has_above : (l : Tokens) (t : TokenId) → GoodT l → Has l t → 0 < AN l t
  has_above l t g h = let v = Tl.has_val lim cap l t g h in omega (arith, ap nat_abs v.is)

  record Back (l ts l₀ : Tokens) : Type 0 where
    left : Tokens
    eq : Ba.add_tokens lim cap l ts ≡ done left
    good : GoodT left
    len : length left ≤ cap
    sums : (u : TokenId) → AN left u ≡ AN l₀ u

  back_eq : {l : Tokens} {t : TokenId} {w : ℕ} {k : Tokens} → UpdN l t (AN l t + suc w) k → (a : ℤ) → a ≡ pos (suc w) → (u : TokenId) (r z : ℕ) (d : Dec (t ≡ u)) → AN l u + ite d (nat_abs a + r) r ≡ z → AN k u + r ≡ z
  back_eq {l} {t} {w} {k} p a h u r z d e = grow_at p a h u r d ∙ e

  module _ (l₀ : Tokens) (g₀ : GoodT l₀) (n₀ : length l₀ ≤ cap) where
    back_one : (l : Tokens) (t : TokenId) (w : ℕ) (X : Res Tokens) → GoodT l → length l ≤ cap → AN l t + suc w ≤ AN l₀ t → ((u : TokenId) → AN l u ≤ AN l₀ u) → Ba.token_added lim cap l t (pos (suc w)) ≡ X
        → (k : Tokens) × (X ≡ done k) × UpdN l t (AN l t + suc w) k
    back_one l t w (done k) g n h s e = (k, refl, Tl.add_one_ok lim cap l t w g n k e)
    back_one l t w (refused j) g n h s e =
        let p : Has l₀ t = above l₀ t (omega arith) in let v = Tl.has_val lim cap l₀ t g₀ p in
        absurd (Tl.add_one_no lim cap l t w g n j (omega (arith, v.low, ap nat_abs v.is))
        (λ q. omega (arith, pigeon l l₀ t g (λ u k. above l₀ u (omega (arith, s u, has_above l u g k))) p q)) e)

    backs : (ts l : Tokens) → GoodT l → length l ≤ cap → AllPos ts → ((u : TokenId) → AN l u + sum_n u ts ≡ AN l₀ u) → Back l ts l₀
    unfolding Ba.add_tokens
    backs [] l g n p h = record { left = l; eq = refl; good = g; len = n; sums = λ u. omega (arith, h u) }
    backs (x ∷ ts) l g n p h =
        let v = pos_of x.1 p.0 in
        let q = back_one l x.0 v.0 (Ba.token_added lim cap l x.0 (pos (suc v.0))) g n (omega (arith, h x.0, sum_here x.0 x ts refl, ap nat_abs v.1)) (λ u. omega (arith, h u)) refl in
        let r = backs ts q.0 q.2.good q.2.len p.1 (λ u. back_eq q.2 x.1 v.1 u (sum_n u ts) (AN l₀ u) (id_dec x.0 u) (h u)) in
        record {
          left = r.left;
          eq = ap (λ (X : Res Tokens). then_do X (λ k. Ba.add_tokens lim cap k ts)) (ap (Ba.token_added lim cap l x.0) v.1 ∙ q.1) ∙ r.eq;
          good = r.good;
          len = r.len;
          sums = r.sums;
        }

  -- ---- whole balances
  pub record GoodB (b : Bal) : Type 0 where
    pub nat : b.nanos ≡ pos (nat_abs b.nanos)
    pub low : nat_abs b.nanos < lim
    pub good : Tl.GoodT lim cap b.toks
    pub len : length b.toks ≤ cap

  pub no_good : 0 < lim → GoodB no_balance
  no_good h = record { nat = refl; low = h; good = tt; len = omega arith }

  amt_is : (l : Tokens) (t : TokenId) → GoodT l → amount_in l t ≡ pos (AN l t)
  amt_is l t g = (Tl.amt_nat lim cap l t g (has_dec l t)).is

  pos_inj : {a b : ℕ} → pos a ≡ pos b → a ≡ b
  pos_inj e = ap nat_abs e

  sum_nat : (b : Bal) (n : ℤ) → GoodB b → pos 0 ≤ℤ n → b.nanos +ℤ n ≡ pos (nat_abs b.nanos + nat_abs n)
  sum_nat b n G h = λ i. G.nat i +ℤ non_of n h i

  -- a difference that is there
  minus_nat : (x m y : ℕ) → y + m ≡ x → pos x -ℤ pos m ≡ pos y
  minus_nat x m y e = ap (λ z. pos z -ℤ pos m) (sym e) ∙ +ℤ-neg_ℤ_cancel (pos y) (pos m)

  minus_back : (x m y : ℕ) → pos y ≡ pos x -ℤ pos m → y + m ≡ x
  minus_back x m y e = pos_inj (ap (λ z. z +ℤ pos m) e ∙ -ℤ-+ℤ_cancel (pos x) (pos m))

  add_done : (b : Bal) (n : ℤ) (ts : Tokens) (b' : Bal) (X : Res Tokens) → GoodB b → Paid n ts → mag (b.nanos +ℤ n) < lim → Ba.add_tokens lim cap b.toks ts ≡ X
      → then_do X (λ l. done (record { nanos = b.nanos +ℤ n; toks = l })) ≡ done b' → GoodB b' × Pd.Grew Bal nano_of amount_of b n ts b'
  add_done b n ts b' (refused k) G R h a e = absurd (done≢refused (sym e))
  add_done b n ts b' (done l) G R h a e =
      let q : record { nanos = b.nanos +ℤ n; toks = l } ≡ b' = cc in
      let s = sum_nat b n G R.nonneg in
      let g = adds_ok ts b.toks l G.good G.len R.allpos a in
      subst (λ (x : Bal). GoodB x × Pd.Grew Bal nano_of amount_of b n ts x) q (
        record { nat = s ∙ ap pos (sym (ap nat_abs s)); low = omega (arith, ap nat_abs s, subst (λ (z : ℤ). mag z < lim) s h); good = g.good; len = g.len },
        record {
          nanoErgs = refl;
          amounts = λ t. amt_is l t g.good ∙ ap pos (g.sums t) ∙ (λ i. sym (amt_is b.toks t G.good) i +ℤ sym (sum_pos t ts R.allpos) i);
        },
      )

  pub add_ok : (b : Bal) (n : ℤ) (ts : Tokens) (b' : Bal) → GoodB b → Paid n ts → Ba.add lim cap b n ts ≡ done b' → GoodB b' × Pd.Grew Bal nano_of amount_of b n ts b'
  add_ok b n ts b' G R e =
      ite_cases (dec_lt (mag (b.nanos +ℤ n)) lim) (then_do (Ba.add_tokens lim cap b.toks ts) (λ l. done (record { nanos = b.nanos +ℤ n; toks = l }))) (refused 23) (done b') e
      (λ h a. add_done b n ts b' (Ba.add_tokens lim cap b.toks ts) G R h refl a) (λ h a. absurd (done≢refused (sym a)))

  -- what a debit of no more than is held gives
  record Cuts (b : Bal) (n : ℤ) (ts : Tokens) : Type 0 where
    left : Bal
    eq : Ba.sub lim cap b n ts ≡ done left
    good : GoodB left
    nano : nat_abs left.nanos + nat_abs n ≡ nat_abs b.nanos
    sums : (u : TokenId) → AN left.toks u + sum_n u ts ≡ AN b.toks u

  cut_bal : (b : Bal) (n : ℤ) (ts : Tokens) → GoodB b → Paid n ts → nat_abs n ≤ nat_abs b.nanos → ((u : TokenId) → sum_n u ts ≤ AN b.toks u) → Cuts b n ts
  cut_bal b n ts G R h k =
      let m : ℕ = nat_abs b.nanos - nat_abs n in
      let d : b.nanos -ℤ n ≡ pos m = (λ i. G.nat i -ℤ non_of n R.nonneg i) ∙ minus_nat (nat_abs b.nanos) (nat_abs n) m (omega arith) in
      let c = cuts ts b.toks G.good G.len R.allpos k in
      record {
        left = record { nanos = pos m; toks = c.left };
        eq = ite_yes (dec_lt (mag (b.nanos -ℤ n)) lim) (then_do (Ba.subtract_tokens lim cap b.toks ts) (λ l. done (record { nanos = stop0 (b.nanos -ℤ n); toks = l }))) (refused 23)
            (subst (λ (z : ℤ). mag z < lim) (sym d) (omega (arith, G.low)))
            ∙ ap (λ (X : Res Tokens). then_do X (λ l. done (record { nanos = stop0 (b.nanos -ℤ n); toks = l }))) c.eq
            ∙ ap (λ (z : ℤ). done (record { nanos = stop0 z; toks = c.left })) d;
        good = record { nat = refl; low = omega (arith, G.low); good = c.good; len = c.len };
        nano = omega arith;
        sums = c.sums;
      }

  shrank : (b : Bal) (n : ℤ) (ts : Tokens) (c : Bal) → GoodB b → GoodB c → Paid n ts → nat_abs c.nanos + nat_abs n ≡ nat_abs b.nanos → ((u : TokenId) → AN c.toks u + sum_n u ts ≡ AN b.toks u) → Pd.Shrank Bal nano_of amount_of b n ts c
  shrank b n ts c G C R h s = record {
    nanoErgs = C.nat ∙ sym (minus_nat (nat_abs b.nanos) (nat_abs n) (nat_abs c.nanos) h) ∙ (λ i. sym G.nat i -ℤ sym (non_of n R.nonneg) i);
    amounts = λ t. amt_is c.toks t C.good ∙ sym (minus_nat (AN b.toks t) (sum_n t ts) (AN c.toks t) (s t)) ∙ (λ i. sym (amt_is b.toks t G.good) i -ℤ sym (sum_pos t ts R.allpos) i);
  }

  le_nat : (a b : ℕ) → pos a ≤ℤ pos b → a ≤ b
  le_nat a b h = leb→le a b h.le

  pub sub_ok : (b : Bal) (n : ℤ) (ts : Tokens) (b' : Bal) → GoodB b → Paid n ts → n ≤ℤ nano_of b → ((t : TokenId) → sum_of t ts ≤ℤ amount_of b t) → Ba.sub lim cap b n ts ≡ done b' → GoodB b' × Pd.Shrank Bal nano_of amount_of b n ts b'
  sub_ok b n ts b' G R h k e =
      let c = cut_bal b n ts G R (le_nat (nat_abs n) (nat_abs b.nanos) (subst (λ (z : ℤ). z ≤ℤ pos (nat_abs b.nanos)) (non_of n R.nonneg) (subst (λ (z : ℤ). n ≤ℤ z) G.nat h)))
      (λ u. le_nat (sum_n u ts) (AN b.toks u) (subst (λ (z : ℤ). z ≤ℤ pos (AN b.toks u)) (sum_pos u ts R.allpos) (subst (λ (z : ℤ). sum_of u ts ≤ℤ z) (amt_is b.toks u G.good) (k u)))) in
      let q : c.left ≡ b' = cc (c.eq, e) in
      subst (λ (x : Bal). GoodB x × Pd.Shrank Bal nano_of amount_of b n ts x) q (c.good, shrank b n ts c.left G c.good R c.nano c.sums)

  alike : (a c : Bal) → GoodB a → GoodB c → nat_abs c.nanos ≡ nat_abs a.nanos → ((u : TokenId) → AN c.toks u ≡ AN a.toks u) → Pd.Alike Bal nano_of amount_of a c
  alike a c A C h s = record {
    nanoErgs = C.nat ∙ ap pos h ∙ sym A.nat;
    amounts = λ t. amt_is c.toks t C.good ∙ ap pos (s t) ∙ sym (amt_is a.toks t A.good);
  }

  -- the equations of a credit and of a debit, in natural numbers
  grew_nano : (a b : Bal) (n : ℤ) (ts : Tokens) → GoodB a → GoodB b → Paid n ts → Pd.Grew Bal nano_of amount_of a n ts b → nat_abs b.nanos ≡ nat_abs a.nanos + nat_abs n
  grew_nano a b n ts A B R g = pos_inj (sym B.nat ∙ g.nanoErgs ∙ sum_nat a n A R.nonneg)

  grew_sums : (a b : Bal) (n : ℤ) (ts : Tokens) → GoodB a → GoodB b → Paid n ts → Pd.Grew Bal nano_of amount_of a n ts b → (u : TokenId) → AN b.toks u ≡ AN a.toks u + sum_n u ts
  grew_sums a b n ts A B R g u = pos_inj (sym (amt_is b.toks u B.good) ∙ g.amounts u ∙ (λ i. amt_is a.toks u A.good i +ℤ sum_pos u ts R.allpos i))

  shrank_nano : (a b : Bal) (n : ℤ) (ts : Tokens) → GoodB a → GoodB b → Paid n ts → Pd.Shrank Bal nano_of amount_of a n ts b → nat_abs b.nanos + nat_abs n ≡ nat_abs a.nanos
  shrank_nano a b n ts A B R g = minus_back (nat_abs a.nanos) (nat_abs n) (nat_abs b.nanos) (sym B.nat ∙ g.nanoErgs ∙ (λ i. A.nat i -ℤ non_of n R.nonneg i))

  shrank_sums : (a b : Bal) (n : ℤ) (ts : Tokens) → GoodB a → GoodB b → Paid n ts → Pd.Shrank Bal nano_of amount_of a n ts b → (u : TokenId) → AN b.toks u + sum_n u ts ≡ AN a.toks u
  shrank_sums a b n ts A B R g u = minus_back (AN a.toks u) (sum_n u ts) (AN b.toks u) (sym (amt_is b.toks u B.good) ∙ g.amounts u ∙ (λ i. amt_is a.toks u A.good i -ℤ sum_pos u ts R.allpos i))

  pub sub_back : (b₀ : Bal) (n : ℤ) (ts : Tokens) (b : Bal) → GoodB b₀ → GoodB b → Paid n ts → Pd.Grew Bal nano_of amount_of b₀ n ts b → (b' : Bal) × (Ba.sub lim cap b n ts ≡ done b') × GoodB b' × Pd.Alike Bal nano_of amount_of b₀ b'
  sub_back b₀ n ts b A G R g =
      let c = cut_bal b n ts G R (omega (arith, grew_nano b₀ b n ts A G R g)) (λ u. omega (arith, grew_sums b₀ b n ts A G R g u)) in
      (c.left, c.eq, c.good, alike b₀ c.left A c.good (omega (arith, c.nano, grew_nano b₀ b n ts A G R g)) (λ u. omega (arith, c.sums u, grew_sums b₀ b n ts A G R g u)))

  pub add_back : (b₀ : Bal) (n : ℤ) (ts : Tokens) (b : Bal) → GoodB b₀ → GoodB b → Paid n ts → Pd.Shrank Bal nano_of amount_of b₀ n ts b → (b' : Bal) × (Ba.add lim cap b n ts ≡ done b') × GoodB b' × Pd.Alike Bal nano_of amount_of b₀ b'
  add_back b₀ n ts b A G R g =
      let s = sum_nat b n G R.nonneg in
      let z = shrank_nano b₀ b n ts A G R g in
      let c = backs b₀.toks A.good A.len ts b.toks G.good G.len R.allpos (shrank_sums b₀ b n ts A G R g) in
      let C : GoodB (record { nanos = b.nanos +ℤ n; toks = c.left }) = record { nat = s ∙ ap pos (sym (ap nat_abs s)); low = omega (arith, ap nat_abs s, z, A.low); good = c.good; len = c.len } in (
        record { nanos = b.nanos +ℤ n; toks = c.left },
        ite_yes (dec_lt (mag (b.nanos +ℤ n)) lim) (then_do (Ba.add_tokens lim cap b.toks ts) (λ l. done (record { nanos = b.nanos +ℤ n; toks = l }))) (refused 23) (subst (λ (y : ℤ). mag y < lim) (sym s) (omega (arith, z, A.low)))
            ∙ ap (λ (X : Res Tokens). then_do X (λ l. done (record { nanos = b.nanos +ℤ n; toks = l }))) c.eq,
        C,
        alike b₀ (record { nanos = b.nanos +ℤ n; toks = c.left }) A C (ap nat_abs s ∙ z) c.sums,
      )
