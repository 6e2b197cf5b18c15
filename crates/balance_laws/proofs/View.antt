-- What is held as a list of tokens: a place that holds an id, and the list after an amount is set, a token goes last, or a token leaves.
use Rattle.ledger.specs.Ledger.{amount_in}
use Prim.Native.Nat.{ℕ, zero, suc, ◌+◌, ◌-◌, ◌*◌, ◌<◌, ◌≤◌}
use native.Mathlib.Nat.{le_refl, lt_irrefl}
use native.Mathlib.Omega.{arith}
use mathlib.Core.Logic.{◌⊎◌, inl, inr}
use mathlib.Core.Bool.{Bool, true, false, cond}
use mathlib.Core.Path.{◌≡◌, refl, subst, sym, ap, ◌∙◌}
use mathlib.Core.List.{List, [], ◌∷◌, ◌++◌}
use lib.ListN.{length, get_or, set}
use lib.Seq.{get_or-set_same, get_or-set_other, ext_get_or}
use lib.IntN.{ℤ, pos}
use Rattle.stores.specs.Stores.{write}
use Rattle.stores.specs.Equal.{same_bytes}
use Rattle.stores.proofs.EqualLaws.{same_refl, same_true}
use Rattle.stores.proofs.StoreLaws.{length_write, length_part, part_at}
use Rattle.balance.specs.Tokens.{id_at, place_from, place_of, closed_up}
use Rattle.balance_tokens.proofs.CloseLaws.{write_before, write_in, closed_length, closed_lo, closed_hi}
use Rattle.ledger.specs.Ledger.{TokenId, Tokens, ite, id_dec}
use Rattle.fork_model.proofs.Balances as Ba
use Rattle.balance_laws.specs.Calls.{tokens_from}

clash : (t : Bool) → t ≡ true → t ≡ false → ⊥
clash t e f = let z : ◌≡◌ {A = ℕ} 0 1 = cc in omega arith

-- the ledger's test of ids is equality of bytes
pub ite_same : {A : Type 0} (x y : TokenId) (w : Dec (x ≡ y)) (a b : A) → ite w a b ≡ cond (same_bytes x y) a b
unfolding ite
ite_same x y (yes e) a b = rw (e, same_refl y)
ite_same {A} x y (no n) a b = by_test (same_bytes x y) refl
  where
    by_test : (t : Bool) → same_bytes x y ≡ t → b ≡ cond t a b
    by_test true e = absurd (n (same_true x y e))
    by_test false e = refl

-- ---- the place of an id

module _ (key ids : List ℕ) (ams : List ℤ) where
  abbrev T : ℕ → ℕ → Tokens
  T i n = tokens_from ids ams i n

  place_ge_by : (i q : ℕ) (s : Bool) → i ≤ q → i ≤ cond s i q
  place_ge_by i q true h = le_refl i
  place_ge_by i q false h = h

  pub place_ge : (i n : ℕ) → i ≤ place_from key ids i n
  unfolding place_from
  place_ge i zero = le_refl i
  place_ge i (suc n) = let h = place_ge (suc i) n in place_ge_by i (place_from key ids (suc i) n) (same_bytes (id_at ids i) key) (omega arith)

  pub place_most : (n i : ℕ) → place_from key ids i n ≤ i + n
  unfolding place_from
  place_most zero i = omega arith
  place_most (suc n) i = by_test (same_bytes (id_at ids i) key) (place_most n (suc i))
    where
      by_test : (s : Bool) → place_from key ids (suc i) n ≤ suc i + n → cond s i (place_from key ids (suc i) n) ≤ i + suc n
      by_test true h = omega arith
      by_test false h = omega arith

  has_by : (i n q : ℕ) (s : Bool) → same_bytes (id_at ids i) key ≡ s → (q < suc i + n → Ba.Has (T (suc i) n) key) → cond s i q < i + suc n
      → Ba.Has ((id_at ids i, get_or ams i (pos 0)) ∷ T (suc i) n) key
  has_by i n q true e f h = inl (same_true (id_at ids i) key e)
  has_by i n q false e f h = inr (f (omega arith))

  pub has_place : (n i : ℕ) → place_from key ids i n < i + n → Ba.Has (T i n) key
  unfolding place_from
  has_place zero i h = absurd (omega arith)
  has_place (suc n) i h = has_by i n (place_from key ids (suc i) n) (same_bytes (id_at ids i) key) refl (has_place n (suc i)) h

  not_by : (i n q : ℕ) (s : Bool) → same_bytes (id_at ids i) key ≡ s → (suc i + n ≤ q → Ba.Has (T (suc i) n) key → ⊥) → i + suc n ≤ cond s i q
      → Ba.Has ((id_at ids i, get_or ams i (pos 0)) ∷ T (suc i) n) key → ⊥
  not_by i n q true e f h x = omega arith
  not_by i n q false e f h (inl x) = clash (same_bytes (id_at ids i) key) (rw x (same_refl key)) e
  not_by i n q false e f h (inr x) = f (omega arith) x

  pub not_place : (n i : ℕ) → i + n ≤ place_from key ids i n → Ba.Has (T i n) key → ⊥
  unfolding place_from
  not_place zero i h x = x
  not_place (suc n) i h x = not_by i n (place_from key ids (suc i) n) (same_bytes (id_at ids i) key) refl (not_place n (suc i)) h x

  amt_by : (i n q : ℕ) (s : Bool) → (q < suc i + n → amount_in (T (suc i) n) key ≡ get_or ams q (pos 0)) → cond s i q < i + suc n
      → cond s (get_or ams i (pos 0)) (amount_in (T (suc i) n) key) ≡ get_or ams (cond s i q) (pos 0)
  amt_by i n q true f h = refl
  amt_by i n q false f h = f (omega arith)

  pub amt_place : (n i : ℕ) → place_from key ids i n < i + n → amount_in (T i n) key ≡ get_or ams (place_from key ids i n) (pos 0)
  unfolding place_from
  amt_place zero i h = absurd (omega arith)
  amt_place (suc n) i h =
      ite_same (id_at ids i) key (id_dec (id_at ids i) key) (get_or ams i (pos 0)) (amount_in (T (suc i) n) key)
      ∙ amt_by i n (place_from key ids (suc i) n) (same_bytes (id_at ids i) key) (amt_place n (suc i)) h

pub length_tokens : (ids : List ℕ) (ams : List ℤ) (n i : ℕ) → length (tokens_from ids ams i n) ≡ n
length_tokens ids ams zero i = refl
length_tokens ids ams (suc n) i = ap suc (length_tokens ids ams n (suc i))

-- ---- an amount is set

tokens_below : (ids : List ℕ) (ams : List ℤ) (p : ℕ) (w : ℤ) (i n : ℕ) → p < i → tokens_from ids (set ams p w) i n ≡ tokens_from ids ams i n
tokens_below ids ams p w i zero h = refl
tokens_below ids ams p w i (suc n) h =
    let o = get_or-set_other ams p i w (pos 0) (λ q. lt_irrefl p (subst (λ (x : ℕ). p < x) q h)) in
    rw (o, tokens_below ids ams p w (suc i) n (omega arith))

module _ (key ids : List ℕ) (ams : List ℤ) (w : ℤ) where
  set_by : (i n q : ℕ) (s : Bool) → same_bytes (id_at ids i) key ≡ s → i < length ams → cond s i q < i + suc n → suc i ≤ q
      → (q < suc i + n → tokens_from ids (set ams q w) (suc i) n ≡ Ba.set_token (tokens_from ids ams (suc i) n) key w)
      → tokens_from ids (set ams (cond s i q) w) i (suc n)
      ≡ cond s ((key, w) ∷ tokens_from ids ams (suc i) n) ((id_at ids i, get_or ams i (pos 0)) ∷ Ba.set_token (tokens_from ids ams (suc i) n) key w)
  set_by i n q true e h g k ih =
      rw (get_or-set_same ams i w (pos 0) h, tokens_below ids ams i w (suc i) n (omega arith)) (ap (λ (x : TokenId). (x, w) ∷ tokens_from ids ams (suc i) n) (same_true (id_at ids i) key e))
  set_by i n q false e h g k ih = rw (get_or-set_other ams q i w (pos 0) (λ r. lt_irrefl q (subst (λ (x : ℕ). x < q) r k)), ih (omega arith))

  pub set_place : (n i : ℕ) → i + n ≤ length ams → place_from key ids i n < i + n
      → tokens_from ids (set ams (place_from key ids i n) w) i n ≡ Ba.set_token (tokens_from ids ams i n) key w
  unfolding place_from
  set_place zero i h g = absurd (omega arith)
  set_place (suc n) i h g =
      set_by i n (place_from key ids (suc i) n) (same_bytes (id_at ids i) key) refl (omega arith) g (place_ge key ids ams (suc i) n) (set_place n (suc i) (omega arith))
      ∙ sym (ite_same (id_at ids i) key (id_dec (id_at ids i) key) ((key, w) ∷ tokens_from ids ams (suc i) n) ((id_at ids i, get_or ams i (pos 0)) ∷ Ba.set_token (tokens_from ids ams (suc i) n) key w))

-- ---- ids of a list that was written to

-- two places hold the same id where their bytes are the same
id_ext : (a b : List ℕ) (i j : ℕ) → i * 32 + 32 ≤ length a → j * 32 + 32 ≤ length b → ((k : ℕ) → k < 32 → get_or a (i * 32 + k) 0 ≡ get_or b (j * 32 + k) 0)
    → id_at a i ≡ id_at b j
id_ext a b i j h g f =
    let n = length_part (i * 32) 32 a h in
    let m = length_part (j * 32) 32 b g in
    ext_get_or 0 (id_at a i) (id_at b j) (n ∙ sym m) (λ k u. let w : k < 32 = omega arith in part_at (i * 32) 32 k a 0 w ∙ f k w ∙ sym (part_at (j * 32) 32 k b 0 w))

-- ---- a token goes last

module _ (ids : List ℕ) (n : ℕ) (key : List ℕ) (h : n * 32 + 32 ≤ length ids) (kl : length key ≡ 32) where
  written : length (write (n * 32) key ids) ≡ length ids
  written = length_write (n * 32) key ids (omega arith)

  id_before : (i : ℕ) → i < n → id_at (write (n * 32) key ids) i ≡ id_at ids i
  id_before i u =
      let e = written in
      id_ext (write (n * 32) key ids) ids i i (omega arith) (omega arith) (λ k w. write_before (n * 32) key ids 0 (omega arith) (i * 32 + k) (omega arith))

  id_new : id_at (write (n * 32) key ids) n ≡ key
  id_new =
      let e = written in
      let l = length_part (n * 32) 32 (write (n * 32) key ids) (omega arith) in
      ext_get_or 0 (id_at (write (n * 32) key ids) n) key (l ∙ sym kl) (λ k u.
      let w : k < 32 = omega arith in
      part_at (n * 32) 32 k (write (n * 32) key ids) 0 w ∙ write_in (n * 32) key ids 0 (omega arith) k (omega arith))

  pub last_token : (ams : List ℤ) (v : ℤ) → n < length ams → (m i : ℕ) → i + m ≡ n
      → tokens_from (write (n * 32) key ids) (set ams n v) i (suc m) ≡ tokens_from ids ams i m ++ ((key, v) ∷ [])
  last_token ams v g zero i e =
      let q : i ≡ n = omega arith in
      rw (q, id_new, get_or-set_same ams n v (pos 0) g)
  last_token ams v g (suc m) i e =
      let o : i < n = omega arith in
      rw (id_before i o, get_or-set_other ams n i v (pos 0) (λ q. lt_irrefl i (subst (λ (x : ℕ). i < x) (sym q) o)))
      (ap (λ (ts : Tokens). (id_at ids i, get_or ams i (pos 0)) ∷ ts) (last_token ams v g m (suc i) (omega arith)))

-- ---- a place that leaves: R and S are ids and ams without place p of n

module _ (ids R : List ℕ) (ams S : List ℤ) (p n : ℕ)
    (id_lo : (i : ℕ) → i < p → id_at R i ≡ id_at ids i) (id_hi : (i : ℕ) → p ≤ i → suc i < n → id_at R i ≡ id_at ids (suc i))
    (am_lo : (i : ℕ) → i < p → get_or S i (pos 0) ≡ get_or ams i (pos 0)) (am_hi : (i : ℕ) → p ≤ i → suc i < n → get_or S i (pos 0) ≡ get_or ams (suc i) (pos 0)) where
  moved_up : (m i : ℕ) → p ≤ i → i + suc m ≡ n → tokens_from R S i m ≡ tokens_from ids ams (suc i) m
  moved_up zero i h e = refl
  moved_up (suc m) i h e = rw (id_hi i h (omega arith), am_hi i h (omega arith), moved_up m (suc i) (omega arith) (omega arith))

  drop_by : (key : List ℕ) (m i q : ℕ) (s : Bool) → cond s i q ≡ p → p < n → i + suc m ≡ n → suc i ≤ q
      → ((k : ℕ) → m ≡ suc k → q ≡ p → tokens_from R S (suc i) k ≡ Ba.drop_token (tokens_from ids ams (suc i) (suc k)) key)
      → tokens_from R S i m ≡ cond s (tokens_from ids ams (suc i) m) ((id_at ids i, get_or ams i (pos 0)) ∷ Ba.drop_token (tokens_from ids ams (suc i) m) key)
  drop_by key m i q true e h f g ih = moved_up m i (omega arith) f
  drop_by key zero i q false e h f g ih = absurd (lt_irrefl p (omega arith))
  drop_by key (suc m) i q false e h f g ih = rw (id_lo i (omega arith), am_lo i (omega arith), ih m refl e)

  pub drop_place : (key : List ℕ) (m i : ℕ) → place_from key ids i (suc m) ≡ p → p < n → i + suc m ≡ n
      → tokens_from R S i m ≡ Ba.drop_token (tokens_from ids ams i (suc m)) key
  unfolding place_from
  drop_place key zero i e h f =
      drop_by key zero i (place_from key ids (suc i) zero) (same_bytes (id_at ids i) key) e h f (place_ge key ids ams (suc i) zero) (λ k z. absurd (omega arith))
      ∙ sym (ite_same (id_at ids i) key (id_dec (id_at ids i) key) (tokens_from ids ams (suc i) zero) ((id_at ids i, get_or ams i (pos 0)) ∷ Ba.drop_token (tokens_from ids ams (suc i) zero) key))
  drop_place key (suc m) i e h f =
      drop_by key (suc m) i (place_from key ids (suc i) (suc m)) (same_bytes (id_at ids i) key) e h f (place_ge key ids ams (suc i) (suc m))
      (λ k z w. let y : k ≡ m = omega arith in rw y (drop_place key m (suc i) w h (omega arith)))
      ∙ sym (ite_same (id_at ids i) key (id_dec (id_at ids i) key) (tokens_from ids ams (suc i) (suc m)) ((id_at ids i, get_or ams i (pos 0)) ∷ Ba.drop_token (tokens_from ids ams (suc i) (suc m)) key))

-- ---- the lists of `closed_up` are such

module _ (ids : List ℕ) (ams : List ℤ) (p n : ℕ) (li : length ids ≡ 4096) (la : length ams ≡ 128) (c : n ≤ 128) (h : p < n) where
  abbrev R : List ℕ
  R = closed_up 32 0 p n ids

  abbrev S : List ℤ
  S = closed_up 1 (pos 0) p n ams

  pub ids_length : length R ≡ length ids
  ids_length = closed_length 32 p n 0 ids (p * 32) ((p + 1) * 32) ((n - (p + 1)) * 32) refl refl refl (omega arith) (omega arith)

  pub amounts_length : length S ≡ length ams
  amounts_length = closed_length 1 p n (pos 0) ams p (p + 1) (n - (p + 1)) (omega arith) (omega arith) (omega arith) (omega arith) (omega arith)

  ids_lo : (i : ℕ) → i < p → id_at R i ≡ id_at ids i
  ids_lo i u =
      let e = ids_length in
      id_ext R ids i i (omega arith) (omega arith) (λ k w. closed_lo 32 p n 0 ids (p * 32) ((p + 1) * 32) ((n - (p + 1)) * 32) refl refl refl (omega arith) (omega arith) (i * 32 + k) (omega arith))

  ids_hi : (i : ℕ) → p ≤ i → suc i < n → id_at R i ≡ id_at ids (suc i)
  ids_hi i u w =
      let e = ids_length in
      id_ext R ids i (suc i) (omega arith) (omega arith) (λ k x.
      let a : i * 32 + k ≡ p * 32 + ((i - p) * 32 + k) = omega arith in
      let b : (p + 1) * 32 + ((i - p) * 32 + k) ≡ suc i * 32 + k = omega arith in
      ap (λ (y : ℕ). get_or R y 0) a
      ∙ closed_hi 32 p n 0 ids (p * 32) ((p + 1) * 32) ((n - (p + 1)) * 32) refl refl refl (omega arith) (omega arith) ((i - p) * 32 + k) (omega arith)
      ∙ ap (λ (y : ℕ). get_or ids y 0) b)

  amounts_lo : (i : ℕ) → i < p → get_or S i (pos 0) ≡ get_or ams i (pos 0)
  amounts_lo i u = closed_lo 1 p n (pos 0) ams p (p + 1) (n - (p + 1)) (omega arith) (omega arith) (omega arith) (omega arith) (omega arith) i u

  amounts_hi : (i : ℕ) → p ≤ i → suc i < n → get_or S i (pos 0) ≡ get_or ams (suc i) (pos 0)
  amounts_hi i u w =
      let a : i ≡ p + (i - p) = omega arith in
      let b : p + 1 + (i - p) ≡ suc i = omega arith in
      ap (λ (y : ℕ). get_or S y (pos 0)) a
      ∙ closed_hi 1 p n (pos 0) ams p (p + 1) (n - (p + 1)) (omega arith) (omega arith) (omega arith) (omega arith) (omega arith) (i - p) (omega arith)
      ∙ ap (λ (y : ℕ). get_or ams y (pos 0)) b

  pub gone_token : (key : List ℕ) → place_of key ids n ≡ p → tokens_from R S 0 (n - 1) ≡ Ba.drop_token (tokens_from ids ams 0 n) key
  gone_token key e =
      let q : n ≡ suc (n - 1) = omega arith in
      drop_place ids R ams S p n ids_lo ids_hi amounts_lo amounts_hi key (n - 1) 0 (ap (place_from key ids 0) (sym q) ∙ e) h (omega arith)
      ∙ ap (λ (m : ℕ). Ba.drop_token (tokens_from ids ams 0 m) key) (sym q)
