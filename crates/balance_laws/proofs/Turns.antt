-- A token added or subtracted, and a run of tokens, do what the ledger's balance does.
use Rattle.ledger.specs.Ledger.{amount_in}
use Rattle.ledger.proofs.TestLaws.{ite_yes, ite_no}
use Prim.Native.Nat.{ℕ, zero, suc, ◌+◌, ◌*◌, ◌-◌, ◌≤◌, ◌<◌}
use mathlib.Core.Path.{◌≡◌, refl, sym, ap, subst, ◌∙◌}
use mathlib.Core.Logic.{◌⊎◌, inl, inr}
use mathlib.Core.Bool.{Bool, true, false, cond}
use mathlib.Core.List.{List, [], ◌∷◌, ◌++◌, append_assoc}
use native.Mathlib.Omega.{arith}
use native.Mathlib.Numerals.{add-one}
use native.Mathlib.Decide.{dec_lt}
use lib.IntN.{ℤ, pos, negsuc, neg_ℤ, ◌+ℤ◌, ◌-ℤ◌, +ℤ_idl}
use lib.Signed.{mag, le_z}
use lib.ListN.{length, get_or, take, drop, set, length-set, length-append}
use lib.Seq.{take_at, drop_at, get_or_at}
use lib.Dec.{ltb, leb}
use borrow.Author.Tests.{lt-ltb, le-ltb, ltb-true, ltb-false, lt-leb}
use Rattle.std.specs.Prelude.{Some, None}
use Rattle.signed.specs.Checked.{checked}
use Rattle.stores.specs.Stores.{write}
use Rattle.stores.proofs.StoreLaws.{length_write}
use Rattle.balance.specs.Tokens.{Held, Changed, held, refused_by, id_at, place_of, with_amount, with_token, without_token, sum_at, add_token, difference_at, subtract_token, and_then, change_token, change_tokens}
use Rattle.ledger.specs.Ledger.{TokenId, Tokens, Typed, ite, id_dec}
use Rattle.ledger.specs.Run.{Res, done, refused}
use Rattle.fork_model.proofs.Balances as Ba
use Rattle.fork_model.proofs.Store.{then_do}
use Rattle.fork_model.proofs.Search.{done≢refused}
use Rattle.balance_laws.specs.Calls.{tokens_from, ids_of, amounts_of}
use Rattle.balance_laws.proofs.View.{has_place, not_place, place_most, amt_place, length_tokens, set_place, last_token, gone_token, ids_length, amounts_length}

abbrev pub limit : ℕ
limit = 9223372036854775808

abbrev pub tokens_of : Held → Tokens
tokens_of h = tokens_from h.ids h.amounts 0 h.count

-- a balance has 128 places
pub record Fits (h : Held) : Type 0 where
  pub few : h.count ≤ 128
  pub ids_in : length h.ids ≡ 4096
  pub amounts_in : length h.amounts ≡ 128

-- what is held afterwards are the ledger's tokens, or both refuse; the places stay
abbrev pub Does : Changed → Res Tokens → Type 0
Does (held h) Y = (done (tokens_of h) ≡ Y) × Fits h
Does (refused_by code) Y = refused code ≡ Y

to : (x : Changed) {Y Z : Res Tokens} → Does x Y → Y ≡ Z → Does x Z
to (held h) d z = (d.0 ∙ z, d.1)
to (refused_by code) d z = d ∙ z

-- a test of naturals, as the ledger's balance makes it
pub ite_lt : {A : Type 0} (m n : ℕ) (w : Dec (m < n)) (a b : A) → ite w a b ≡ cond (ltb m n) a b
unfolding ite
ite_lt m n (yes e) a b = rw (lt-ltb m n e)
ite_lt m n (no e) a b = rw (le-ltb m n (omega arith))

no_amt : (l : Tokens) (key : TokenId) → (Ba.Has l key → ⊥) → amount_in l key ≡ pos 0
no_amt [] key n = refl
no_amt (u ∷ us) key n = ite_no (id_dec u.0 key) u.1 (amount_in us key) (λ e. n (inl e)) ∙ no_amt us key (λ e. n (inr e))

module _ (h : Held) (I : Fits h) (key : List ℕ) (kl : length key ≡ 32) (v : ℤ) where
  abbrev l : Tokens
  l = tokens_of h

  abbrev at : ℕ
  at = place_of key h.ids h.count

  has : at < h.count → Ba.Has l key
  has g = has_place key h.ids h.amounts h.count 0 (omega arith)

  hasn't : h.count ≤ at → Ba.Has l key → ⊥
  hasn't g = not_place key h.ids h.amounts h.count 0 (omega arith)

  amt_at : at < h.count → amount_in l key ≡ get_or h.amounts at (pos 0)
  amt_at g = amt_place key h.ids h.amounts h.count 0 (omega arith)

  -- the amount at the id's place is set
  set_does : at < h.count → (x : ℤ) → Does (held (with_amount h at x)) (done (Ba.set_token l key x))
  set_does g x = (
    ap done (set_place key h.ids h.amounts x h.count 0 (omega (arith, I.amounts_in, I.few)) (omega arith)),
    record { few = I.few; ids_in = I.ids_in; amounts_in = length-set h.amounts at x ∙ I.amounts_in },
  )

  by_sum : at < h.count → (x : ℤ) (t : Bool) → Does (sum_at h at (cond t (Some x) None)) (cond t (done (Ba.set_token l key x)) (refused 23))
  by_sum g x true = set_does g x
  by_sum g x false = refl

  by_new : h.count ≤ at → (t : Bool) → ltb h.count 128 ≡ t → Does (cond t (held (with_token h key v)) (refused_by 24)) (cond t (done (l ++ ((key, v) ∷ []))) (refused 24))
  by_new g true e =
      let c = ltb-true h.count 128 e in (
        ap done (ap (λ (m : ℕ). tokens_from (write (h.count * 32) key h.ids) (set h.amounts h.count v) 0 m) (add-one h.count)
            ∙ last_token h.ids h.count key (omega (arith, I.ids_in)) kl h.amounts v (omega (arith, I.amounts_in)) h.count 0 (omega arith)),
        record {
          few = omega arith;
          ids_in = length_write (h.count * 32) key h.ids (omega (arith, I.ids_in)) ∙ I.ids_in;
          amounts_in = length-set h.amounts h.count v ∙ I.amounts_in;
        },
      )
  by_new g false e = refl

  abbrev adding : Res Tokens
  adding = ite (Ba.has_dec l key) (done (Ba.set_token l key (amount_in l key +ℤ v))) (ite (dec_lt (length l) 128) (done (l ++ ((key, v) ∷ []))) (refused 24))

  by_place : mag v < limit → (t : Bool) → ltb at h.count ≡ t
      → Does (cond t (sum_at h at (checked (get_or h.amounts at (pos 0) +ℤ v))) (cond (ltb h.count 128) (held (with_token h key v)) (refused_by 24))) (Ba.token_added limit 128 l key v)
  unfolding checked
  by_place f true e =
      let g = ltb-true at h.count e in
      let x : ℤ = get_or h.amounts at (pos 0) +ℤ v in
      to (sum_at h at (cond (ltb (mag x) limit) (Some x) None)) (by_sum g x (ltb (mag x) limit))
      (ap (λ (a : ℤ). cond (ltb (mag (a +ℤ v)) limit) (done (Ba.set_token l key (a +ℤ v))) (refused 23)) (sym (amt_at g))
      ∙ sym (ite_lt (mag (amount_in l key +ℤ v)) limit (dec_lt (mag (amount_in l key +ℤ v)) limit) adding (refused 23)
      ∙ ap (λ (x : Res Tokens). cond (ltb (mag (amount_in l key +ℤ v)) limit) x (refused 23)) (ite_yes (Ba.has_dec l key) _ _ (has g))))
  by_place f false e =
      let g = ltb-false at h.count e in
      let z : amount_in l key +ℤ v ≡ v = ap (λ (a : ℤ). a +ℤ v) (no_amt l key (hasn't g)) ∙ +ℤ_idl v in
      to (cond (ltb h.count 128) (held (with_token h key v)) (refused_by 24)) (by_new g (ltb h.count 128) refl)
      (ap (λ (m : ℕ). cond (ltb m 128) (done (l ++ ((key, v) ∷ []))) (refused 24)) (sym (length_tokens h.ids h.amounts h.count 0))
      ∙ sym (ite_yes (dec_lt (mag (amount_in l key +ℤ v)) limit) adding (refused 23) (rw z f)
      ∙ ite_no (Ba.has_dec l key) _ _ (hasn't g)
      ∙ ite_lt (length l) 128 (dec_lt (length l) 128) (done (l ++ ((key, v) ∷ []))) (refused 24)))

  pub add_does : mag v < limit → Does (add_token h key v) (Ba.token_added limit 128 l key v)
  unfolding add_token
  add_does f = by_place f (ltb at h.count) refl

  -- a token at 0 or below leaves
  gone : at < h.count → Does (held (without_token h at)) (done (Ba.drop_token l key))
  gone g = (
    ap done (gone_token h.ids h.amounts at h.count I.ids_in I.amounts_in I.few g key refl),
    record {
      few = omega (arith, I.few);
      ids_in = ids_length h.ids h.amounts at h.count I.ids_in I.amounts_in I.few g ∙ I.ids_in;
      amounts_in = amounts_length h.ids h.amounts at h.count I.ids_in I.amounts_in I.few g ∙ I.amounts_in;
    },
  )

  by_left : at < h.count → (x : ℤ) → Does (held (cond (le_z x (pos 0)) (without_token h at) (with_amount h at x))) (done (Ba.shrink l key x))
  by_left g (pos zero) = gone g
  by_left g (negsuc n) = gone g
  by_left g (pos (suc n)) = rw (lt-leb (suc n) 0 (omega arith)) (set_does g (pos (suc n)))

  by_difference : at < h.count → (x : ℤ) (t : Bool) → Does (difference_at h at (cond t (Some x) None)) (cond t (done (Ba.shrink l key x)) (refused 23))
  by_difference g x true = by_left g x
  by_difference g x false = refl

  by_place_sub : (t : Bool) → ltb at h.count ≡ t
      → Does (cond t (difference_at h at (checked (get_or h.amounts at (pos 0) -ℤ v))) (held h)) (Ba.token_taken limit 128 l key v)
  unfolding checked
  by_place_sub true e =
      let g = ltb-true at h.count e in
      let x : ℤ = get_or h.amounts at (pos 0) -ℤ v in
      to (difference_at h at (cond (ltb (mag x) limit) (Some x) None)) (by_difference g x (ltb (mag x) limit))
      (ap (λ (a : ℤ). cond (ltb (mag (a -ℤ v)) limit) (done (Ba.shrink l key (a -ℤ v))) (refused 23)) (sym (amt_at g))
      ∙ sym (ite_yes (Ba.has_dec l key) _ _ (has g)
      ∙ ite_lt (mag (amount_in l key -ℤ v)) limit (dec_lt (mag (amount_in l key -ℤ v)) limit) (done (Ba.shrink l key (amount_in l key -ℤ v))) (refused 23)))
  by_place_sub false e =
      let g = ltb-false at h.count e in
      (sym (ite_no (Ba.has_dec l key) _ _ (hasn't g)), I)

  pub subtract_does : Does (subtract_token h key v) (Ba.token_taken limit 128 l key v)
  unfolding subtract_token
  subtract_does = by_place_sub (ltb at h.count) refl

-- ---- a run of tokens

then_does : (x : Changed) (Y : Res Tokens) (more : Held → Changed) (run : Tokens → Res Tokens) → Does x Y → ((g : Held) → Fits g → Does (more g) (run (tokens_of g)))
    → Does (and_then x more) (then_do Y run)
then_does (held g) Y more run d f = to (more g) (f g d.1) (ap (λ (y : Res Tokens). then_do y run) d.0)
then_does (refused_by code) Y more run d f = ap (λ (y : Res Tokens). then_do y run) d

id_of : (pre name rest : List ℕ) (j : ℕ) → length pre ≡ j * 32 → length name ≡ 32 → id_at (pre ++ (name ++ rest)) j ≡ name
id_of pre name rest j e f = ap (take 32) (drop_at pre (name ++ rest) (j * 32) e) ∙ take_at name rest 32 f

module _ (adds : Bool) (run : Tokens → Tokens → Res Tokens) (one : Tokens → TokenId → ℤ → Res Tokens)
    (run_none : (l : Tokens) → run l [] ≡ done l)
    (run_more : (l : Tokens) (x : TokenId × ℤ) (ts : Tokens) → run l (x ∷ ts) ≡ then_do (one l x.0 x.1) (λ k. run k ts))
    (steps : (h : Held) (key : List ℕ) (v : ℤ) → Fits h → length key ≡ 32 → mag v < limit → Does (change_token adds h key v) (one (tokens_of h) key v)) where
  pub run_does : (ts : Tokens) (pre : List ℕ) (front : List ℤ) (j : ℕ) → length pre ≡ j * 32 → length front ≡ j → Typed ts → (h : Held) → Fits h
      → Does (change_tokens adds (pre ++ ids_of ts) (front ++ amounts_of ts) j (length ts) h) (run (tokens_of h) ts)
  unfolding change_tokens
  run_does [] pre front j e f t h I = (sym (run_none (tokens_of h)), I)
  run_does (x ∷ ts) pre front j e f t h I =
      let ids : List ℕ = pre ++ (x.0 ++ ids_of ts) in
      let ams : List ℤ = front ++ (x.1 ∷ amounts_of ts) in
      let p : id_at ids j ≡ x.0 = id_of pre x.0 (ids_of ts) j e t.0 in
      let q : get_or ams j (pos 0) ≡ x.1 = get_or_at front x.1 (amounts_of ts) (pos 0) j f in
      let a : (pre ++ x.0) ++ ids_of ts ≡ ids = append_assoc pre x.0 (ids_of ts) in
      let c : (front ++ x.1 ∷ []) ++ amounts_of ts ≡ ams = append_assoc front (x.1 ∷ []) (amounts_of ts) in
      let n : length (pre ++ x.0) ≡ suc j * 32 = omega (arith, length-append pre x.0, t.0) in
      let m : length (front ++ x.1 ∷ []) ≡ suc j = omega (arith, length-append front (x.1 ∷ [])) in
      let D : Does (change_token adds h x.0 x.1) (one (tokens_of h) x.0 x.1) = steps h x.0 x.1 I t.0 t.1 in
      rw (p, q) (to (and_then (change_token adds h x.0 x.1) (λ g. change_tokens adds ids ams (suc j) (length ts) g))
      (then_does (change_token adds h x.0 x.1) (one (tokens_of h) x.0 x.1) (λ g. change_tokens adds ids ams (suc j) (length ts) g) (λ k. run k ts) D
      (λ g J. rw (← a, ← c) (run_does ts (pre ++ x.0) (front ++ x.1 ∷ []) (suc j) n m t.2 g J)))
      (sym (run_more (tokens_of h) x ts)))
