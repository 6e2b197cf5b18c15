-- What is read is the item of the definition, its parent is one of so many, and its bytes are there.
use Prim.Native.Nat.{ℕ, ◌+◌, ◌*◌, ◌-◌, ◌/◌, ◌≤◌, ◌<◌}
use mathlib.Core.Path.{◌≡◌, refl, sym, ap, ◌∙◌}
use mathlib.Core.Bool.{Bool, true, false, cond}
use mathlib.Core.List.{List}
use native.Mathlib.Omega.{arith}
use lib.Dec.{eqb, leb, ltb}
use lib.IntN.{ℤ}
use lib.ListN.{length}
use borrow.Author.Tests.{leb-false, ltb-false, eqb-true}
use Rattle.segment_id.specs.declared.Kind.TheVariants.{Box, Tx}
use Rattle.ledger.specs.Calls.{credit, debit}
use Rattle.ledger.specs.Run.{call}
use Rattle.driver_core.specs.Bytes.{Item, is, bad, cut, end, tokens_at, is_change, kind_at, parent_at, value_in, tokens_told, size_at, taking, plain, with_tokens, headed, item_at, Journal, newest}
use Rattle.driver_calls.specs.declared.Read.{Read}
use Rattle.driver_calls.specs.declared.Read.TheVariants.{Append, Spend, Unspend, Pop, Flush, Change, Bad, Cut, End}
use Rattle.driver_calls.specs.Reads.{item_of, taking_read, plain_read, headed_read, read_at, newest_read, end_of, is_call, Sound}

-- what holds where a test is true and where it is false
either : {A : Type 0} (P : A → Type 0) (b : Bool) {x y : A} → (b ≡ true → P x) → (b ≡ false → P y) → P (cond b x y)
either P true f g = f refl
either P false f g = g refl

-- a credit or a debit of read numbers
pub change_same : {adding : Bool} {p t k : ℕ} {n : ℤ} (p' k' : ℕ) (n' : ℤ) → p' ≡ p → n' ≡ n → k' ≡ k → Change adding p' n' t k' ≡ Change adding p n t k
change_same {adding} {p} {t} p' k' n' e f g = λ i. Change adding (e i) (f i) t (g i)

-- no kind of 1 to 3
pub plain_taken : (kind p : ℕ) (n : ℤ) → eqb kind 1 ≡ false → eqb kind 2 ≡ false → eqb kind 3 ≡ false → taking_read kind p n ≡ plain_read kind p n
plain_taken kind p n e f g = sym (λ i. cond (e i) (Append Box p n) (cond (f i) (Append Tx p n) (cond (g i) (Spend p n) (taking_read kind p n))))

-- ---- the item
module _ (s : List ℕ) where
  both : (b : Bool) (x y : Read) (x' y' : Item) → item_of s x ≡ x' → item_of s y ≡ y' → item_of s (cond b x y) ≡ cond b x' y'
  both true x y x' y' e f = e
  both false x y x' y' e f = f

  change_means : (b : Bool) (p : ℕ) (n : ℤ) (t k : ℕ)
      → item_of s (Change b p n t k) ≡ cond b (is (call (credit p n (tokens_at s t (t + k * 32) k)))) (is (call (debit p n (tokens_at s t (t + k * 32) k))))
  change_means true p n t k = refl
  change_means false p n t k = refl

  taking_means : (kind p : ℕ) (n : ℤ) → item_of s (taking_read kind p n) ≡ taking kind p n
  taking_means kind p n =
      both (eqb kind 4) _ _ _ _ refl (both (eqb kind 5) _ _ _ _ refl (both (eqb kind 6) _ _ _ _ refl refl))

  plain_means : (kind p : ℕ) (n : ℤ) → item_of s (plain_read kind p n) ≡ plain kind p n
  plain_means kind p n =
      both (eqb kind 1) _ _ _ _ refl (both (eqb kind 2) _ _ _ _ refl (both (eqb kind 3) _ _ _ _ refl (taking_means kind p n)))

  module _ (parents h room t : ℕ) where
    -- where there is less room than told, the definition says `short`
    headed_means : (short : Item) → ((y : Item) → cond (ltb room (tokens_told s h)) cut y ≡ cond (ltb room (tokens_told s h)) short y)
        → item_of s (headed_read parents s h room t) ≡ headed parents s h room t short
    unfolding headed_read
    headed_means short e =
        both (eqb (kind_at s h) 7) _ _ _ _ (both (eqb (tokens_told s h) 0) _ _ _ _ refl refl)
        (both (leb parents (parent_at s h)) _ _ _ _ refl
        (both (is_change (kind_at s h)) _ _ _ _
        (both (ltb room (tokens_told s h)) _ _ _ _ refl (change_means (eqb (kind_at s h) 8) (parent_at s h) (value_in s h) t (tokens_told s h)) ∙ e _)
        (both (eqb (tokens_told s h) 0) _ _ _ _ (plain_means (kind_at s h) (parent_at s h) (value_in s h)) refl)))

    -- ---- its parent and its tokens
    taking_sound : (kind p : ℕ) (n : ℤ) → p < parents → Sound parents s (taking_read kind p n)
    taking_sound kind p n l =
        either (Sound parents s) (eqb kind 4) (λ _. l) (λ _. either (Sound parents s) (eqb kind 5) (λ _. l) (λ _. either (Sound parents s) (eqb kind 6) (λ _. l) (λ _. tt)))

    plain_sound : (kind p : ℕ) (n : ℤ) → p < parents → Sound parents s (plain_read kind p n)
    plain_sound kind p n l =
        either (Sound parents s) (eqb kind 1) (λ _. l)
        (λ _. either (Sound parents s) (eqb kind 2) (λ _. l) (λ _. either (Sound parents s) (eqb kind 3) (λ _. l) (λ _. taking_sound kind p n l)))

    headed_sound : (tokens_told s h ≤ room → t + tokens_told s h * 40 ≤ length s) → Sound parents s (headed_read parents s h room t)
    unfolding headed_read
    headed_sound m =
        either (Sound parents s) (eqb (kind_at s h) 7) (λ _. either (Sound parents s) (eqb (tokens_told s h) 0) (λ _. tt) (λ _. tt))
        (λ _.
        either (Sound parents s) (leb parents (parent_at s h)) (λ _. tt)
        (λ e.
        either (Sound parents s) (is_change (kind_at s h))
        (λ _.
        either (Sound parents s) (ltb room (tokens_told s h)) (λ _. tt)
        (λ f. (leb-false parents (parent_at s h) e, m (ltb-false room (tokens_told s h) f))))
        (λ _.
        either (Sound parents s) (eqb (tokens_told s h) 0) (λ _. plain_sound (kind_at s h) (parent_at s h) (value_in s h) (leb-false parents (parent_at s h) e)) (λ _. tt))))

    -- ---- all its bytes
    abbrev Fits : (journaled : Bool) → Read → Type 0
    Fits journaled x = end_of journaled x ≡ 0 → h + size_at s h ≤ length s

    headed_fits : (journaled : Bool) → h + 17 + room * 40 ≤ length s → Fits journaled (headed_read parents s h room t)
    unfolding headed_read
    headed_fits journaled m =
        either (Fits journaled) (eqb (kind_at s h) 7) (λ _. either (Fits journaled) (eqb (tokens_told s h) 0) (λ e _. omega (arith, m, eqb-true (tokens_told s h) 0 e)) (λ _ q. absurd (omega (arith, q))))
        (λ _.
        either (Fits journaled) (leb parents (parent_at s h)) (λ _ q. absurd (omega (arith, q)))
        (λ _.
        either (Fits journaled) (is_change (kind_at s h))
        (λ _. either (Fits journaled) (ltb room (tokens_told s h)) (λ _ q. absurd (omega (arith, q))) (λ f _. omega (arith, m, ltb-false room (tokens_told s h) f)))
        (λ _.
        either (Fits journaled) (eqb (tokens_told s h) 0) (λ e _. omega (arith, m, eqb-true (tokens_told s h) 0 e)) (λ _ q. absurd (omega (arith, q))))))

-- ---- at a place of an input
module _ (parents : ℕ) (s : List ℕ) (at : ℕ) where
  pub read_means : item_of s (read_at parents s at) ≡ item_at parents s at
  unfolding read_at item_at
  read_means =
      both s (leb (length s) at) _ _ _ _ refl
      (both s (ltb (length s - at) 17) _ _ _ _ refl (headed_means s parents at ((length s - at - 17) / 40) (at + 17) cut (λ y. refl)))

  pub read_sound : Sound parents s (read_at parents s at)
  unfolding read_at
  read_sound =
      either (Sound parents s) (leb (length s) at) (λ _. tt)
      (λ e.
      either (Sound parents s) (ltb (length s - at) 17) (λ _. tt)
      (λ f.
      headed_sound s parents at ((length s - at - 17) / 40) (at + 17) (λ g. omega (arith, g, leb-false (length s) at e, ltb-false (length s - at) 17 f))))

  -- what is made stands there with all its bytes
  pub read_fits : (journaled : Bool) → end_of journaled (read_at parents s at) ≡ 0 → at + size_at s at ≤ length s
  unfolding read_at
  read_fits journaled =
      either (Fits s parents at ((length s - at - 17) / 40) (at + 17) journaled) (leb (length s) at) (λ _ q. absurd (omega (arith, q)))
      (λ e.
      either (Fits s parents at ((length s - at - 17) / 40) (at + 17) journaled) (ltb (length s - at) 17) (λ _ q. absurd (omega (arith, q)))
      (λ f. headed_fits s parents at ((length s - at - 17) / 40) (at + 17) journaled (omega (arith, leb-false (length s) at e, ltb-false (length s - at) 17 f))))

-- ---- the newest entry of a journal
module _ (parents : ℕ) (j : Journal) where
  abbrev h : ℕ
  h = j.used - 17

  abbrev told : ℕ
  told = tokens_told j.bytes h

  no_cut : ltb (h / 40) told ≡ false → (y : Item) → cond (ltb (h / 40) told) cut y ≡ cond (ltb (h / 40) told) bad y
  no_cut e y = ap (λ (b : Bool). cond b cut y) e ∙ sym (ap (λ (b : Bool). cond b bad y) e)

  -- the test comes first
  tested : (b : Bool) (x : Read) (y : Item) → (b ≡ false → item_of j.bytes x ≡ y) → item_of j.bytes (cond b Bad x) ≡ cond b bad y
  tested true x y f = refl
  tested false x y f = f refl

  pub newest_means : item_of j.bytes (newest_read parents j.bytes j.used) ≡ newest parents j
  unfolding newest_read newest
  newest_means =
      tested (ltb j.used 17) _ _
      (λ _.
      tested (ltb (h / 40) told) _ _ (λ e. headed_means j.bytes parents h (h / 40) (j.used - size_at j.bytes h) bad (no_cut e)))

  pub newest_sound : j.used ≤ length j.bytes → Sound parents j.bytes (newest_read parents j.bytes j.used)
  unfolding newest_read
  newest_sound m =
      either (Sound parents j.bytes) (ltb j.used 17) (λ _. tt)
      (λ e.
      either (Sound parents j.bytes) (ltb (h / 40) told) (λ _. tt)
      (λ f.
      headed_sound j.bytes parents h (h / 40) (j.used - size_at j.bytes h) (λ g. omega (arith, m, g, ltb-false j.used 17 e))))

  -- a call stands there with all its bytes
  abbrev Held : Read → Type 0
  Held x = is_call x ≡ true → (17 ≤ j.used) × (size_at j.bytes h ≤ j.used)

  pub newest_fits : Held (newest_read parents j.bytes j.used)
  unfolding newest_read
  newest_fits =
      either Held (ltb j.used 17) (λ _ q. let z : ◌≡◌ {A = ℕ} 0 1 = cc in absurd (omega arith))
      (λ e.
      either Held (ltb (h / 40) told) (λ _ q. let z : ◌≡◌ {A = ℕ} 0 1 = cc in absurd (omega arith))
      (λ f _. (ltb-false j.used 17 e, omega (arith, ltb-false j.used 17 e, ltb-false (h / 40) told f))))
