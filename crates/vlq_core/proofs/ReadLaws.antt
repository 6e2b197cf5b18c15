-- Laws of reading a coded number, at either width: what it is made of, its bound, the position after it, and its refusals.
use mathlib.Core.Path.{◌≡◌, refl, sym, ap, ap₂, subst, ◌∙◌}
use mathlib.Core.Logic.{◌⊎◌, inl, inr, ⊎_elim, ◌≢◌}
use mathlib.Core.Bool.{Bool, true, false, cond, ◌&&◌}
use lib.Dec.{ltb, eqb}
use mathlib.Core.List.{List, [], ◌∷◌}
use Prim.Native.Nat.{ℕ, zero, suc, ◌+◌, ◌-◌, ◌*◌, ◌^◌, ◌<◌, ◌≤◌}
use native.Mathlib.Omega.{arith}
use lib.IntN.{ℤ}
use lib.ListN.{length, drop, get_or, length-drop}
use lib.Pow.{pow-add, pow_mono}
use borrow.Author.Tests.{lt-ltb, le-ltb, ne_eqb, eq-eqb}
use Rattle.std.specs.Prelude.{Ok, Err}
use Rattle.vlq_core.specs.Answers.{Got}
use Rattle.index_types.specs.Answers.{Long}
use Rattle.index_types.specs.Answers.{Int}
use Rattle.vlq_core.specs.Zigzag.{zag}
use Rattle.vlq_core.specs.Reading.{below, dec, narrow, read_any, padded, shortest, read_at, signed_of, long_of, int_of}
use Rattle.vlq_core.proofs.Split.{split}

-- ---- a value is below its bound, and its last byte lies in the list; a refusal is 1 or 2

abbrev Good : (bound lo hi : ℕ) → Got → Type 0
Good bound lo hi (Ok (v, n)) = (v < bound) × (lo < n) × (n ≤ hi)
Good bound lo hi (Err r) = (r ≡ 1) ⊎ (r ≡ 2)

below_good : (bound lo hi b : ℕ) (g : Got) → Good bound (lo + 1) hi g → Good (bound * 128) lo hi (below b g)
below_good bound lo hi b (Ok (v, n)) h = (omega arith, omega arith, omega arith)
below_good bound lo hi b (Err r) h = h

-- f groups and a last one that holds one bit; one group more
pub bound_suc : (f : ℕ) → 2 ^ (7 * suc f + 1) ≡ 2 ^ (7 * f + 1) * 128
bound_suc f = ap (λ (n : ℕ). 2 ^ n) (omega arith) ∙ pow-add 2 (7 * f + 1) 7

dec_good : (f : ℕ) (l : List ℕ) (at hi : ℕ) → at + length l ≤ hi → Good (2 ^ (7 * f + 1)) at hi (dec f l at)
unfolding dec
dec_good f [] at hi h = inl refl
dec_good zero (b ∷ l) at hi h = ⊎_elim (λ (q : b < 2). rw (lt-ltb b 2 q) (q, omega arith, omega arith)) (λ (q : 2 ≤ b). rw (le-ltb b 2 q) (inr refl)) (split b 2)
dec_good (suc f) (b ∷ l) at hi h = rw (bound_suc f) (by_top (below_good _ at hi b (dec f l (at + 1)) (dec_good f l (at + 1) hi (omega arith))))
  where
    by_top : Good (2 ^ (7 * f + 1) * 128) at hi (below b (dec f l (at + 1))) → Good (2 ^ (7 * f + 1) * 128) at hi (dec (suc f) (b ∷ l) at)
    by_top rest = ⊎_elim (λ (q : b < 128). rw (lt-ltb b 128 q) (omega (arith, pow_mono {i = 0} {j = 7 * f + 1} (omega arith)), omega arith, omega arith))
        (λ (q : 128 ≤ b). rw (le-ltb b 128 q) rest) (split b 128)

-- the position after groups lies past the first
pub dec_next : (f : ℕ) (l : List ℕ) (at v n : ℕ) → dec f l at ≡ Ok (v, n) → at < n
dec_next f l at v n e = (subst (Good (2 ^ (7 * f + 1)) at (at + length l)) e (dec_good f l at (at + length l) (omega arith))).1

narrow_good : (k bound lo hi : ℕ) (g : Got) → Good bound lo hi g → Good (2 ^ k) lo hi (narrow k g)
narrow_good k bound lo hi (Ok (v, n)) h = ⊎_elim (λ (q : v < 2 ^ k). rw (lt-ltb v (2 ^ k) q) (q, h.1, h.2)) (λ (q : 2 ^ k ≤ v). rw (le-ltb v (2 ^ k) q) (inr refl)) (split v (2 ^ k))
narrow_good k bound lo hi (Err r) h = h

module _ (k : ℕ) (s : List ℕ) (at : ℕ) where
  read_good : Good (2 ^ k) at (at + length (drop at s)) (read_any k s at)
  unfolding read_any
  read_good = narrow_good k _ at _ (dec 9 (drop at s) at) (dec_good 9 (drop at s) at _ (omega arith))

  module _ (v n : ℕ) (e : Ok (v, n) ≡ read_any k s at) where
    good : (v < 2 ^ k) × (at < n) × (n ≤ at + length (drop at s))
    good = subst (Good (2 ^ k) at (at + length (drop at s))) (sym e) read_good

    -- what is read is of the width
    any_fits : v < 2 ^ k
    any_fits = good.0

    -- the position after a number lies past its first byte and within the list
    pub any_next : (at < n) × (n ≤ length s)
    any_next = let g = good in (g.1, omega (arith, length-drop at s))

  -- no other refusals
  any_refusals : (r : ℕ) → Err r ≡ read_any k s at → (r ≡ 1) ⊎ (r ≡ 2)
  any_refusals r e = subst (Good (2 ^ k) at (at + length (drop at s))) (sym e) read_good

-- ---- the width

narrow_all : (k lo hi : ℕ) (g : Got) → Good (2 ^ k) lo hi g → narrow k g ≡ g
narrow_all k lo hi (Ok (v, n)) h = rw (lt-ltb v (2 ^ k) h.0)
narrow_all k lo hi (Err r) h = refl

-- ten groups hold 64 bits
pub any_64 : (s : List ℕ) (at : ℕ) → dec 9 (drop at s) at ≡ read_any 64 s at
unfolding read_any
any_64 s at = sym (narrow_all 64 at _ _ (dec_good 9 (drop at s) at (at + length (drop at s)) (omega arith)))

-- at either width, by the answer g of the groups
module _ (k : ℕ) (s : List ℕ) (at : ℕ) {g : Got} (e : g ≡ dec 9 (drop at s) at) where
  pub any_in : (v n : ℕ) → g ≡ Ok (v, n) → v < 2 ^ k → Ok (v, n) ≡ read_any k s at
  unfolding read_any
  any_in v n d h = rw (← e, d, lt-ltb v (2 ^ k) h)

  pub any_over : (v n : ℕ) → g ≡ Ok (v, n) → 2 ^ k ≤ v → Err 2 ≡ read_any k s at
  unfolding read_any
  any_over v n d h = rw (← e, d, le-ltb v (2 ^ k) h)

  pub any_refused : (r : ℕ) → g ≡ Err r → Err r ≡ read_any k s at
  unfolding read_any
  any_refused r d = ap (narrow k) (sym d ∙ e)

-- ---- the shortest form only

pub short_form : (s : List ℕ) (at n : ℕ) → (n ≤ at + 1) ⊎ (get_or s (n - 1) 0 ≢ 0) → padded s at n ≡ false
short_form s at n (inl h) = rw (le-ltb (at + 1) n h)
short_form s at n (inr h) = rw (ne_eqb (get_or s (n - 1) 0) 0 h) (and_false (ltb (at + 1) n))
  where
    and_false : (x : Bool) → x && false ≡ false
    and_false true = refl
    and_false false = refl

pub long_form : (s : List ℕ) (at n : ℕ) → at + 1 < n → get_or s (n - 1) 0 ≡ 0 → padded s at n ≡ true
long_form s at n h e = rw (lt-ltb (at + 1) n h, eq-eqb (get_or s (n - 1) 0) 0 e)

module _ (k : ℕ) (s : List ℕ) (at : ℕ) where
  -- a number that is not padded, and any refusal, are read as before
  pub read_short : (v n : ℕ) → Ok (v, n) ≡ read_any k s at → padded s at n ≡ false → Ok (v, n) ≡ read_at k s at
  unfolding read_at
  read_short v n e h = rw (← e, h)

  pub read_padded : (v n : ℕ) → Ok (v, n) ≡ read_any k s at → padded s at n ≡ true → Err 34 ≡ read_at k s at
  unfolding read_at
  read_padded v n e h = rw (← e, h)

  pub read_refused : (r : ℕ) → Err r ≡ read_any k s at → Err r ≡ read_at k s at
  unfolding read_at
  read_refused r e = rw (← e)

  pub of_any : (g : Got) → g ≡ read_any k s at → shortest s at g ≡ read_at k s at
  unfolding read_at
  of_any g e = ap (shortest s at) e

  -- what is read
  pub record Read (v n : ℕ) : Type 0 where
    pub any : Ok (v, n) ≡ read_any k s at
    pub form : padded s at n ≡ false

  abbrev GoodAt : Got → Type 0
  GoodAt (Ok (v, n)) = Read v n
  GoodAt (Err r) = (r ≡ 1) ⊎ ((r ≡ 2) ⊎ (r ≡ 34))

  read_good_at : GoodAt (read_at k s at)
  unfolding read_at
  read_good_at = by_any (read_any k s at) refl
    where
      by_form : (v n : ℕ) (x : Bool) → padded s at n ≡ x → Ok (v, n) ≡ read_any k s at → GoodAt (cond x (Err 34) (Ok (v, n)))
      by_form v n true e q = inr (inr refl)
      by_form v n false e q = record { any = q; form = e }

      by_any : (g : Got) → read_any k s at ≡ g → GoodAt (shortest s at g)
      by_any (Ok (v, n)) e = by_form v n (padded s at n) refl (sym e)
      by_any (Err r) e = ⊎_elim (λ (q : r ≡ 1). inl q) (λ (q : r ≡ 2). inr (inl q)) (any_refusals k s at r (sym e))

  module _ (v n : ℕ) (e : Ok (v, n) ≡ read_at k s at) where
    pub read_is : Read v n
    read_is = subst GoodAt (sym e) read_good_at

    -- what is read is of the width
    pub read_fits : v < 2 ^ k
    read_fits = any_fits k s at v n read_is.any

    -- the position after a number lies past its first byte and within the list
    pub read_next : (at < n) × (n ≤ length s)
    read_next = any_next k s at v n read_is.any

  -- no other refusals
  pub read_refusals : (r : ℕ) → Err r ≡ read_at k s at → (r ≡ 1) ⊎ ((r ≡ 2) ⊎ (r ≡ 34))
  read_refusals r e = subst GoodAt (sym e) read_good_at

-- ---- a signed answer, of either width, says what any other answer would be
module _ {A : Type 0} (number : ℤ → ℕ → A) (refused : ℕ → A) where
  -- what any answer gives goes over a signed answer, for each way to read that one
  over_answer : {R : Type 0} (n : ℤ → ℕ → R) (r : ℕ → R) (f : R → A) → ((z : ℤ) (m : ℕ) → number z m ≡ f (n z m)) → ((k : ℕ) → refused k ≡ f (r k)) → (g : Got)
      → signed_of number refused g ≡ f (signed_of n r g)
  over_answer n r f e q (Ok (v, m)) = e (zag v) m
  over_answer n r f e q (Err k) = q k

  abbrev of_long : Long → A
  of_long (Ok (z, n)) = number z n
  of_long (Err r) = refused r

  abbrev of_int : Int → A
  of_int (Ok (z, n)) = number z n
  of_int (Err r) = refused r

  over_long : (g : Got) (x : Long) → long_of g ≡ x → signed_of number refused g ≡ of_long x
  over_long g x e = over_answer (λ z n. Ok (z, n)) Err of_long (λ z m. refl) (λ k. refl) g ∙ ap of_long e

  over_int : (g : Got) (x : Int) → int_of g ≡ x → signed_of number refused g ≡ of_int x
  over_int g x e = over_answer (λ z n. Ok (z, n)) Err of_int (λ z m. refl) (λ k. refl) g ∙ ap of_int e

  pub long_number : (g : Got) (z : ℤ) (n : ℕ) → long_of g ≡ Ok (z, n) → signed_of number refused g ≡ number z n
  long_number g z n = over_long g (Ok (z, n))

  pub long_refused : (g : Got) (r : ℕ) → long_of g ≡ Err r → signed_of number refused g ≡ refused r
  long_refused g r = over_long g (Err r)

  pub int_number : (g : Got) (z : ℤ) (n : ℕ) → int_of g ≡ Ok (z, n) → signed_of number refused g ≡ number z n
  int_number g z n = over_int g (Ok (z, n))

  pub int_refused : (g : Got) (r : ℕ) → int_of g ≡ Err r → signed_of number refused g ≡ refused r
  int_refused g r = over_int g (Err r)
