-- The calls that are read from bytes name parents that are there, and their arguments are what the functions take: so a batch in bytes keeps what the theorem asks of it.
use mathlib.Core.Path.{◌≡◌, refl, subst}
use mathlib.Core.Bool.{Bool, true, false, cond}
use mathlib.Core.List.{List, [], ◌∷◌}
use Prim.Native.Nat.{ℕ, zero, suc, ◌+◌, ◌*◌, ◌-◌, ◌/◌, ◌^◌, ◌≤◌, ◌<◌}
use native.Mathlib.Nat.{lt_of_lt_of_le}
use native.Mathlib.Omega.{arith}
use borrow.Author.Tests.{leb-false, ltb-true, ltb-false}
use lib.Dec.{eqb, leb, ltb}
use lib.IntN.{ℤ}
use lib.Signed.{mag}
use lib.ListN.{length, take, drop}
use lib.Pow.{pow_mono}
use Rattle.stores.proofs.StoreLaws.{length_part}
use Rattle.vlq_core.proofs.UniqueLaws.{Bytes, bytes_drop}
use Rattle.big_endian.specs.BigEndian.{value_of, value_at}
use Rattle.big_endian.proofs.ByteLaws.{value_grown}
use Rattle.calls.specs.Calls.{signed_of, number_at}
use Rattle.ledger.specs.Ledger.{Tokens, Typed}
use Rattle.ledger.specs.Run.{Step, call, undo, flush}
use Rattle.driver_core.specs.Bytes.{Item, is, takes, bad, cut, end, kind_at, parent_at, tokens_told, tokens_of, tokens_at, is_change, plain, with_tokens, headed, item_at, size_at, item_then, items_at}
use Rattle.driver_laws.specs.Internal.{argument_limit, Among, StepsAmong, OnlyCalls}

split : {A : Type 0} (Q : A → Type 0) (b : Bool) {x y : A} → (b ≡ true → Q x) → (b ≡ false → Q y) → Q (cond b x y)
split Q true f g = f refl
split Q false f g = g refl

-- ---- numbers
bytes_take : (n : ℕ) (l : List ℕ) → Bytes l → Bytes (take n l)
bytes_take zero l h = tt
bytes_take (suc n) [] h = tt
bytes_take (suc n) (b ∷ l) h = (h.0, bytes_take n l h.1)

take_short : (n : ℕ) (l : List ℕ) → length (take n l) ≤ n
take_short zero l = omega arith
take_short (suc n) [] = omega arith
take_short (suc n) (b ∷ l) = omega (arith, take_short n l)

-- a number of i bytes, and more
value_grows : (l : List ℕ) (i n : ℕ) → Bytes l → n < 2 ^ (8 * i) → value_of n l < 2 ^ (8 * (i + length l))
unfolding value_of
value_grows [] i n h e = let q : i ≡ i + 0 = omega arith in subst (λ (j : ℕ). n < 2 ^ (8 * j)) q e
value_grows (b ∷ bs) i n h e =
    let q : i + 1 + length bs ≡ i + length (b ∷ bs) = omega arith in
    subst (λ (j : ℕ). value_of (n * 256 + b) bs < 2 ^ (8 * j)) q (value_grows bs (i + 1) (n * 256 + b) h.1 (value_grown i n b e h.0))

value_small : (s : List ℕ) → Bytes s → (at : ℕ) → value_at s at < 18446744073709551616
unfolding value_at
value_small s h at =
    let l = take 8 (drop at s) in
    let m : 8 * (0 + length l) ≤ 64 = omega (arith, take_short 8 (drop at s)) in
    lt_of_lt_of_le (value_grows l 0 0 (bytes_take 8 (drop at s) (bytes_drop at s h)) (omega arith)) (pow_mono m)

-- numbers of 64 signed bits
signed_small : (u : ℕ) → u < 18446744073709551616 → mag (signed_of u) < argument_limit
signed_small u h =
    split (λ (z : ℤ). mag z < argument_limit) (ltb u 9223372036854775808) (λ e. ltb-true u 9223372036854775808 e) (λ e. omega (arith, h, ltb-false u 9223372036854775808 e))

module _ (parents : ℕ) (s : List ℕ) (h : Bytes s) where
  number_small : (at : ℕ) → mag (number_at s at) < argument_limit
  unfolding number_at
  number_small at = signed_small (value_at s at) (value_small s h at)

  -- tokens that are there have ids of 32 bytes
  tokens_typed : (i a n : ℕ) → i + n * 32 ≤ length s → Typed (tokens_at s i a n)
  unfolding tokens_at
  tokens_typed i a zero m = tt
  tokens_typed i a (suc n) m =
      (length_part i 32 s (omega (arith, m)), number_small a, tokens_typed (i + 32) (a + 8) n (omega (arith, m)))

  -- a call of a parent that is there, or a flush; an undo is none
  abbrev Read : Item → Type 0
  Read (is (call a)) = Among parents a
  Read (is undo) = ⊥
  Read (is flush) = Unit {0}
  Read (takes t) = Unit {0}
  Read bad = Unit {0}
  Read cut = Unit {0}
  Read end = Unit {0}

  plain_read : (kind p : ℕ) (at : ℕ) → p < parents → Read (plain kind p (number_at s at))
  plain_read kind p at l =
      split Read (eqb kind 1) (λ _. (l, number_small at))
      (λ _. split Read (eqb kind 2) (λ _. (l, number_small at))
      (λ _.
      split Read (eqb kind 3) (λ _. (l, number_small at))
      (λ _. split Read (eqb kind 4) (λ _. tt) (λ _. split Read (eqb kind 5) (λ _. tt) (λ _. split Read (eqb kind 6) (λ _. tt) (λ _. tt))))))

  change_read : (kind p at : ℕ) (ts : Tokens) → p < parents → Typed ts → Read (with_tokens kind p (number_at s at) ts)
  change_read kind p at ts l t = split Read (eqb kind 8) (λ _. (l, (number_small at, t))) (λ _. (l, (number_small at, t)))

  headed_read : (at room t : ℕ) → t + room * 40 ≤ length s → Read (headed parents s at room t cut)
  headed_read at room t m =
      split Read (eqb (kind_at s at) 7) (λ _. split Read (eqb (tokens_told s at) 0) (λ _. tt) (λ _. tt))
      (λ _.
      split Read (leb parents (parent_at s at)) (λ _. tt)
      (λ e.
      let l : parent_at s at < parents = leb-false parents (parent_at s at) e in
      split Read (is_change (kind_at s at))
      (λ _.
      split Read (ltb room (tokens_told s at)) (λ _. tt)
      (λ f.
      change_read (kind_at s at) (parent_at s at) (at + 5) (tokens_of s at t) l
      (tokens_typed t (t + tokens_told s at * 32) (tokens_told s at) (omega (arith, m, ltb-false room (tokens_told s at) f)))))
      (λ _. split Read (eqb (tokens_told s at) 0) (λ _. plain_read (kind_at s at) (parent_at s at) (at + 5) l) (λ _. tt))))

  item_read : (at : ℕ) → Read (item_at parents s at)
  unfolding item_at
  item_read at =
      split Read (leb (length s) at) (λ _. tt)
      (λ e.
      split Read (ltb (length s - at) 17) (λ _. tt)
      (λ f. headed_read at ((length s - at - 17) / 40) (at + 17) (omega (arith, leb-false (length s) at e, ltb-false (length s - at) 17 f))))

  then_read : (x : Item) (ts : List Step) → Read x → OnlyCalls ts × StepsAmong parents ts → OnlyCalls (item_then x ts) × StepsAmong parents (item_then x ts)
  unfolding OnlyCalls StepsAmong
  then_read (is (call a)) ts r k = (k.0, (r, k.1))
  then_read (is undo) ts r k = absurd r
  then_read (is flush) ts r k = (k.0, (tt, k.1))
  then_read (takes t) ts r k = (tt, tt)
  then_read bad ts r k = (tt, tt)
  then_read cut ts r k = (tt, tt)
  then_read end ts r k = (tt, tt)

  items_read : (n at : ℕ) → OnlyCalls (items_at parents s n at) × StepsAmong parents (items_at parents s n at)
  unfolding items_at OnlyCalls StepsAmong
  items_read zero at = (tt, tt)
  items_read (suc n) at = then_read (item_at parents s at) (items_at parents s n (at + size_at s at)) (item_read at) (items_read n (at + size_at s at))

  -- every beginning of a batch in bytes is one that the theorem speaks of
  first_read : (k : ℕ) (ts : List Step) → OnlyCalls ts × StepsAmong parents ts → OnlyCalls (take k ts) × StepsAmong parents (take k ts)
  unfolding OnlyCalls StepsAmong
  first_read zero ts r = (tt, tt)
  first_read (suc k) [] r = (tt, tt)
  first_read (suc k) (call a ∷ ts) r = let q = first_read k ts (r.0, r.1.1) in (q.0, (r.1.0, q.1))
  first_read (suc k) (undo ∷ ts) r = absurd r.0
  first_read (suc k) (flush ∷ ts) r = let q = first_read k ts (r.0, r.1.1) in (q.0, (tt, q.1))

  pub batch_read : (k n at : ℕ) → OnlyCalls (take k (items_at parents s n at)) × StepsAmong parents (take k (items_at parents s n at))
  batch_read k n at = first_read k (items_at parents s n at) (items_read n at)
