-- The tokens of a box in bytes, one after the other, are those that `change_box` takes as lists.
use Prim.Native.Nat.{ℕ, zero, suc, ◌+◌, ◌*◌, ◌-◌, ◌≤◌, ◌<◌}
use native.Mathlib.Omega.{arith}
use mathlib.Core.Path.{◌≡◌, refl, sym, ap, ◌∙◌, subst}
use mathlib.Core.Bool.{Bool, true, false, ◌&&◌}
use mathlib.Core.List.{List, [], ◌∷◌, ◌++◌, append_assoc}
use lib.Dec.{leb}
use lib.IntN.{ℤ, pos}
use lib.ListN.{length, take, drop, get_or, set, length-append, length-drop}
use lib.Seq.{drop_at, take_at, get_or_at, drop-drop}
use borrow.Author.Tests.{le-leb}
use borrow.Rule.Slice.PartMut.{mid_of}
use Rattle.stores.proofs.StoreLaws.{length_part}
use Rattle.std.specs.Prelude.{Some, None}
use Rattle.balance.specs.declared.Balance.{Balance}
use Rattle.balance.specs.declared.Outcome.{Outcome}
use Rattle.balance.specs.Boxes.{buffers_ok, nanos_after, refused, held_by, settled, change_box}
use Rattle.balance.proofs.BoxLaws.{count_above, box_25, box_23, box_on}
use Rattle.balance_tokens.specs.Tokens.{Held, Changed, held, refused_by, id_at, change_token, and_then, change_tokens}
use Rattle.balance_tokens.proofs.RunLaws.{run_step, run_end, Few, few_change}
use Rattle.calls.specs.Calls.{number_at}
use Rattle.call_steps.specs.State.{balance_of, ids_with, numbers_with, lengths_with}
use Rattle.call_steps.specs.declared.Said.{Said}
use Rattle.call_steps.specs.Steps.{said_by, change_step, changed_by}
use Rattle.ledger.specs.Calls.{Tokens}
use Rattle.driver_core.specs.Steps.{token_ids, token_amounts}
use Rattle.driver_core.specs.Bytes.{tokens_at}
use Rattle.driver_changes.specs.Internal.{amounts_at, change_each, change_tokens_of}

-- ---- one token
module _ (adding : Bool) (ids : List ℕ) (v : ℤ) where
  then_end : (x : Changed) → and_then x (change_tokens adding ids (v ∷ []) (0 + 1) (1 - (0 + 1))) ≡ x
  then_end (held g) = run_end adding ids (v ∷ []) 1 1 g (omega arith)
  then_end (refused_by code) = refl

  one_token : (h : Held) → change_tokens adding ids (v ∷ []) 0 1 h ≡ change_token adding h (id_at ids 0) v
  one_token h = run_step adding ids (v ∷ []) 0 1 h (omega arith) ∙ then_end (change_token adding h (id_at ids 0) v)

-- an id by itself is the id at place 0
id_alone : (id : List ℕ) → length id ≡ 32 → id_at id 0 ≡ id
id_alone id e = ap (take 32) (sym (append_nil id)) ∙ take_at id [] 32 e
  where
    append_nil : (l : List ℕ) → l ++ [] ≡ l
    append_nil [] = refl
    append_nil (x ∷ xs) = ap (λ (t : List ℕ). x ∷ t) (append_nil xs)

-- ---- a turn of the loop: w is how many bytes the code cuts for an id, v the amount that it reads
module _ (adding : Bool) (s : List ℕ) (i a left : ℕ) (h : Held) where
  each_more : 0 < left
      → change_each adding (tokens_at s i a left) h ≡ and_then (change_token adding h (mid_of i 32 s) (number_at s a)) (change_each adding (tokens_at s (i + 32) (a + 8) (left - 1)))
  unfolding tokens_at change_each
  each_more u = by_left left u
    where
      by_left : (n : ℕ) → 0 < n
          → change_each adding (tokens_at s i a n) h ≡ and_then (change_token adding h (mid_of i 32 s) (number_at s a)) (change_each adding (tokens_at s (i + 32) (a + 8) (n - 1)))
      by_left zero u = absurd (omega arith)
      by_left (suc n) u =
          let e : n ≡ suc n - 1 = omega arith in
          ap (λ (m : ℕ). and_then (change_token adding h (mid_of i 32 s) (number_at s a)) (change_each adding (tokens_at s (i + 32) (a + 8) m))) e

  pub each_end : left ≤ 0 → held h ≡ change_each adding (tokens_at s i a left) h
  unfolding tokens_at change_each
  each_end u = by_left left u
    where
      by_left : (n : ℕ) → n ≤ 0 → held h ≡ change_each adding (tokens_at s i a n) h
      by_left zero u = refl
      by_left (suc n) u = absurd (omega arith)

  module _ (w : ℕ) (v : ℤ) (q : w ≡ 32) (z : v ≡ number_at s a) (m : i + 32 ≤ length s) where
    token_same : change_tokens adding (take w (drop i s)) (v ∷ []) 0 1 h ≡ change_token adding h (mid_of i 32 s) (number_at s a)
    token_same =
        (λ x. change_tokens adding (take (q x) (drop i s)) (z x ∷ []) 0 1 h) ∙ one_token adding (mid_of i 32 s) (number_at s a) h
        ∙ ap (λ (id : List ℕ). change_token adding h id (number_at s a)) (id_alone (mid_of i 32 s) (length_part i 32 s m))

    pub each_on : 0 < left → (g : Held) → held g ≡ change_tokens adding (take w (drop i s)) (v ∷ []) 0 1 h
        → change_each adding (tokens_at s i a left) h ≡ change_each adding (tokens_at s (i + 32) (a + 8) (left - 1)) g
    each_on u g e =
        each_more u
        ∙ sym (ap (λ (x : Changed). and_then x (change_each adding (tokens_at s (i + 32) (a + 8) (left - 1)))) (e ∙ token_same))

    pub each_refused : 0 < left → (code : ℕ) → refused_by code ≡ change_tokens adding (take w (drop i s)) (v ∷ []) 0 1 h
        → refused_by code ≡ change_each adding (tokens_at s i a left) h
    each_refused u code e =
        ap (λ (x : Changed). and_then x (change_each adding (tokens_at s (i + 32) (a + 8) (left - 1)))) (e ∙ token_same)
        ∙ sym (each_more u)

    pub each_few : h.count ≤ 128 → (g : Held) → held g ≡ change_tokens adding (take w (drop i s)) (v ∷ []) 0 1 h → g.count ≤ 128
    each_few f g e = subst Few (sym (e ∙ token_same)) (few_change h f adding (mid_of i 32 s) (number_at s a))

-- ---- ids of 32 bytes
abbrev Long : Tokens → Type 0
Long [] = Unit {0}
Long (x ∷ ts) = (length x.0 ≡ 32) × Long ts

tokens_long : (s : List ℕ) (i a n : ℕ) → i + n * 32 ≤ length s → Long (tokens_at s i a n)
unfolding tokens_at
tokens_long s i a zero m = tt
tokens_long s i a (suc n) m = (length_part i 32 s (omega (arith, m)), tokens_long s (i + 32) (a + 8) n (omega (arith, m)))

length_ids : (ts : Tokens) → Long ts → length (token_ids ts) ≡ length ts * 32
unfolding token_ids
length_ids [] l = refl
length_ids (x ∷ ts) l = omega (arith, length-append x.0 (token_ids ts), length_ids ts l.1, l.0)

length_amounts : (ts : Tokens) → length (token_amounts ts) ≡ length ts
unfolding token_amounts
length_amounts [] = refl
length_amounts (x ∷ ts) = ap suc (length_amounts ts)

id_of : (pre name rest : List ℕ) (j : ℕ) → length pre ≡ j * 32 → length name ≡ 32 → id_at (pre ++ (name ++ rest)) j ≡ name
id_of pre name rest j e f = ap (take 32) (drop_at pre (name ++ rest) (j * 32) e) ∙ take_at name rest 32 f

-- the tokens behind j others
each_from : (adding : Bool) (ts : Tokens) (pre : List ℕ) (front : List ℤ) (j : ℕ) → length pre ≡ j * 32 → length front ≡ j → Long ts → (h : Held)
    → change_tokens adding (pre ++ token_ids ts) (front ++ token_amounts ts) j (length ts) h ≡ change_each adding ts h
unfolding change_tokens change_each token_ids token_amounts
each_from adding [] pre front j e f l h = refl
each_from adding (x ∷ ts) pre front j e f l h =
    let ids : List ℕ = pre ++ (x.0 ++ token_ids ts) in
    let ams : List ℤ = front ++ (x.1 ∷ token_amounts ts) in
    let p : id_at ids j ≡ x.0 = id_of pre x.0 (token_ids ts) j e l.0 in
    let q : get_or ams j (pos 0) ≡ x.1 = get_or_at front x.1 (token_amounts ts) (pos 0) j f in
    let a : (pre ++ x.0) ++ token_ids ts ≡ ids = append_assoc pre x.0 (token_ids ts) in
    let c : (front ++ x.1 ∷ []) ++ token_amounts ts ≡ ams = append_assoc front (x.1 ∷ []) (token_amounts ts) in
    let n : length (pre ++ x.0) ≡ suc j * 32 = omega (arith, length-append pre x.0, l.0) in
    let m : length (front ++ x.1 ∷ []) ≡ suc j = omega (arith, length-append front (x.1 ∷ [])) in
    (λ y. and_then (change_token adding h (p y) (q y)) (change_tokens adding ids ams (suc j) (length ts)))
    ∙ then_same (change_token adding h x.0 x.1) (change_tokens adding ids ams (suc j) (length ts)) (change_each adding ts)
    (λ g. (λ y. change_tokens adding (sym a y) (sym c y) (suc j) (length ts) g) ∙ each_from adding ts (pre ++ x.0) (front ++ x.1 ∷ []) (suc j) n m l.1 g)
  where
    then_same : (y : Changed) (f g : Held → Changed) → ((k : Held) → f k ≡ g k) → and_then y f ≡ and_then y g
    then_same (held k) f g e = e k
    then_same (refused_by code) f g e = refl

-- ---- a box, of tokens that are there
module _ (adding : Bool) (b : Balance) (nanos : ℤ) (s : List ℕ) (i a n : ℕ) (m : i + n * 32 ≤ length s) where
  abbrev ts : Tokens
  ts = tokens_at s i a n

  abbrev Box : Outcome → Type 0
  Box o = o ≡ change_box adding b nanos (token_ids ts) (token_amounts ts) (length ts)

  long : Long ts
  long = tokens_long s i a n m

  passes : b.count ≤ 128 → buffers_ok b.count (token_ids ts) (token_amounts ts) (length ts) ≡ true
  unfolding buffers_ok
  passes f =
      rw (le-leb b.count 128 f, le-leb (length ts) (length (token_amounts ts)) (omega (arith, length_amounts ts)), le-leb (length ts * 32) (length (token_ids ts)) (omega (arith, length_ids ts long)))

  pub bytes_25 : 128 < b.count → Box (refused 25 b)
  bytes_25 f = box_25 adding b nanos (token_ids ts) (token_amounts ts) (length ts) (sym (count_above b.count (token_ids ts) (token_amounts ts) (length ts) f))

  pub bytes_23 : b.count ≤ 128 → None ≡ nanos_after adding b.nanos nanos → Box (refused 23 b)
  bytes_23 f e = box_23 adding b nanos (token_ids ts) (token_amounts ts) (length ts) (passes f) e

  pub bytes_on : b.count ≤ 128 → (v : ℤ) → Some v ≡ nanos_after adding b.nanos nanos → (x : Changed) → x ≡ change_each adding ts (held_by b) → Box (settled b v x)
  bytes_on f v e x q =
      box_on adding b nanos (token_ids ts) (token_amounts ts) (length ts) (passes f) v e x
      (q ∙ sym (each_from adding ts [] [] 0 refl refl long (held_by b)))

-- ---- the balance of a parent: o is what the box answered
pub change_tokens_law : (adding : Bool) (p : ℕ) (nanos nanos' : ℤ) (ts : Tokens) (ids : List ℕ) (numbers : List ℤ) (lengths : List ℕ) (b : Balance) (o : Outcome)
    (ids' : List ℕ) (numbers' : List ℤ) (lengths' : List ℕ) (s : Said) → b ≡ balance_of p ids numbers lengths → nanos' ≡ nanos
    → o ≡ change_box adding b nanos' (token_ids ts) (token_amounts ts) (length ts)
    → (ids' ≡ ids_with p o.balance ids) × (numbers' ≡ numbers_with p o.balance numbers) × (lengths' ≡ lengths_with p o.balance lengths)
    → s ≡ said_by o.answer → change_step s ids' numbers' lengths' ≡ change_tokens_of adding p nanos ts ids numbers lengths
change_tokens_law adding p nanos nanos' ts ids numbers lengths b o ids' numbers' lengths' s e f q w l =
    (λ i. change_step (l i) (w.0 i) (w.1 i) (w.2 i))
    ∙ ap (λ (x : Outcome). changed_by x p ids numbers lengths) (q ∙ (λ i. change_box adding (e i) (f i) (token_ids ts) (token_amounts ts) (length ts)))

-- ---- the same tokens as parts of the bytes

pub amounts_all : (s : List ℕ) (a n : ℕ) → amounts_at s a n ≡ amounts_at s (a + 0 * 8) (n - 0)
amounts_all s a n =
    let p : a ≡ a + 0 * 8 = omega arith in
    let q : n ≡ n - 0 = omega arith in
    (λ x. amounts_at s (p x) (q x))

-- a turn of the loop that reads the amounts
pub amounts_next : (s : List ℕ) (a k n : ℕ) (l : List ℤ) (v : ℤ) → k < n → n ≤ length l → v ≡ number_at s (a + k * 8)
    → amounts_at s a n ≡ take k l ++ amounts_at s (a + k * 8) (n - k) → amounts_at s a n ≡ take (k + 1) (set l k v) ++ amounts_at s (a + (k + 1) * 8) (n - (k + 1))
unfolding amounts_at
amounts_next s a k n l v h m z e =
    let q : a + k * 8 + 8 ≡ a + (k + 1) * 8 = omega arith in
    e ∙ ap (λ (x : List ℤ). take k l ++ x) (by_left (n - k) (n - (k + 1)) (omega arith))
    ∙ sym (append_assoc (take k l) (v ∷ []) (amounts_at s (a + k * 8 + 8) (n - (k + 1))))
    ∙ (λ x. sym (take_set l k v (omega arith)) x ++ amounts_at s (q x) (n - (k + 1)))
  where
    by_left : (i j : ℕ) → i ≡ suc j → amounts_at s (a + k * 8) i ≡ v ∷ amounts_at s (a + k * 8 + 8) j
    by_left zero j q = absurd (omega arith)
    by_left (suc i) j q =
        let r : i ≡ j = omega arith in
        (λ x. sym z x ∷ amounts_at s (a + k * 8 + 8) (r x))

    take_set : (l : List ℤ) (k : ℕ) (v : ℤ) → k < length l → take (k + 1) (set l k v) ≡ take k l ++ v ∷ []
    take_set [] k v h = absurd (omega arith)
    take_set (x ∷ l) zero v h = refl
    take_set (x ∷ l) (suc k) v h =
        let q : suc k + 1 ≡ suc (k + 1) = omega arith in
        ap (λ (m : ℕ). take m (set (x ∷ l) (suc k) v)) q ∙ ap (λ (t : List ℤ). x ∷ t) (take_set l k v (omega arith))

pub amounts_end : (s : List ℕ) (a n k : ℕ) (l : List ℤ) → n ≤ k → k ≤ n → amounts_at s a n ≡ take k l ++ amounts_at s (a + k * 8) (n - k) → take n l ≡ amounts_at s a n
unfolding amounts_at
amounts_end s a n k l h g e =
    let q : n - k ≡ 0 = omega arith in
    let r : k ≡ n = omega arith in
    sym (e ∙ ap (λ (m : ℕ). take k l ++ amounts_at s (a + k * 8) m) q ∙ append_none (take k l) ∙ ap (λ (m : ℕ). take m l) r)
  where
    append_none : (x : List ℤ) → x ++ [] ≡ x
    append_none [] = refl
    append_none (y ∷ x) = ap (λ (t : List ℤ). y ∷ t) (append_none x)

module _ (s : List ℕ) where
  length_tokens : (i a n : ℕ) → length (tokens_at s i a n) ≡ n
  unfolding tokens_at
  length_tokens i a zero = refl
  length_tokens i a (suc n) = ap suc (length_tokens (i + 32) (a + 8) n)

  amounts_are : (i a n : ℕ) → token_amounts (tokens_at s i a n) ≡ amounts_at s a n
  unfolding tokens_at token_amounts amounts_at
  amounts_are i a zero = refl
  amounts_are i a (suc n) = ap (λ (x : List ℤ). number_at s a ∷ x) (amounts_are (i + 32) (a + 8) n)

  ids_are : (i a n : ℕ) → i + n * 32 ≤ length s → token_ids (tokens_at s i a n) ≡ mid_of i (n * 32) s
  unfolding tokens_at token_ids
  ids_are i a zero m = refl
  ids_are i a (suc n) m =
      let q : 32 + n * 32 ≡ suc n * 32 = omega arith in
      ap (λ (x : List ℕ). mid_of i 32 s ++ x) (ids_are (i + 32) (a + 8) n (omega arith))
      ∙ ap (λ (x : List ℕ). mid_of i 32 s ++ take (n * 32) x) (sym (drop-drop 32 i s))
      ∙ two_parts 32 (n * 32) (drop i s) (simp length-drop (omega arith))
      ∙ ap (λ (k : ℕ). take k (drop i s)) q
    where
      two_parts : (a b : ℕ) (l : List ℕ) → a ≤ length l → take a l ++ take b (drop a l) ≡ take (a + b) l
      two_parts zero b l h = let q : b ≡ zero + b = omega arith in ap (λ (k : ℕ). take k l) q
      two_parts (suc a) b [] h = absurd (omega arith)
      two_parts (suc a) b (x ∷ l) h =
          let q : suc (a + b) ≡ suc a + b = omega arith in
          ap (λ (t : List ℕ). x ∷ t) (two_parts a b l (omega arith)) ∙ ap (λ (k : ℕ). take k (x ∷ l)) q

-- w is how many bytes the code cuts for the ids
pub few_law : (adding : Bool) (p : ℕ) (nanos nanos' : ℤ) (s : List ℕ) (t n w : ℕ) (amounts : List ℤ) (ids : List ℕ) (numbers : List ℤ) (lengths : List ℕ)
    → t + n * 40 ≤ length s → nanos' ≡ nanos → w ≡ n * 32 → amounts ≡ amounts_at s (t + n * 32) n
    → changed_by (change_box adding (balance_of p ids numbers lengths) nanos' (take w (drop t s)) amounts n) p ids numbers lengths
    ≡ change_tokens_of adding p nanos (tokens_at s t (t + n * 32) n) ids numbers lengths
few_law adding p nanos nanos' s t n w amounts ids numbers lengths m f q e =
    let i : take w (drop t s) ≡ token_ids (tokens_at s t (t + n * 32) n) = ap (λ (k : ℕ). take k (drop t s)) q ∙ sym (ids_are s t (t + n * 32) n (omega arith)) in
    let v : amounts ≡ token_amounts (tokens_at s t (t + n * 32) n) = e ∙ sym (amounts_are s t (t + n * 32) n) in
    let l : n ≡ length (tokens_at s t (t + n * 32) n) = sym (length_tokens s t (t + n * 32) n) in
    (λ x. changed_by (change_box adding (balance_of p ids numbers lengths) (f x) (i x) (v x) (l x)) p ids numbers lengths)
