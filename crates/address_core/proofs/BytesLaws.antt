-- Laws of a record's bytes, as the writers meet them: token by token, the sizes of the parts, and the parts one after the other.
use Prim.Native.Nat.{ℕ, ◌+◌, ◌*◌, ◌≤◌, ◌<◌}
use mathlib.Core.Path.{◌≡◌, refl, sym, ap, ap₂, ◌∙◌}
use mathlib.Core.Bool.{Bool, true, false, cond}
use mathlib.Core.List.{List, [], ◌∷◌, ◌++◌}
use native.Mathlib.Omega.{arith}
use native.Mathlib.Numerals.{add-one}
use lib.IntN.{ℤ, pos}
use lib.ListN.{length, take, drop, get_or, length-append, length-drop, drop_of_length-le, take-append-drop}
use lib.Seq.{sets, drop-cons, drop-drop, length-take-le, take-append-le, drop-append-le, get_or-take}
use Rattle.stores.specs.Stores.{Put}
use Rattle.stores.proofs.PutLaws.{sets_append, put_both, put_as}
use Rattle.vlq_core.specs.Zigzag.{zig}
use Rattle.vlq_core.specs.Groups.{enc}
use Rattle.segment_core.specs.Row.{numbers_bytes, list_bytes}
use Rattle.address_core.specs.Bytes.{token_bytes, tokens_bytes, balance_bytes, flagged_bytes, address_bytes}

-- ---- a turn of the loop over the first n tokens; x is what a local holds of the amount at i

-- the tokens from place i on
abbrev pub rest : List ℕ → List ℤ → ℕ → ℕ → List ℕ
rest ids amounts n i = tokens_bytes (drop (i * 32) ids) (drop i (take n amounts))

module _ (ids : List ℕ) (amounts : List ℤ) (n i : ℕ) (x : ℤ) (h : i < n) (k : n ≤ length amounts) (q : x ≡ get_or amounts i (pos 0)) where
  abbrev one : List ℕ
  one = token_bytes (take 32 (drop (i * 32) ids)) x

  turn : rest ids amounts n i ≡ one ++ rest ids amounts n (i + 1)
  unfolding tokens_bytes
  turn =
      let g : i < length (take n amounts) = rw length-take-le (omega arith) in
      let m : i * 32 + 32 ≡ (i + 1) * 32 = omega arith in
      let d : drop 32 (drop (i * 32) ids) ≡ drop ((i + 1) * 32) ids = drop-drop 32 (i * 32) ids ∙ ap (λ (j : ℕ). drop j ids) m in
      rw (← d, q, add-one i, drop-cons (take n amounts) i (pos 0), get_or-take)

  pub turn_size : length (rest ids amounts n i) ≡ length one + length (rest ids amounts n (i + 1))
  turn_size = ap length turn ∙ length-append one _

  pub turn_put : (out : List ℕ) (o r : ℕ) (out' : List ℕ) → Put one out o r out'
      → (o + length (rest ids amounts n i) ≡ r + length (rest ids amounts n (i + 1))) × (sets out o (rest ids amounts n i) ≡ sets out' r (rest ids amounts n (i + 1)))
  turn_put out o r out' e = (omega (arith, turn_size, e.0), rw (turn, sets_append out o one, e.0, e.1))

pub turns_end : (ids : List ℕ) (amounts : List ℤ) (n i : ℕ) → n ≤ i → n ≤ length amounts → rest ids amounts n i ≡ []
unfolding tokens_bytes
turns_end ids amounts n i h k =
    let g : length (take n amounts) ≤ i = omega (arith, length-take-le n amounts k) in
    ap (tokens_bytes (drop (i * 32) ids)) (drop_of_length-le (take n amounts) g)

pub turns_start : (ids : List ℕ) (amounts : List ℤ) (n : ℕ) → tokens_bytes ids (take n amounts) ≡ rest ids amounts n 0
turns_start ids amounts n = refl

-- ---- sizes

pub tokens_length : (ids : List ℕ) (zs : List ℤ) → length zs * 32 ≤ length ids → length (tokens_bytes ids zs) ≡ 32 * length zs + length (numbers_bytes zs)
unfolding tokens_bytes numbers_bytes
tokens_length ids [] h = refl
tokens_length ids (z ∷ zs) h =
    let e : length (take 32 ids) ≡ 32 = length-take-le 32 ids (omega arith) in
    let g = tokens_length (drop 32 ids) zs (rw length-drop (omega arith)) in
    omega (
      arith,
      e,
      g,
      length-append (token_bytes (take 32 ids) z) (tokens_bytes (drop 32 ids) zs),
      length-append (take 32 ids) (enc (zig z)),
      length-append (enc (zig z)) (numbers_bytes zs),
    )

pub balance_length : (nanos : ℤ) (ids : List ℕ) (zs : List ℤ) → length zs * 32 ≤ length ids
    → length (balance_bytes nanos ids zs) ≡ length (enc (zig nanos)) + length (list_bytes zs) + 32 * length zs
balance_length nanos ids zs h =
    let c : List ℕ = enc (zig (pos (length zs))) in
    omega (
      arith,
      tokens_length ids zs h,
      length-append (enc (zig nanos)) (c ++ tokens_bytes ids zs),
      length-append c (tokens_bytes ids zs),
      length-append c (numbers_bytes zs),
    )

-- ---- the flag and the balance

module _ (has : Bool) (nanos : ℤ) (ids : List ℕ) (zs : List ℤ) where
  pub flag_clear : has ≡ false → flagged_bytes has nanos ids zs ≡ 0 ∷ []
  unfolding flagged_bytes
  flag_clear h = rw h

  pub flag_set : has ≡ true → flagged_bytes has nanos ids zs ≡ (1 ∷ []) ++ balance_bytes nanos ids zs
  unfolding flagged_bytes
  flag_set h = rw h

  pub clear_length : has ≡ false → length (flagged_bytes has nanos ids zs) ≡ 1
  clear_length h = ap length (flag_clear h)

  pub set_length : has ≡ true → length (flagged_bytes has nanos ids zs) ≡ 1 + length (balance_bytes nanos ids zs)
  set_length h = ap length (flag_set h) ∙ length-append (1 ∷ []) (balance_bytes nanos ids zs)

-- the size of a set flag and its balance of n tokens
pub set_size : (has : Bool) → has ≡ true → (nanos : ℤ) (ids : List ℕ) (amounts : List ℤ) (n : ℕ) → n ≤ length amounts → n * 32 ≤ length ids
    → length (flagged_bytes has nanos ids (take n amounts)) ≡ 1 + length (enc (zig nanos)) + length (list_bytes (take n amounts)) + 32 * n
set_size has h nanos ids amounts n k g =
    let e : length (take n amounts) ≡ n = length-take-le n amounts k in
    omega (arith, e, set_length has nanos ids (take n amounts) h, balance_length nanos ids (take n amounts) (omega arith))

-- ---- only the ids of the tokens are written, whatever stands behind them

tokens_before : (zs : List ℤ) (ids behind : List ℕ) → length zs * 32 ≤ length ids → tokens_bytes (ids ++ behind) zs ≡ tokens_bytes ids zs
unfolding tokens_bytes
tokens_before [] ids behind h = refl
tokens_before (z ∷ zs) ids behind h =
    let g : 32 ≤ length ids = omega arith in
    rw (take-append-le 32 ids behind g, drop-append-le 32 ids behind g, tokens_before zs (drop 32 ids) behind (rw length-drop (omega arith)))

pub tokens_taken : (ids : List ℕ) (zs : List ℤ) → length zs * 32 ≤ length ids → tokens_bytes ids zs ≡ tokens_bytes (take (length zs * 32) ids) zs
tokens_taken ids zs h =
    let n : ℕ = length zs * 32 in
    ap (λ (l : List ℕ). tokens_bytes l zs) (sym (take-append-drop n ids)) ∙ tokens_before zs (take n ids) (drop n ids) (omega (arith, length-take-le n ids h))

-- ---- three parts one after the other

pub three_length : (a b c : List ℕ) → length (a ++ (b ++ c)) ≡ length a + length b + length c
three_length a b c = omega (arith, length-append a (b ++ c), length-append b c)

module _ (hash : List ℕ) (has : Bool) (nanos : ℤ) (ids : List ℕ) (zs : List ℤ) (row : List ℕ) where
  pub address_length : length (address_bytes hash has nanos ids zs row) ≡ length hash + length (flagged_bytes has nanos ids zs) + length row
  unfolding address_bytes
  address_length = three_length hash (flagged_bytes has nanos ids zs) row

  -- f and g are the flagged balance and the row as functions say them
  pub address_put : {f g : List ℕ} → f ≡ flagged_bytes has nanos ids zs → g ≡ row → (l : List ℕ) (at o : ℕ) (l₁ : List ℕ) (p : ℕ) (l₂ : List ℕ) (r : ℕ) (l₃ : List ℕ)
      → Put hash l at o l₁ → Put f l₁ o p l₂ → Put g l₂ p r l₃ → Put (address_bytes hash has nanos ids zs row) l at r l₃
  unfolding address_bytes
  address_put i j l at o l₁ p l₂ r l₃ d e f =
      put_both hash (flagged_bytes has nanos ids zs ++ row) l at o l₁ r l₃ d
      (put_both (flagged_bytes has nanos ids zs) row l₁ o p l₂ r l₃ (put_as i l₁ o p l₂ e) (put_as j l₂ p r l₃ f))

-- the same record, of the ids of its tokens only
pub address_taken : (hash : List ℕ) (has : Bool) (nanos : ℤ) (ids : List ℕ) (zs : List ℤ) (row : List ℕ) → length zs * 32 ≤ length ids
    → address_bytes hash has nanos ids zs row ≡ address_bytes hash has nanos (take (length zs * 32) ids) zs row
unfolding address_bytes flagged_bytes
address_taken hash has nanos ids zs row h =
    ap (λ (l : List ℕ). hash ++ (cond has (1 ∷ (enc (zig nanos) ++ (enc (zig (pos (length zs))) ++ l))) (0 ∷ []) ++ row)) (tokens_taken ids zs h)

-- the same record, with nanoErgs and row said in another way
pub address_as : (hash : List ℕ) (has : Bool) {nanos nanos' : ℤ} (ids : List ℕ) (zs : List ℤ) {row row' : List ℕ} → nanos' ≡ nanos → row' ≡ row
    → address_bytes hash has nanos' ids zs row' ≡ address_bytes hash has nanos ids zs row
address_as hash has ids zs p q = ap₂ (λ (z : ℤ) (r : List ℕ). address_bytes hash has z ids zs r) p q
