-- Laws of a row's bytes, as the writers meet them: number by number, and two parts one after the other.
use Prim.Native.Nat.{ℕ, ◌+◌, ◌*◌, ◌-◌, ◌≤◌, ◌<◌}
use mathlib.Core.Logic.{◌⊎◌, inl, inr, ⊎_elim}
use mathlib.Core.Path.{◌≡◌, refl, sym, ap, ap₂, ◌∙◌}
use mathlib.Core.List.{List, [], ◌++◌}
use native.Mathlib.Omega.{arith}
use native.Mathlib.Numerals.{add-one}
use lib.IntN.{ℤ, pos}
use lib.ListN.{length, take, drop, get_or, length-append, drop_of_length-le}
use lib.Seq.{sets, drop-cons, length-take-le, get_or-take}
use mir.Syntax.{w32}
use mir.Val.{SFits}
use Rattle.stores.specs.Stores.{Put}
use Rattle.stores.proofs.PutLaws.{sets_append, put_both, put_as}
use Rattle.vlq_core.specs.Zigzag.{zig}
use Rattle.vlq_core.specs.Groups.{enc}
use Rattle.vlq_core.proofs.GroupLaws.{enc_length, number_length}
use Rattle.segment_core.specs.Row.{numbers_bytes, list_bytes, counts_bytes, row_bytes, row_limit, Held, Room}

-- ---- a turn of a loop over the first n numbers of xs; x is what a local holds of the number at i

module _ (xs : List ℤ) (n i : ℕ) (x : ℤ) (h : i < n) (k : n ≤ length xs) (q : x ≡ get_or xs i (pos 0)) where
  turn : numbers_bytes (drop i (take n xs)) ≡ enc (zig x) ++ numbers_bytes (drop (i + 1) (take n xs))
  unfolding numbers_bytes
  turn =
      let g : i < length (take n xs) = rw length-take-le (omega arith) in
      rw (q, add-one i, drop-cons (take n xs) i (pos 0), get_or-take)

  pub size_step : length (numbers_bytes (drop i (take n xs))) ≡ length (enc (zig x)) + length (numbers_bytes (drop (i + 1) (take n xs)))
  size_step = ap length turn ∙ length-append (enc (zig x)) _

  pub emit_step : (out : List ℕ) (o r : ℕ) (out' : List ℕ) → Put (enc (zig x)) out o r out'
      → (o + length (numbers_bytes (drop i (take n xs))) ≡ r + length (numbers_bytes (drop (i + 1) (take n xs))))
      × (sets out o (numbers_bytes (drop i (take n xs))) ≡ sets out' r (numbers_bytes (drop (i + 1) (take n xs))))
  emit_step out o r out' e = (omega (arith, size_step, e.0), rw (turn, sets_append out o (enc (zig x)), e.0, e.1))

  -- what is left has room of its own, or 10 bytes for each number
  pub room_step : (o len : ℕ) → length (enc (zig x)) ≤ 10 → Room o len (numbers_bytes (drop i (take n xs))) (10 * (n - i))
      → (o + length (enc (zig x)) ≤ len) × Room (o + length (enc (zig x))) len (numbers_bytes (drop (i + 1) (take n xs))) (10 * (n - (i + 1)))
  room_step o len ten r =
      let e = size_step in
      ⊎_elim (λ (a : o + length (numbers_bytes (drop i (take n xs))) ≤ len). (omega arith, inl (omega arith)))
      (λ (a : o + 10 * (n - i) ≤ len). (omega arith, inr (omega arith))) r

pub past : (xs : List ℤ) (n i : ℕ) → n ≤ i → n ≤ length xs → numbers_bytes (drop i (take n xs)) ≡ []
unfolding numbers_bytes
past xs n i h k = let g : length (take n xs) ≤ i = omega (arith, length-take-le n xs k) in ap numbers_bytes (drop_of_length-le (take n xs) g)

-- ---- a part a and then a part b, each of which a function says in its own way, a' and b'

module _ {a a' b b' : List ℕ} (p : a' ≡ a) (q : b' ≡ b) where
  pub both_size : (i j : ℕ) → i ≡ length a' → j ≡ length b' → i + j ≡ length (a ++ b)
  both_size i j e f = ap₂ ◌+◌ (e ∙ ap length p) (f ∙ ap length q) ∙ sym (length-append a b)

  pub both_room : (at len : ℕ) → at + length (a ++ b) ≤ len → at + length a' + length b' ≤ len
  both_room at len h = omega (arith, length-append a b, ap length p, ap length q)

  pub both_put : (l : List ℕ) (at o : ℕ) (l₁ : List ℕ) (r : ℕ) (l₂ : List ℕ) → Put a' l at o l₁ → Put b' l₁ o r l₂ → Put (a ++ b) l at r l₂
  both_put l at o l₁ r l₂ e f = put_both a b l at o l₁ r l₂ (put_as p l at o l₁ e) (put_as q l₁ o r l₂ f)

-- ---- a list's length; x is what a local holds of it

pub length_bytes : (n : ℕ) (xs : List ℤ) → n ≤ length xs → (x : ℤ) → x ≡ pos n → enc (zig x) ≡ enc (zig (pos (length (take n xs))))
length_bytes n xs k x q = ap (λ (z : ℤ). enc (zig z)) (q ∙ ap pos (sym (length-take-le n xs k)))

pub length_size : (n : ℕ) → n ≤ 512 → length (enc (zig (pos n))) ≤ 2
length_size n h = (enc_length 1 (2 * n) (omega arith)).1

pub list_room : (n : ℕ) (xs : List ℤ) → Held n xs → (x : ℤ) → x ≡ pos n → (at len : ℕ) → Room at len (list_bytes (take n xs)) 5122
    → (at + length (enc (zig x)) ≤ len) × Room (at + length (enc (zig x))) len (numbers_bytes (take n xs)) (10 * n)
list_room n xs h x q at len r =
    let p = length_bytes n xs h.1 x q in
    let two : length (enc (zig x)) ≤ 2 = rw q (length_size n h.0) in
    ⊎_elim (λ (a : at + length (list_bytes (take n xs)) ≤ len). let b = both_room p refl at len a in (omega arith, inl b))
    (λ (a : at + 5122 ≤ len). (omega arith, inr (omega (arith, h.0)))) r

-- ---- a row

pub row_length : (ts bs : List ℤ) (b t : ℤ) → length (row_bytes ts bs b t) ≡ length (list_bytes ts) + length (list_bytes bs) + length (counts_bytes b t)
unfolding row_bytes
row_length ts bs b t = omega (arith, length-append (list_bytes ts) (list_bytes bs ++ counts_bytes b t), length-append (list_bytes bs) (counts_bytes b t))

-- room for its three parts, one after the other; c is the counts as a function says them
module _ (ts bs : List ℤ) (b t : ℤ) (at len : ℕ) (r : Room at len (row_bytes ts bs b t) row_limit) where
  pub room_txs : Room at len (list_bytes ts) 5122
  room_txs = ⊎_elim (λ (a : at + length (row_bytes ts bs b t) ≤ len). inl (omega (arith, row_length ts bs b t))) (λ (a : at + row_limit ≤ len). inr (omega arith)) r

  module _ (o : ℕ) (e : o ≡ at + length (list_bytes ts)) (f : o ≤ at + 5122) where
    pub room_boxes : Room o len (list_bytes bs) 5122
    room_boxes = ⊎_elim (λ (a : at + length (row_bytes ts bs b t) ≤ len). inl (omega (arith, row_length ts bs b t))) (λ (a : at + row_limit ≤ len). inr (omega arith)) r

    pub room_counts : (p : ℕ) → p ≡ o + length (list_bytes bs) → p ≤ o + 5122 → length (counts_bytes b t) ≤ 10 → p + length (counts_bytes b t) ≤ len
    room_counts p g h c = ⊎_elim (λ (a : at + length (row_bytes ts bs b t) ≤ len). omega (arith, row_length ts bs b t)) (λ (a : at + row_limit ≤ len). omega arith) r

-- the spill counts have at most 5 bytes each
pub counts_size : (b t : ℤ) → SFits w32 b → SFits w32 t → length (counts_bytes b t) ≤ 10
counts_size b t f g = omega (arith, length-append (enc (zig b)) (enc (zig t)), (number_length w32 4 (omega arith) b f).1, (number_length w32 4 (omega arith) t g).1)

-- the three parts of a row, one after the other
module _ (ts bs : List ℤ) (b t : ℤ) {c : List ℕ} (q : c ≡ counts_bytes b t) (l : List ℕ) (at o : ℕ) (l₁ : List ℕ) (p : ℕ) (l₂ : List ℕ) (r : ℕ) (l₃ : List ℕ) where
  pub row_put : Put (list_bytes ts) l at o l₁ → Put (list_bytes bs) l₁ o p l₂ → Put c l₂ p r l₃ → Put (row_bytes ts bs b t) l at r l₃
  unfolding row_bytes
  row_put e f g = put_both (list_bytes ts) (list_bytes bs ++ counts_bytes b t) l at o l₁ r l₃ e (put_both (list_bytes bs) (counts_bytes b t) l₁ o p l₂ r l₃ f (put_as q l₂ p r l₃ g))
