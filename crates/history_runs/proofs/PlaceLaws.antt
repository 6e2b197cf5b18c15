-- Parts of a list in which one part was put anew, and the places of the runner's state.
use Prim.Native.Nat.{ℕ, suc, ◌+◌, ◌*◌, ◌-◌, ◌≤◌, ◌<◌}
use mathlib.Core.Path.{◌≡◌, sym, ap, ◌∙◌}
use mathlib.Core.Logic.{◌⊎◌, inl, inr}
use mathlib.Core.List.{List, ◌++◌, append_assoc}
use native.Mathlib.Omega.{arith}
use native.Mathlib.Decide.{dec_le, dec_lt}
use native.Mathlib.Nat.{mul-le-mul_right}
use lib.ListN.{length, take, drop, get_or, take-append-drop, length-drop}
use lib.Seq.{drop-append-le, take-append-le, drop-drop, length-take-le, take_at, drop_at}
use borrow.Rule.Slice.PartMut.{mid_of, post_of, put_mid}
use Rattle.stores.specs.Stores.{write}
use Rattle.stores.proofs.StoreLaws.{part_at}
use Rattle.segment_id.specs.declared.Kind.{Kind}
use Rattle.call_steps.specs.State.{head_at, length_at, spills_at}
use Rattle.call_steps.proofs.StateLaws.{kind_few}
use Rattle.ledger.specs.Ledger.{Series, boxes, txs, parent_of}
use Rattle.history.specs.Index.{kind_of}

-- ---- lists

-- n elements from b on have none in common with k elements from a on
abbrev pub Clear : (a k b n : ℕ) → Type 0
Clear a k b n = (b + n ≤ a) ⊎ (a + k ≤ b)

module _ {A : Type 0} where
  -- a part of the front is a part of the whole
  part_front : (u v : List A) (b n : ℕ) → b + n ≤ length u → mid_of b n (u ++ v) ≡ mid_of b n u
  part_front u v b n h =
      let i : b ≤ length u = omega arith in
      let j : n ≤ length (drop b u) = omega (arith, length-drop b u) in
      ap (take n) (drop-append-le b u v i) ∙ take-append-le n (drop b u) v j

  module _ (a k : ℕ) (xs ys : List A) (long : length ys ≡ k) (room : a + k ≤ length xs) where
    front_long : length (take a xs) ≡ a
    front_long = length-take-le a xs (omega arith)

    -- the part itself
    pub part_put : mid_of a k (put_mid a k xs ys) ≡ ys
    part_put = ap (take k) (drop_at (take a xs) (ys ++ post_of a k xs) a front_long) ∙ take_at ys (post_of a k xs) k long

    -- a part before it, and one behind it
    pub part_before : (b n : ℕ) → b + n ≤ a → mid_of b n (put_mid a k xs ys) ≡ mid_of b n xs
    part_before b n h =
        let i : b + n ≤ length (take a xs) = omega (arith, front_long) in
        part_front (take a xs) (ys ++ post_of a k xs) b n i
        ∙ sym (part_front (take a xs) (drop a xs) b n i)
        ∙ ap (mid_of b n) (take-append-drop a xs)

    pub rest_same : drop (a + k) (put_mid a k xs ys) ≡ drop (a + k) xs
    rest_same =
        sym (drop-drop k a (put_mid a k xs ys))
        ∙ ap (drop k) (drop_at (take a xs) (ys ++ post_of a k xs) a front_long)
        ∙ drop_at ys (post_of a k xs) k long
        ∙ drop-drop k a xs

    pub part_behind : (b n : ℕ) → a + k ≤ b → mid_of b n (put_mid a k xs ys) ≡ mid_of b n xs
    part_behind b n h =
        let e : a + k + (b - (a + k)) ≡ b = omega arith in
        let from : (l : List A) → drop b l ≡ drop (b - (a + k)) (drop (a + k) l) = λ l. sym (drop-drop (b - (a + k)) (a + k) l ∙ ap (λ (j : ℕ). drop j l) e) in
        ap (take n) (from (put_mid a k xs ys) ∙ ap (drop (b - (a + k))) rest_same ∙ sym (from xs))

    -- a part that has no element in common with it
    pub part_clear : (b n : ℕ) → Clear a k b n → mid_of b n (put_mid a k xs ys) ≡ mid_of b n xs
    part_clear b n (inl h) = part_before b n h
    part_clear b n (inr h) = part_behind b n h

  -- an element by the part of it alone
  pub element : (i : ℕ) (l m : List A) (z : A) → mid_of i 1 l ≡ mid_of i 1 m → get_or l i z ≡ get_or m i z
  element i l m z e =
      let q : i + 0 ≡ i = omega arith in
      let at : (x : List A) → get_or (mid_of i 1 x) 0 z ≡ get_or x i z = λ x. part_at i 1 0 x z (omega arith) ∙ ap (λ (j : ℕ). get_or x j z) q in
      sym (at l) ∙ ap (λ (x : List A). get_or x 0 z) e ∙ at m

  pub write_put : (a k : ℕ) (xs ys : List A) → length ys ≡ k → write a ys xs ≡ put_mid a k xs ys
  unfolding write
  write_put a k xs ys e =
      append_assoc (take a xs) ys (drop (a + length ys) xs)
      ∙ ap (λ (t : List A). take a xs ++ (ys ++ t)) (ap (λ (j : ℕ). drop (a + j) xs) e ∙ sym (drop-drop k a xs))

-- ---- the places of two series

abbrev pub Other : Series → Series → Type 0
Other ch d = spills_at (kind_of d) (parent_of d) ≡ spills_at (kind_of ch) (parent_of ch) → ⊥

pub other : (ch d : Series) → (ch ≡ d → ⊥) → Other ch d
other (boxes p) (boxes q) f e = f (ap boxes (omega (arith, e)))
other (boxes p) (txs q) f e = omega (arith, e)
other (txs p) (boxes q) f e = omega (arith, e)
other (txs p) (txs q) f e = f (ap txs (omega (arith, e)))

module _ (ch d : Series) (f : Other ch d) where
  pub lengths_apart : length_at (kind_of d) (parent_of d) ≡ length_at (kind_of ch) (parent_of ch) → ⊥
  lengths_apart e = f (omega (arith, e, kind_few (kind_of d), kind_few (kind_of ch)))

  pub heads_apart : Clear (head_at (kind_of ch) (parent_of ch)) 512 (head_at (kind_of d) (parent_of d)) 512
  heads_apart = by_order (dec_le (head_at (kind_of d) (parent_of d) + 512) (head_at (kind_of ch) (parent_of ch))) (dec_le (head_at (kind_of ch) (parent_of ch) + 512) (head_at (kind_of d) (parent_of d)))
    where
      by_order : Dec (head_at (kind_of d) (parent_of d) + 512 ≤ head_at (kind_of ch) (parent_of ch)) → Dec (head_at (kind_of ch) (parent_of ch) + 512 ≤ head_at (kind_of d) (parent_of d))
          → Clear (head_at (kind_of ch) (parent_of ch)) 512 (head_at (kind_of d) (parent_of d)) 512
      by_order (yes h) x = inl h
      by_order (no h) (yes g) = inr g
      by_order (no h) (no g) = absurd (f (omega (arith, h, g, kind_few (kind_of d), kind_few (kind_of ch))))

-- ---- the places of a parent's balance

-- a head, and the amounts and the nanoErgs of any parent
pub head_amounts : (k : Kind) (p q : ℕ) → Clear (head_at k p) 512 (q * 1153 + 1024) 128
head_amounts k p q = by_order (dec_le p q)
  where
    by_order : Dec (p ≤ q) → Clear (head_at k p) 512 (q * 1153 + 1024) 128
    by_order (yes h) = inr (omega (arith, kind_few k))
    by_order (no h) = inl (omega (arith, h, kind_few k))

pub head_nanos : (k : Kind) (p q : ℕ) → Clear (head_at k p) 512 (q * 1153 + 1152) 1
head_nanos k p q = by_order (dec_le p q)
  where
    by_order : Dec (p ≤ q) → Clear (head_at k p) 512 (q * 1153 + 1152) 1
    by_order (yes h) = inr (omega (arith, kind_few k))
    by_order (no h) = inl (omega (arith, h, kind_few k))

pub amounts_head : (k : Kind) (p q : ℕ) → Clear (p * 1153 + 1024) 129 (head_at k q) 512
amounts_head k p q = by_order (dec_le q p)
  where
    by_order : Dec (q ≤ p) → Clear (p * 1153 + 1024) 129 (head_at k q) 512
    by_order (yes h) = inl (omega (arith, kind_few k))
    by_order (no h) = inr (omega (arith, h, kind_few k))

-- the ids of a parent's tokens, and any parent's id
pub tokens_id : (p q : ℕ) → Clear (p * 4128 + 32) 4096 (q * 4128) 32
tokens_id p q = by_order (dec_le q p)
  where
    by_order : Dec (q ≤ p) → Clear (p * 4128 + 32) 4096 (q * 4128) 32
    by_order (yes h) = inl (omega arith)
    by_order (no h) = inr (omega (arith, h))

-- those of two parents: w places of each m
pub parents_apart : (m o w v i : ℕ) (p q : ℕ) → (p ≡ q → ⊥) → o + w ≤ m → o ≤ i → i + v ≤ o + w → Clear (p * m + o) w (q * m + i) v
parents_apart m o w v i p q f g h j = by_order (dec_lt q p)
  where
    by_order : Dec (q < p) → Clear (p * m + o) w (q * m + i) v
    by_order (yes l) = let z : suc q * m ≤ p * m = mul-le-mul_right m l in inl (omega (arith, z))
    by_order (no l) = let z : suc p * m ≤ q * m = mul-le-mul_right m (omega (arith, l, f)) in inr (omega (arith, z))
