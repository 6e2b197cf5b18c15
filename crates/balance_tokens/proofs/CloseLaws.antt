-- Elements of a list that was written to, and of one that a place has left.
use Prim.Native.Nat.{ℕ, ◌+◌, ◌-◌, ◌*◌, ◌<◌, ◌≤◌}
use native.Mathlib.Omega.{arith}
use mathlib.Core.Path.{◌≡◌, ap, ◌∙◌}
use mathlib.Core.List.{List, ◌++◌}
use lib.ListN.{length, take, drop, get_or, replicate, length-append, length-replicate, get_or-append}
use lib.Seq.{length-take-le, get_or-take, get_or-append-add}
use Rattle.stores.specs.Stores.{write}
use Rattle.stores.proofs.StoreLaws.{length_write, length_part, part_at}
use Rattle.balance_tokens.specs.Tokens.{closed_up}

module _ {A : Type 0} (at : ℕ) (s d : List A) (z : A) (h : at ≤ length d) where
  front : length (take at d ++ s) ≡ at + length s
  front = let l : length (take at d) ≡ at = length-take-le at d h in omega (arith, length-append (take at d) s)

  pub write_before : (j : ℕ) → j < at → get_or (write at s d) j z ≡ get_or d j z
  unfolding write
  write_before j g =
      get_or-append (take at d ++ s) (drop (at + length s) d) z j (omega (arith, front))
      ∙ get_or-append (take at d) s z j (omega (arith, length-take-le at d h))
      ∙ get_or-take at d j z g

  pub write_in : (k : ℕ) → k < length s → get_or (write at s d) (at + k) z ≡ get_or s k z
  unfolding write
  write_in k g =
      let l : length (take at d) ≡ at = length-take-le at d h in
      let q : at + k ≡ length (take at d) + k = omega arith in
      get_or-append (take at d ++ s) (drop (at + length s) d) z (at + k) (omega (arith, front))
      ∙ ap (λ (i : ℕ). get_or (take at d ++ s) i z) q
      ∙ get_or-append-add (take at d) s k z

-- ---- the lists of `closed_up`

module _ {A : Type 0} (w p n : ℕ) (z : A) (l : List A) (at from m : ℕ) (ea : at ≡ p * w) (ef : from ≡ (p + 1) * w) (em : m ≡ (n - (p + 1)) * w) (h : from + m ≤ length l)
    (h' : at + m + w ≤ length l) where
  abbrev tail : List A
  tail = take m (drop from l) ++ replicate w z

  part_length : length (take m (drop from l)) ≡ m
  part_length = length_part from m l h

  tail_length : length tail ≡ m + w
  tail_length = length-append (take m (drop from l)) (replicate w z) ∙ rw (part_length, length-replicate w z)

  closed_is : closed_up w z p n l ≡ write at tail l
  unfolding closed_up
  closed_is = rw (ea, ef, em)

  pub closed_length : length (closed_up w z p n l) ≡ length l
  closed_length = ap length closed_is ∙ length_write at tail l (omega (arith, tail_length))

  pub closed_lo : (j : ℕ) → j < at → get_or (closed_up w z p n l) j z ≡ get_or l j z
  closed_lo j g = ap (λ (x : List A). get_or x j z) closed_is ∙ write_before at tail l z (omega arith) j g

  pub closed_hi : (k : ℕ) → k < m → get_or (closed_up w z p n l) (at + k) z ≡ get_or l (from + k) z
  closed_hi k g =
      ap (λ (x : List A). get_or x (at + k) z) closed_is
      ∙ write_in at tail l z (omega arith) k (omega (arith, tail_length))
      ∙ get_or-append (take m (drop from l)) (replicate w z) z k (omega (arith, part_length))
      ∙ part_at from m k l z g
