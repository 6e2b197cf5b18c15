-- The loops that clear and move, over any element: what they have made of d when j places are written, a turn, and the end.
use Prim.Native.Nat.{ℕ, ◌+◌, ◌≤◌, ◌<◌}
use mathlib.Core.Path.{◌≡◌, refl, sym, ◌∙◌}
use mathlib.Core.List.{List}
use native.Mathlib.Omega.{arith}
use lib.ListN.{length, get_or, take, drop, set, replicate, length-set, length-replicate, get_or-replicate}
use Rattle.stores.specs.Stores.{write}
use Rattle.stores.proofs.StoreLaws.{so_far, write_start, write_turn, write_end, write_ahead, length_part, part_at}

module _ {A : Type 0} where
  -- d' is d with the first j of s in the places from `at` on
  abbrev pub Writing : List A → ℕ → List A → List A → ℕ → Type 0
  Writing d at s d' j = (length d' ≡ length d) × (d' ≡ so_far d at s j)

  pub writing_start : (d : List A) (at : ℕ) (s : List A) → Writing d at s d 0
  writing_start d at s = (refl, write_start d at s)

  module _ (d d' : List A) (at j : ℕ) (z : A) where
    pub clear_turn : (n : ℕ) → Writing d at (replicate n z) d' j → at + n ≤ length d → j < n → Writing d at (replicate n z) (set d' (at + j) z) (j + 1)
    clear_turn n e h k =
        (rw length-set e.0, write_turn d d' (replicate n z) at j z z e.1 (omega arith) (rw length-replicate k) (sym (get_or-replicate n j z z k)))

    pub clear_end : (n : ℕ) → Writing d at (replicate n z) d' j → j ≤ n → n ≤ j → d' ≡ write at (replicate n z) d
    clear_end n e h k = write_end d d' (replicate n z) at j e.1 (rw length-replicate (omega arith))

    -- the part ahead of what is written still stands in d'
    pub move_turn : (from n : ℕ) (v : A) → v ≡ get_or d' (from + j) z → Writing d at (take n (drop from d)) d' j → at ≤ from → from + n ≤ length d → j < n
        → Writing d at (take n (drop from d)) (set d' (at + j) v) (j + 1)
    move_turn from n v q e h g k =
        let s = take n (drop from d) in
        let l = length_part from n d g in
        let ahead = write_ahead d d' s at j (from + j) z e.1 (omega arith) (omega arith) (omega arith) in
        (rw length-set e.0, write_turn d d' s at j v z e.1 (omega arith) (omega arith) (q ∙ ahead ∙ sym (part_at from n j d z k)))

    pub move_end : (from n : ℕ) → Writing d at (take n (drop from d)) d' j → from + n ≤ length d → j ≤ n → n ≤ j → d' ≡ write at (take n (drop from d)) d
    move_end from n e g h k = write_end d d' (take n (drop from d)) at j e.1 (omega (arith, length_part from n d g))
