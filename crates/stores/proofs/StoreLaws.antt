-- Laws of `write`: its length, what stands before, in and behind the part written, writes that meet; and the loop that writes one place at a time.
use Prim.Native.Nat.{ℕ, suc, ◌+◌, ◌-◌, ◌≤◌, ◌<◌}
use mathlib.Core.Path.{◌≡◌, sym, ap, ◌∙◌}
use mathlib.Core.List.{List, [], ◌∷◌, ◌++◌, append_assoc, append-nil}
use native.Mathlib.Omega.{arith}
use native.Mathlib.Numerals.{add-one}
use lib.ListN.{length, get_or, take, drop, set, length-take, length-drop, length-append, drop_of_length-le}
use lib.Seq.{drop-drop, take-length, take_at, drop_at, paste, paste-zero, paste-suc, drop-paste, get_or-drop, get_or-take, set_split, append_snoc, sets, sets-eq}
use Rattle.stores.specs.Stores.{write}

module _ {A : Type 0} where
  -- ---- a loop that writes s from `at` on: what it has made of d when j places are written

  unfoldable pub so_far : List A → ℕ → List A → ℕ → List A
  so_far d at s j = paste d at s j

  pub write_start : (d : List A) (at : ℕ) (s : List A) → d ≡ so_far d at s 0
  unfolding so_far
  write_start d at s = paste-zero d at s

  pub write_turn : (d d' s : List A) (at j : ℕ) (v z : A) → d' ≡ so_far d at s j → at + j < length d → j < length s → v ≡ get_or s j z
      → set d' (at + j) v ≡ so_far d at s (j + 1)
  unfolding so_far
  write_turn d d' s at j v z e h k ev = rw (e, ev, add-one j) (paste-suc d at s j z h k)

  pub write_end : (d d' s : List A) (at j : ℕ) → d' ≡ so_far d at s j → j ≡ length s → d' ≡ write at s d
  unfolding write so_far
  write_end d d' s at j e h = e ∙ rw (h, take-length)

  -- what lies behind the part written so far is as it was
  pub write_ahead : (d d' s : List A) (at j k : ℕ) (z : A) → d' ≡ so_far d at s j → at + j ≤ length d → j ≤ length s → at + j ≤ k → get_or d' k z ≡ get_or d k z
  unfolding so_far
  write_ahead d d' s at j k z e h g m =
      let q : at + j + (k - (at + j)) ≡ k = omega arith in
      let f : get_or (drop (at + j) d') (k - (at + j)) z ≡ get_or (drop (at + j) d) (k - (at + j)) z
      = rw e (ap (λ (l : List A). get_or l (k - (at + j)) z) (drop-paste d at s j (omega arith) g)) in
      rw (get_or-drop, get_or-drop, q) at f

  -- ---- a write

  pub length_write : (at : ℕ) (s d : List A) → at + length s ≤ length d → length (write at s d) ≡ length d
  unfolding write
  length_write at s d h = simp (length-append, length-take, length-drop) (omega arith)

  -- a store of one place is a write
  pub write_one : (at : ℕ) (v : A) (d : List A) → at < length d → set d at v ≡ write at (v ∷ []) d
  unfolding write
  write_one at v d h = rw (set_split, add-one at) (sym (append_snoc (take at d) v (drop (suc at) d)))

  -- a write directly behind another
  pub write_write : (at at' : ℕ) (s t d : List A) → at' ≡ at + length s → at' + length t ≤ length d → write at' t (write at s d) ≡ write at (s ++ t) d
  unfolding write
  write_write at at' s t d e h =
      let p : length (take at d ++ s) ≡ at' = simp (length-append, length-take) (omega arith) in
      let w : List A = take at d ++ s ++ drop (at + length s) d in
      let q₁ : take at' w ≡ take at d ++ s = take_at (take at d ++ s) (drop (at + length s) d) at' p in
      let q₂ : drop at' w ≡ drop at' d = drop_at (take at d ++ s) (drop (at + length s) d) at' p ∙ rw e in
      let q₃ : drop (at' + length t) w ≡ drop (at' + length t) d = sym (drop-drop (length t) at' w) ∙ ap (drop (length t)) q₂ ∙ drop-drop (length t) at' d in
      let q₄ : at' + length t ≡ at + length (s ++ t) = rw length-append (omega arith) in
      rw (q₁, q₃, q₄, append_assoc (take at d) s t)

  -- a run of single stores is a write
  pub sets_write : (s d : List A) (at : ℕ) → at + length s ≤ length d → sets d at s ≡ write at s d
  unfolding write
  sets_write s d at h = sets-eq s d at h

  -- a write over a whole list
  pub write_whole : (s d : List A) → length s ≡ length d → write 0 s d ≡ s
  unfolding write
  write_whole s d h =
      let k : length d ≤ 0 + length s = omega arith in
      ap (λ (l : List A). s ++ l) (drop_of_length-le d k) ∙ append-nil s

  -- ---- a part of a list

  pub length_part : (from n : ℕ) (d : List A) → from + n ≤ length d → length (take n (drop from d)) ≡ n
  length_part from n d h = simp (length-take, length-drop) (omega arith)

  pub part_at : (from n j : ℕ) (d : List A) (z : A) → j < n → get_or (take n (drop from d)) j z ≡ get_or d (from + j) z
  part_at from n j d z h = rw (get_or-take, get_or-drop)
