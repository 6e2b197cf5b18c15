-- Laws of one token added or subtracted: one for each way out; and of a place that leaves.
use Prim.Native.Nat.{ℕ, ◌+◌, ◌-◌, ◌*◌, ◌<◌, ◌≤◌}
use native.Mathlib.Omega.{arith}
use mathlib.Core.Path.{◌≡◌, sym, ◌∙◌}
use mathlib.Core.List.{List}
use lib.ListN.{length, get_or, take, drop, replicate, length-replicate}
use lib.IntN.{ℤ, pos, ◌+ℤ◌, ◌-ℤ◌}
use borrow.Author.Tests.{lt-ltb, le-ltb}
use Rattle.std.specs.Prelude.{Option}
use Rattle.signed.specs.Checked.{checked}
use Rattle.stores.specs.Stores.{write}
use Rattle.stores.proofs.StoreLaws.{write_write, length_part}
use Rattle.balance_tokens.specs.Tokens.{Held, held, refused_by, place_of, with_token, closed_up, sum_at, add_token, difference_at, subtract_token}

module _ (h : Held) (key : List ℕ) (v : ℤ) (i : ℕ) (p : i ≡ place_of key h.ids h.count) where
  pub add_known : (s : Option ℤ) → i < h.count → s ≡ checked (get_or h.amounts i (pos 0) +ℤ v) → sum_at h i s ≡ add_token h key v
  unfolding add_token
  add_known s g q = sym (rw (sym p, lt-ltb _ _ g, sym q))

  pub add_new : h.count ≤ i → h.count < 128 → held (with_token h key v) ≡ add_token h key v
  unfolding add_token
  add_new g k = sym (rw (sym p, le-ltb _ _ g, lt-ltb _ _ k))

  pub add_full : h.count ≤ i → 128 ≤ h.count → refused_by 24 ≡ add_token h key v
  unfolding add_token
  add_full g k = sym (rw (sym p, le-ltb _ _ g, le-ltb _ _ k))

  pub subtract_known : (s : Option ℤ) → i < h.count → s ≡ checked (get_or h.amounts i (pos 0) -ℤ v) → difference_at h i s ≡ subtract_token h key v
  unfolding subtract_token
  subtract_known s g q = sym (rw (sym p, lt-ltb _ _ g, sym q))

  pub subtract_unknown : h.count ≤ i → held h ≡ subtract_token h key v
  unfolding subtract_token
  subtract_unknown g = sym (rw (sym p, le-ltb _ _ g))

-- ---- the later ones moved up, then zeroes: one write
module _ {A : Type 0} (w : ℕ) (z : A) (i n : ℕ) (l : List A) where
  pub close_writes : (at from m last : ℕ) → at ≡ i * w → from ≡ (i + 1) * w → m ≡ (n - (i + 1)) * w → from ≡ at + w → last ≡ at + m → from + m ≤ length l
      → write last (replicate w z) (write at (take m (drop from l)) l) ≡ closed_up w z i n l
  unfolding closed_up
  close_writes at from m last ea ef em ew el h =
      let k = length_part from m l h in
      let r = length-replicate w z in
      write_write at last (take m (drop from l)) (replicate w z) l (omega arith) (omega arith) ∙ rw (ea, ef, em)
