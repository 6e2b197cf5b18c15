-- Laws of a box's tokens one after the other: a turn of the loop, a refusal, the end; the count stays within 128.
use Prim.Native.Nat.{ℕ, suc, ◌+◌, ◌-◌, ◌<◌, ◌≤◌}
use native.Mathlib.Omega.{arith}
use native.Mathlib.Numerals.{add-one}
use mathlib.Core.Path.{◌≡◌, refl, ◌∙◌}
use mathlib.Core.Bool.{Bool, true, false, cond}
use mathlib.Core.List.{List}
use lib.ListN.{get_or}
use lib.Dec.{ltb}
use lib.IntN.{ℤ, pos, ◌+ℤ◌, ◌-ℤ◌}
use lib.Signed.{le_z}
use borrow.Author.Tests.{ltb-true}
use Rattle.std.specs.Prelude.{Option, Some, None}
use Rattle.signed.specs.Checked.{checked}
use Rattle.balance_tokens.specs.Tokens.{Held, Changed, held, refused_by, id_at, place_of, with_amount, with_token, without_token, sum_at, difference_at, add_token, subtract_token, change_token, and_then, change_tokens}

module _ (adding : Bool) (ids : List ℕ) (amounts : List ℤ) where
  pub run_step : (j n : ℕ) (h : Held) → j < n
      → change_tokens adding ids amounts j (n - j) h ≡ and_then (change_token adding h (id_at ids j) (get_or amounts j (pos 0))) (change_tokens adding ids amounts (j + 1) (n - (j + 1)))
  unfolding change_tokens
  run_step j n h u =
      let e : n - j ≡ suc (n - (j + 1)) = omega arith in
      rw (e, add-one)

  module _ (j n : ℕ) (h : Held) (u : j < n) where
    pub run_on : (g : Held) → held g ≡ change_token adding h (id_at ids j) (get_or amounts j (pos 0)) → change_tokens adding ids amounts j (n - j) h ≡ change_tokens adding ids amounts (j + 1) (n - (j + 1)) g
    run_on g e = run_step j n h u ∙ rw (← e)

    pub run_refused : (code : ℕ) → refused_by code ≡ change_token adding h (id_at ids j) (get_or amounts j (pos 0)) → change_tokens adding ids amounts j (n - j) h ≡ refused_by code
    run_refused code e = run_step j n h u ∙ rw (← e)

  pub run_end : (j n : ℕ) (h : Held) → n ≤ j → change_tokens adding ids amounts j (n - j) h ≡ held h
  unfolding change_tokens
  run_end j n h u =
      let e : n - j ≡ 0 = omega arith in
      rw e

-- ---- at most 128 tokens

abbrev pub Few : Changed → Type 0
Few (held h) = h.count ≤ 128
Few (refused_by code) = Unit {0}

module _ (h : Held) (f : h.count ≤ 128) where
  few_sum : (i : ℕ) (s : Option ℤ) → Few (sum_at h i s)
  few_sum i (Some v) = f
  few_sum i None = tt

  few_difference : (i : ℕ) (s : Option ℤ) → Few (difference_at h i s)
  few_difference i (Some v) = by_test (le_z v (pos 0))
    where
      by_test : (t : Bool) → Few (held (cond t (without_token h i) (with_amount h i v)))
      by_test true = omega arith
      by_test false = f
  few_difference i None = tt

  few_add : (key : List ℕ) (v : ℤ) → Few (add_token h key v)
  unfolding add_token
  few_add key v = let i = place_of key h.ids h.count in by_test i (ltb i h.count) (ltb h.count 128) refl
    where
      by_test : (i : ℕ) (s t : Bool) → ltb h.count 128 ≡ t
          → Few (cond s (sum_at h i (checked (get_or h.amounts i (pos 0) +ℤ v))) (cond t (held (with_token h key v)) (refused_by 24)))
      by_test i true t e = few_sum i (checked (get_or h.amounts i (pos 0) +ℤ v))
      by_test i false true e = omega (arith, ltb-true h.count 128 e)
      by_test i false false e = tt

  few_subtract : (key : List ℕ) (v : ℤ) → Few (subtract_token h key v)
  unfolding subtract_token
  few_subtract key v = let i = place_of key h.ids h.count in by_test i (ltb i h.count)
    where
      by_test : (i : ℕ) (s : Bool) → Few (cond s (difference_at h i (checked (get_or h.amounts i (pos 0) -ℤ v))) (held h))
      by_test i true = few_difference i (checked (get_or h.amounts i (pos 0) -ℤ v))
      by_test i false = f

  -- a token, whichever way, leaves at most 128
  pub few_change : (adding : Bool) (key : List ℕ) (v : ℤ) → Few (change_token adding h key v)
  few_change true key v = few_add key v
  few_change false key v = few_subtract key v
