-- Two lists compared place by place: a turn, and each way out.
use mathlib.Core.Path.{◌≡◌, sym, ◌∙◌, ap}
use mathlib.Core.Bool.{true, false}
use mathlib.Core.List.{List}
use Prim.Native.Nat.{ℕ, ◌+◌, ◌≤◌, ◌<◌}
use native.Mathlib.Omega.{arith}
use native.Mathlib.Numerals.{add-one}
use lib.IntN.{ℤ}
use lib.Signed.{lt_z}
use lib.ListN.{length, get_or, drop, drop_of_length-le}
use lib.Seq.{drop-cons}
use borrow.Author.Tests.{lt-ltb, le-ltb}
use Rattle.index_types.specs.declared.Order.{Order}
use Rattle.index_types.specs.declared.Order.TheVariants.{Less, Equal, Greater}
use Rattle.address_order.specs.Order.{or_else, of_numbers, of_signed, of_lists}

-- ---- numbers

module _ (x y : ℕ) where
  pub number_below : x < y → Less ≡ of_numbers x y
  unfolding of_numbers
  number_below h = rw (lt-ltb x y h)

  pub number_above : y < x → Greater ≡ of_numbers x y
  unfolding of_numbers
  number_above h = rw (le-ltb x y (omega arith), lt-ltb y x h)

  pub number_equal : y ≤ x → x ≤ y → Equal ≡ of_numbers x y
  unfolding of_numbers
  number_equal h k = rw (le-ltb x y h, le-ltb y x k)

module _ (x y : ℤ) where
  pub signed_below : lt_z x y ≡ true → Less ≡ of_signed x y
  unfolding of_signed
  signed_below h = rw h

  pub signed_above : lt_z x y ≡ false → lt_z y x ≡ true → Greater ≡ of_signed x y
  unfolding of_signed
  signed_above h k = rw (h, k)

  pub signed_equal : lt_z x y ≡ false → lt_z y x ≡ false → Equal ≡ of_signed x y
  unfolding of_signed
  signed_equal h k = rw (h, k)

-- ---- lists, from place i on

module _ {A : Type 0} (f : A → A → Order) (z : A) (a b : List A) (i : ℕ) where
  pub list_turn : i < length a → i < length b → of_lists f (drop i a) (drop i b) ≡ or_else (f (get_or a i z) (get_or b i z)) (of_lists f (drop (i + 1) a) (drop (i + 1) b))
  unfolding of_lists
  list_turn h k = rw (add-one, drop-cons a i z, drop-cons b i z)

  -- the first place that differs decides
  pub list_decides : (o : Order) → i < length a → i < length b → o ≡ f (get_or a i z) (get_or b i z) → of_lists f (drop i a) (drop i b) ≡ or_else o (of_lists f (drop (i + 1) a) (drop (i + 1) b))
  list_decides o h k e = list_turn h k ∙ ap (λ u. or_else u (of_lists f (drop (i + 1) a) (drop (i + 1) b))) (sym e)

  pub list_end : length a ≤ i → length b ≤ i → of_lists f (drop i a) (drop i b) ≡ Equal
  unfolding of_lists
  list_end h k = rw (drop_of_length-le, drop_of_length-le b)
