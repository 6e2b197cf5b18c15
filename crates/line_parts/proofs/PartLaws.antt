-- Laws of the parts of a line: the room that they take, and parts one behind the other.
use Prim.Native.Nat.{ℕ, zero, suc, ◌+◌, ◌/◌, ◌%◌, ◌≤◌}
use mathlib.Core.Bool.{Bool, true, false, cond}
use mathlib.Core.List.{List, [], ◌∷◌, ◌++◌}
use native.Mathlib.Omega.{arith}
use lib.Dec.{ltb}
use lib.IntN.{ℤ, pos, negsuc, nat_abs}
use lib.ListN.{length, length-append}
use Rattle.stores.specs.Stores.{Put}
use Rattle.stores.proofs.PutLaws.{put_both}
use Rattle.text.specs.Text.{digits, decimal, sign, number}

-- ---- room

digits_most : (f n : ℕ) → length (digits f n) ≤ suc f
unfolding digits
digits_most zero n = omega arith
digits_most (suc f) n = by_test (ltb n 10) (digits_most f (n / 10))
  where
    by_test : (t : Bool) → length (digits f (n / 10)) ≤ suc f
        → length (cond t ((48 + n) ∷ []) (digits f (n / 10) ++ ((48 + n % 10) ∷ []))) ≤ suc (suc f)
    by_test true l = omega arith
    by_test false l = omega (arith, length-append (digits f (n / 10)) ((48 + n % 10) ∷ []))

pub decimal_most : (n : ℕ) → length (decimal n) ≤ 20
unfolding decimal
decimal_most n = digits_most 19 n

sign_most : (z : ℤ) → length (sign z) ≤ 1
sign_most (pos n) = omega arith
sign_most (negsuc n) = omega arith

pub number_most : (z : ℤ) → length (number z) ≤ 21
unfolding number
number_most z = omega (arith, length-append (sign z) (decimal (nat_abs z)), sign_most z, decimal_most (nat_abs z))

-- ---- parts one behind the other

module _ (l : List ℕ) (at a : ℕ) (l₁ : List ℕ) (b : ℕ) (l₂ : List ℕ) (c : ℕ) (l₃ : List ℕ) where
  pub put_three : (s t u : List ℕ) → Put s l at a l₁ → Put t l₁ a b l₂ → Put u l₂ b c l₃ → Put (s ++ t ++ u) l at c l₃
  put_three s t u e f g = put_both (s ++ t) u l at b l₂ c l₃ (put_both s t l at a l₁ b l₂ e f) g

  pub put_four : (s t u v : List ℕ) (r : ℕ) (l₄ : List ℕ) → Put s l at a l₁ → Put t l₁ a b l₂ → Put u l₂ b c l₃ → Put v l₃ c r l₄ → Put (s ++ t ++ u ++ v) l at r l₄
  put_four s t u v r l₄ e f g h = put_both (s ++ t ++ u) v l at c l₃ r l₄ (put_three s t u e f g) h
