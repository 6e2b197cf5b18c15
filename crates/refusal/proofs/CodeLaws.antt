-- The refusal codes: each has its number, and none is 0.
use Prim.Native.Nat.{ℕ, zero, suc, ◌+◌, ◌<◌}
use mathlib.Core.Path.{◌≡◌, ◌∙◌}
use native.Mathlib.Omega.{arith}
use lib.ListN.{get_or}
use Rattle.refusal.specs.Refusal.{numbers_from}

pub number_at : (first n i : ℕ) → i < n → get_or (numbers_from first n) i 0 ≡ first + i
unfolding numbers_from
number_at first zero i h = absurd (omega arith)
number_at first (suc n) zero h = omega arith
number_at first (suc n) (suc i) h = number_at (first + 1) n i (omega arith) ∙ omega arith

-- the code of a refusal is not that of an accepted call
pub no_code_is_0 : (i : ℕ) → i < 41 → 0 < get_or (numbers_from 1 41) i 0
no_code_is_0 i h = omega (arith, number_at 1 41 i h)
