-- The ways out of the exports of coded numbers.
use Prim.Native.Nat.{ℕ}
use mathlib.Core.Path.{◌≡◌, ap}
use mathlib.Core.List.{List}
use lib.IntN.{ℤ}
use Rattle.std.specs.Prelude.{Ok, Err}
use Rattle.index_types.specs.Answers.{Wrote}
use Rattle.index_types.specs.Answers.{Long}
use Rattle.index_types.specs.Answers.{Int}
use Rattle.vlq_core.specs.Writing.{Written, written}
use Rattle.ergo_index_numbers.specs.Numbers.{write_out, write_by, write_export, number_out, long_export, int_export}

-- what goes to the position
module _ (r : Wrote) (at : ℕ) (out : List ℕ) where
  pub moved_next : (n : ℕ) → r ≡ Ok n → write_out 0 n out ≡ write_by r at out
  moved_next n f = rw f

  pub moved_none : (code : ℕ) → r ≡ Err code → write_out code at out ≡ write_by r at out
  moved_none code f = rw f

-- r and l are what the public call left
pub write_told : (r : Wrote) (l : List ℕ) (w : Written) → written r l ≡ w → (at : ℕ) → write_by r at l ≡ write_export at w
write_told r l w e at = ap (λ (x : Written). write_export at x) e

-- z is the number as it was stored
pub long_read : (r o : Long) (at : ℕ) (n m : ℤ) (next : ℕ) (z : ℤ) → r ≡ o → r ≡ Ok (m, next) → z ≡ m → number_out 0 next z ≡ long_export at n o
long_read r o at n m next z e f g = rw (← e, f, g)

pub long_none : (r o : Long) (at : ℕ) (n : ℤ) (code : ℕ) → r ≡ o → r ≡ Err code → number_out code at n ≡ long_export at n o
long_none r o at n code e f = rw (← e, f)

pub int_read : (r o : Int) (at : ℕ) (n m : ℤ) (next : ℕ) (z : ℤ) → r ≡ o → r ≡ Ok (m, next) → z ≡ m → number_out 0 next z ≡ int_export at n o
int_read r o at n m next z e f g = rw (← e, f, g)

pub int_none : (r o : Int) (at : ℕ) (n : ℤ) (code : ℕ) → r ≡ o → r ≡ Err code → number_out code at n ≡ int_export at n o
int_none r o at n code e f = rw (← e, f)
