-- How many copies of a number a list has, and how many of them are spent (negative).
use mathlib.Core.Bool.{Bool, true, false}
use mathlib.Core.List.{List, [], ◌∷◌}
use Prim.Native.Nat.{ℕ, ◌+◌, suc}
use lib.Dec.{eqb}
use lib.IntN.{ℤ, pos, negsuc, nat_abs}

abbrev pub bit : Bool → ℕ
bit true = 1
bit false = 0

abbrev pub copies : ℕ → List ℕ → ℕ
copies t [] = 0
copies t (a ∷ rest) = bit (eqb a t) + copies t rest

-- 1 where z is -t
abbrev pub neg1 : ℕ → ℤ → ℕ
neg1 t (pos n) = 0
neg1 t (negsuc n) = bit (eqb (suc n) t)

abbrev pub negs : ℕ → List ℤ → ℕ
negs t [] = 0
negs t (z ∷ zs) = neg1 t z + negs t zs
