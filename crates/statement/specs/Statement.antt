-- The milliErg figure of a statement (document 02, U1): "A milliErg figure exactly at the half now goes to the even neighbour", every other to the nearest;
-- "both signs are covered by it". Of the mathematical value.
use Rattle.std.specs.Prelude.{ℕ, suc, ◌+◌, ◌/◌, ◌%◌, cond, eqb, ltb, ℤ, pos, negsuc, neg_ℤ}

-- nanoErgs of a milliErg, and half of them
abbrev pub milli : ℕ
milli = 1000000

abbrev pub half : ℕ
half = 500000

-- the figure below or the next one, for what is left above the figure below: at the half the even one of the two
abbrev pub neighbour : (below rest : ℕ) → ℕ
neighbour below rest = cond (ltb rest half) below (cond (eqb rest half) (below + below % 2) (below + 1))

-- the figure of a size
unfoldable pub rounded : ℕ → ℕ
rounded n = neighbour (n / milli) (n % milli)

-- the figure of an amount has its sign
unfoldable pub milli_ergs : ℤ → ℤ
milli_ergs (pos n) = pos (rounded n)
milli_ergs (negsuc n) = neg_ℤ (pos (rounded (suc n)))
