-- Signed numbers as coded ones (document 01, "Coded numbers"): "A signed n becomes 2n for n >= 0, else -2n - 1."
use Rattle.std.specs.Prelude.{ℕ, ◌+◌, ◌*◌, ◌/◌, ◌%◌, cond, eqb, ℤ, pos, negsuc}

-- negsuc n is -(n + 1), and -2 (-(n + 1)) - 1 is 2n + 1
abbrev pub zig : ℤ → ℕ
zig (pos n) = 2 * n
zig (negsuc n) = 2 * n + 1

-- the signed number of a coded one
abbrev pub zag : ℕ → ℤ
zag c = cond (eqb (c % 2) 0) (pos (c / 2)) (negsuc (c / 2))
