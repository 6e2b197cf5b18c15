-- The answer of a checked sum or difference: the number where it is within 64 signed bits, else Out
-- (document 01, refusal 23: "sum or difference leaves 64 signed bits").
use Rattle.std.specs.Prelude.{cond, ℤ, ltb, Option, Some, None}
use Rattle.std.specs.Int.Signed.{mag}

-- mag is n both for n and for -(n + 1), so below 2^63 stand the numbers from -2^63 to 2^63 - 1
unfoldable pub checked : ℤ → Option ℤ
checked z = cond (ltb (mag z) 9223372036854775808) (Some z) None
