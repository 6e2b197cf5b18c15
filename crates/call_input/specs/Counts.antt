-- How many bytes of a buffer a read put.
use Rattle.std.specs.Prelude.{ℕ, min, ℤ, pos, negsuc}

-- what C's `read` answered, brought into `0..=most`
abbrev pub clamp_len : (answer : ℤ) → (most : ℕ) → ℕ
clamp_len (pos k) most = min k most
clamp_len (negsuc k) most = 0
