-- What telling a missing row asks of its caller: a spill number fits 31 bits.
use Rattle.std.specs.Prelude.{ℕ, ◌<◌, Option, Some, None}

abbrev pub Numbered : Option ℕ → Type 0
Numbered None = Unit {0}
Numbered (Some n) = n < 2147483648
