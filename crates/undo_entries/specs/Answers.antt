-- The answers of calls: what an accepted call gives, or the number of the refusal.
use Rattle.std.specs.Prelude.{ℕ, Result}

abbrev pub Encoded : Type 0
Encoded = Result ℕ ℕ
