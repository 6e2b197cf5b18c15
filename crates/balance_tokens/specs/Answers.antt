-- The answers of calls: what an accepted call gives, or the number of the refusal.
use Rattle.std.specs.Prelude.{ℕ, Result}

abbrev pub Counted : Type 0
Counted = Result ℕ ℕ
