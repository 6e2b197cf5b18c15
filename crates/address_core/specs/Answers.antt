-- The answers of calls: what an accepted call gives, or the number of the refusal.
use Rattle.std.specs.Prelude.{ℕ, ℤ, Bool, Result}

abbrev pub Flagged : Type 0
Flagged = Result (Bool × ℤ × ℕ × ℕ) ℕ
