-- The answers of calls: what an accepted call gives, or the number of the refusal.
use Rattle.std.specs.Prelude.{ℕ, ℤ, Result}

abbrev pub Part : Type 0
Part = Result (ℕ × ℕ) ℕ

abbrev pub Counts : Type 0
Counts = Result (ℤ × ℤ × ℕ) ℕ
