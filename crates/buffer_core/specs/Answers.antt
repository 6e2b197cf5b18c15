-- The answers of calls: what an accepted call gives, or the number of the refusal.
use Rattle.std.specs.Prelude.{ℕ, Result}

abbrev pub Lead : Type 0
Lead = Result ℕ ℕ

abbrev pub Low : Type 0
Low = Result ℕ ℕ
