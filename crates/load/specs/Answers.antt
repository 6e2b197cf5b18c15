-- The answers of calls: what an accepted call gives, or the number of the refusal.
use Rattle.std.specs.Prelude.{ℕ, Result}
use Rattle.load_core.specs.declared.Source.{Source}

abbrev pub Generated : Type 0
Generated = Result (ℕ × Source) ℕ
