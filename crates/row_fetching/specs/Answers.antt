-- The answers of calls: what an accepted call gives, or the number of the refusal.
use Rattle.std.specs.Prelude.{ℕ, Result}
use Rattle.index_types.specs.declared.ListCounts.{ListCounts}

abbrev pub RowPut : Type 0
RowPut = Result ListCounts ℕ
