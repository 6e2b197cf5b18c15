-- The answers of calls: what an accepted call gives, or the number of the refusal.
use Rattle.std.specs.Prelude.{⊤, ℕ, ℤ, Result}
use Rattle.index_types.specs.declared.HeadCounts.{HeadCounts}
use Rattle.index_types.specs.declared.ListCounts.{ListCounts}
use Rattle.index_types.specs.declared.BoxNumber.{BoxNumber}
use Rattle.index_types.specs.declared.TxNumber.{TxNumber}
use Rattle.index_types.specs.declared.Tally.{Tally}
use Rattle.index_types.specs.declared.Order.{Order}

abbrev pub Appended : Type 0
Appended = Result (HeadCounts × ListCounts) ℕ

abbrev pub Popped : Type 0
Popped = Result (ℤ × HeadCounts × ListCounts × ListCounts) ℕ

abbrev pub PoppedBox : Type 0
PoppedBox = Result (BoxNumber × HeadCounts × ListCounts × ListCounts) ℕ

abbrev pub PoppedTx : Type 0
PoppedTx = Result (TxNumber × HeadCounts × ListCounts × ListCounts) ℕ

abbrev pub Flipped : Type 0
Flipped = Result ListCounts ℕ

abbrev pub Tallied : Type 0
Tallied = Result Tally ℕ

abbrev pub Summarized : Type 0
Summarized = Result ⊤ ℕ

abbrev pub Paged : Type 0
Paged = Result ℕ ℕ

abbrev pub Flushed : Type 0
Flushed = Result (ListCounts × ListCounts × ListCounts) ℕ

abbrev pub FlatChanged : Type 0
FlatChanged = Result ℕ ℕ

abbrev pub FlatPopped : Type 0
FlatPopped = Result (BoxNumber × ℕ) ℕ

abbrev pub Long : Type 0
Long = Result (ℤ × ℕ) ℕ

abbrev pub Int : Type 0
Int = Result (ℤ × ℕ) ℕ

abbrev pub Wrote : Type 0
Wrote = Result ℕ ℕ

abbrev pub TriedForks : Type 0
TriedForks = Result (ℕ × ℕ) ℕ

abbrev pub Ranked : Type 0
Ranked = Result Order ℕ
