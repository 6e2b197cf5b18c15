-- The answer of a pop of boxes or of transactions, as that of a pop of either kind.
use Rattle.std.specs.Prelude.{Ok, Err}
use Rattle.index_types.specs.Answers.{Popped}
use Rattle.index_types.specs.Answers.{PoppedBox}
use Rattle.index_types.specs.Answers.{PoppedTx}

abbrev pub as_popped_box : PoppedBox → Popped
as_popped_box (Ok (n, h, c, d)) = Ok (n.0, h, c, d)
as_popped_box (Err code) = Err code

abbrev pub as_popped_tx : PoppedTx → Popped
as_popped_tx (Ok (n, h, c, d)) = Ok (n.0, h, c, d)
as_popped_tx (Err code) = Err code
