-- The calls that undo another, and the flush before them.
use Rattle.calls.specs.declared.Call.{Call}
use Rattle.calls.specs.declared.Call.TheVariants.{Append, Flip, Pop, Flush, Change, Bad, Cut, End}

abbrev pub Undoes : Call → Type 0
Undoes (Append k p z) = ⊥
Undoes (Flip d p z) = Unit {0}
Undoes (Pop k p) = Unit {0}
Undoes Flush = Unit {0}
Undoes (Change a p n t v) = ⊥
Undoes Bad = ⊥
Undoes Cut = ⊥
Undoes End = ⊥
