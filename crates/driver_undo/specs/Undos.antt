-- What `undo_to` answers, beside all that it borrows, as `undo_of` has it.
use Rattle.std.specs.Prelude.{ℕ, List, ℤ}
use Rattle.call_steps.specs.State.{state}
use Rattle.call_steps.specs.Steps.{lists_with}
use Rattle.driver_core.specs.Bytes.{journal}
use Rattle.driver_core.specs.Apply.{Undoing, undoing}
use Rattle.index_types.specs.declared.Undone.{Undone}

abbrev pub undone : Undone → (ids : List ℕ) → (numbers : List ℤ) → (lengths : List ℕ) → (spills : List ℤ) → (staged table deleted entries : List ℕ) → Undoing
undone r ids numbers lengths spills staged table deleted entries =
    undoing (state ids numbers lengths spills (lists_with r.counts staged table deleted)) (journal entries r.used r.standing) r.code
