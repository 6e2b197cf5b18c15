-- What a batch answers, beside all that it borrows, as `apply_of` has it.
use Rattle.std.specs.Prelude.{ℕ, List, ℤ}
use Rattle.call_steps.specs.State.{state}
use Rattle.call_steps.specs.Steps.{lists_with}
use Rattle.driver_core.specs.Bytes.{journal}
use Rattle.driver_core.specs.Apply.{Applying, applying}
use Rattle.index_types.specs.declared.Applied.{Applied}

abbrev pub applied : Applied → (ids : List ℕ) → (numbers : List ℤ) → (lengths : List ℕ) → (spills : List ℤ) → (staged table deleted entries answers : List ℕ) → (popped : List ℤ) → Applying
applied r ids numbers lengths spills staged table deleted entries answers popped =
    applying (state ids numbers lengths spills (lists_with r.counts staged table deleted)) (journal entries r.used r.standing) r.at r.made r.ended answers popped
