-- A driver that borrows a working set W and lists of any capacities, beside the same driver that borrows all of the table T and lists with places enough: the steps
-- that were not refused for want of a row or of room.
use Rattle.std.specs.Prelude.{ℕ, ◌≡◌, ◌⊎◌, true, cond, List, [], ◌∷◌}
use Rattle.call_steps.specs.declared.Said.{Said}
use Rattle.call_steps.specs.State.{State}
use Rattle.call_steps.specs.Steps.{accepted}
use Rattle.ledger.specs.Calls.{Call}
use Rattle.ledger.specs.Run.{Step, call, undo, flush}
use Rattle.driver_core.specs.Steps.{make, unmake, flushing, may_be_lifted}
use Rattle.driver_laws.specs.Driver.{Driver, do_step}
use Rattle.driver_laws.specs.Theorem.{UndoSaid}

-- what a step says
abbrev pub newest_said : List Call → State → Said
newest_said [] s = accepted
newest_said (a ∷ cs) s = (unmake a s).said

abbrev pub step_said : Driver → Step → Said
step_said d (call a) = (make a d.now).said
step_said d undo = newest_said d.journal d.now
step_said d flush = (flushing d.now).said

abbrev pub step_code : Driver → Step → ℕ
step_code d t = (step_said d t).code

-- the steps that count: the others said 12, 16, 21 or 22 and left W as it was; the driver fetches the row, flushes, or borrows longer lists, and makes them again
unfoldable pub shared : Driver → List Step → List Step
shared d [] = []
shared d (t ∷ ts) = cond (may_be_lifted (step_code d t)) (shared (do_step d t) ts) (t ∷ shared (do_step d t) ts)

-- the whole table lacks nothing and has room: of no step that is tried on W it says 12 or 22
unfoldable pub TableSays : (on_work on_table : Driver) → List Step → Type 0
TableSays d e [] = Unit {0}
TableSays d e (t ∷ ts) =
    (step_code e t ≡ 12 → ⊥) × (step_code e t ≡ 22 → ⊥) × TableSays (do_step d t) (cond (may_be_lifted (step_code d t)) e (do_step e t)) ts

-- each undo on W answers as demand 3 says, or W lacked a row or room
abbrev pub StepTold : Driver → Step → Type 0
StepTold d (call a) = Unit {0}
StepTold d undo = UndoSaid d.journal d.now ⊎ (may_be_lifted (step_code d undo) ≡ true)
StepTold d flush = Unit {0}

unfoldable pub StepsTold : Driver → List Step → Type 0
StepsTold d [] = Unit {0}
StepsTold d (t ∷ ts) = StepTold d t × StepsTold (do_step d t) ts
