-- What the functions of `driver_turns` ask of each other.
use Rattle.std.specs.Prelude.{ℕ, ◌≤◌, ◌<◌, Bool, List, length}
use Rattle.call_steps.specs.State.{Ready}
use Rattle.driver_core.specs.Bytes.{item_at}
use Rattle.driver_core.specs.Apply.{Applying, on_item}
use Rattle.driver_journal.specs.Journals.{JournalReady}

-- the item at the next byte
unfoldable pub turn_of : (journaled : Bool) → (parents : ℕ) → List ℕ → Applying → Applying
turn_of journaled parents s r = on_item journaled s (item_at parents s r.at) r

-- what a turn asks once 25 is tested
pub record TurnReady (parents : ℕ) (s : List ℕ) (r : Applying) : Type 0 where
  pub ready : Ready parents r.now
  pub entries : JournalReady r.kept
  pub within : r.at ≤ length s
  pub room : r.made < length r.answers
