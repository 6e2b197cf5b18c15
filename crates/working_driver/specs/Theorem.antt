-- The fork-undo theorem of a driver that borrows a working set W instead of the table T, which it keeps elsewhere, and staged and deleted spills of any capacities, other
-- ones from batch to batch: W stays a part of T, T agrees with the ledger of the journal's calls, and each undo answers as demand 3 says.
use Rattle.std.specs.Prelude.{ℕ, ◌≡◌, Bool, true, List, [], ◌∷◌, ◌++◌}
use Rattle.vlq_core.proofs.UniqueLaws.{Bytes}
use Rattle.buffer_core.specs.Pop.{Lists}
use Rattle.call_steps.specs.State.{State, state}
use Rattle.ledger.specs.Ledger.{Parent, Rules}
use Rattle.ledger.specs.Run.{Step}
use Rattle.ledger.specs.Run as Run
use Rattle.history.specs.ForkUndo.{Places}
use Rattle.history_runs.specs.Runs.{Agrees, Empty}
use Rattle.lent_steps.specs.Lent.{Lent}
use Rattle.driver_core.specs.Apply.{driver_ok}
use Rattle.driver_laws.specs.Driver.{Driver, driver, do_steps}
use Rattle.driver_laws.specs.Operations.{settled, CallsSettled}
use Rattle.driver_laws.specs.Journal.{seen}
use Rattle.driver_laws.specs.Theorem.{Work, batch, undo_down, longer, Given, given, calls_of, do_work, work_steps, begun, machine, KeysApart}
use Rattle.working_driver.specs.Shared.{shared, TableSays, StepsTold}

-- what a driver does: batches and undos; or it borrows other lists: other rows of T, fetched or dropped, more places or fewer
pub data Move : Type 0 where
  does : Work → Move
  borrows : Lists → Move

abbrev pub with_lists : Lists → State → State
with_lists b s = state s.ids s.numbers s.lengths s.spills b

module _ (parents : ℕ) where
  abbrev pub on_work : Given → Driver
  on_work d = seen parents d.now d.kept

  -- T with the calls of the same journal
  abbrev pub on_table : Given → State → Driver
  on_table d t = driver t (calls_of parents d)

  -- what is borrowed, and T, after it: T's steps are those that W has not refused for want of a row or of room
  abbrev pub move_steps : Given → Move → List Step
  move_steps d (does w) = shared (on_work d) (work_steps parents d w)
  move_steps d (borrows b) = []

  abbrev pub moved : Given → Move → Given
  moved d (does w) = do_work parents d w
  moved d (borrows b) = given (with_lists b d.now) d.kept

  abbrev pub table_moved : Given → State → Move → State
  table_moved d t m = (do_steps (on_table d t) (move_steps d m)).now

  unfoldable pub all_moved : Given → State → List Move → Given
  all_moved d t [] = d
  all_moved d t (m ∷ ms) = all_moved (moved d m) (table_moved d t m) ms

  unfoldable pub table_after : Given → State → List Move → State
  table_after d t [] = t
  table_after d t (m ∷ ms) = table_after (moved d m) (table_moved d t m) ms

  unfoldable pub all_steps : Given → State → List Move → List Step
  all_steps d t [] = []
  all_steps d t (m ∷ ms) = move_steps d m ++ all_steps (moved d m) (table_moved d t m) ms

  -- as for a driver of the whole table, of T's steps; T lacks nothing and has room; and what is borrowed holds what T holds, some of the table's rows and all that is
  -- staged and deleted
  abbrev pub WorkOk : Bool → Given → State → Work → Type 0
  WorkOk b d t (batch input answers numbers) =
      Bytes input × CallsSettled b (on_table d t) (move_steps d (does (batch input answers numbers))) × Rules (calls_of parents (do_work parents d (batch input answers numbers)))
  WorkOk b d t (undo_down mark) = Unit {0}
  WorkOk b d t (longer more) = Unit {0}

  abbrev pub MoveOk : Bool → Given → State → Move → Type 0
  MoveOk b d t (does w) = WorkOk b d t w × TableSays (on_work d) (on_table d t) (work_steps parents d w)
  MoveOk b d t (borrows c) = Lent parents (with_lists c d.now) t

  unfoldable pub Keeps : Bool → Given → State → List Move → Type 0
  Keeps b d t [] = Unit {0}
  Keeps b d t (m ∷ ms) = MoveOk b d t m × Keeps (settled b (on_table d t) (move_steps d m)) (moved d m) (table_moved d t m) ms

  -- "each undo answers as demand 3 says", or W lacked a row or room
  abbrev pub MoveTold : Given → Move → Type 0
  MoveTold d (does w) = StepsTold (on_work d) (work_steps parents d w)
  MoveTold d (borrows b) = Unit {0}

  unfoldable pub MovesTold : Given → State → List Move → Type 0
  MovesTold d t [] = Unit {0}
  MovesTold d t (m ∷ ms) = MoveTold d m × MovesTold (moved d m) (table_moved d t m) ms

module _ (parents : ℕ) (places : Parent → Places) (s : State) (E : Empty parents places s) where
  -- from an empty T, and what is lent of it; any bytes in the journal. 25 is not said of what is borrowed
  pub record Holds (w : State) (bytes : List ℕ) (ms : List Move) : Type 0 where
    pub lent : Lent parents (all_moved parents (begun w bytes) s ms).now (table_after parents (begun w bytes) s ms)
    pub passes : driver_ok parents (all_moved parents (begun w bytes) s ms).now (all_moved parents (begun w bytes) s ms).kept ≡ true
    pub said : MovesTold parents (begun w bytes) s ms
    pub stand : (Run.run (machine parents places s E) (Run.start (machine parents places s E)) (all_steps parents (begun w bytes) s ms)).standing
        ≡ calls_of parents (all_moved parents (begun w bytes) s ms)
    pub agrees : Agrees parents (calls_of parents (all_moved parents (begun w bytes) s ms)) (table_after parents (begun w bytes) s ms)

abbrev pub WorkingDriverTheorem : Type 0
WorkingDriverTheorem =
    (parents : ℕ) (places : Parent → Places) (s : State) (E : Empty parents places s) (w : State) (bytes : List ℕ) (ms : List Move) → Lent parents w s
    → Keeps parents true (begun w bytes) s ms → KeysApart parents places s E (all_steps parents (begun w bytes) s ms)
    → Holds parents places s E w bytes ms
