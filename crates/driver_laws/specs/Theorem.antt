-- The fork-undo theorem of a driver, over the bytes of its batches and of its journal: "for every sequence of such batches, undos and flushes from empty buffers that
-- keeps 01's rules, the journal is the standing list and the index agrees with its ledger; each undo answers as demand 3 says".
use Rattle.std.specs.Prelude.{◌≡◌, ◌⊎◌, Bool, true, cond, List, [], ◌∷◌, ◌++◌, ℕ, ◌≤◌, ℤ}
use Rattle.vlq_core.proofs.UniqueLaws.{Bytes}
use Rattle.call_steps.specs.State.{State}
use Rattle.call_steps.specs.Steps.{refused}
use Rattle.ledger.specs.Ledger.{Parent, Call, Rules}
use Rattle.ledger.specs.Run.{Machine, Step, call, undo, flush, answer_of}
use Rattle.ledger.specs.Run as Run
use Rattle.history.specs.ForkUndo.{Places}
use Rattle.history_runs.specs.View.{ids_in, filled}
use Rattle.history_runs.specs.Runs.{says, M, Agrees, Empty}
use Rattle.history_runs.proofs.StartLaws.{borrowed}
use Rattle.driver_core.specs.Steps.{unmake}
use Rattle.driver_core.specs.Bytes.{Journal, journal, standing}
use Rattle.driver_core.specs.Apply.{Applying, Undoing, driver_ok, apply_of, undo_of}
use Rattle.driver_laws.specs.Driver.{Driver, driver, do_step, do_steps}
use Rattle.driver_laws.specs.Operations.{undo_to_steps, settled, CallsSettled}
use Rattle.driver_laws.specs.Journal.{seen, steps_made}

-- what a driver does: a batch, with lists of any length for its answers; an undo to a mark; or its journal becomes longer, with more bytes behind the others. A flush
-- is a batch of kind 7 alone
pub data Work : Type 0 where
  batch : (input answers : List ℕ) → (numbers : List ℤ) → Work
  undo_down : (mark : ℕ) → Work
  longer : (more : List ℕ) → Work

-- the state and the journal that a call borrows of it
pub record Given : Type 0 where
  pub now : State
  pub kept : Journal

abbrev pub given : State → Journal → Given
given s j = record { now = s; kept = j }

module _ (parents : ℕ) where
  -- the calls that stand in the journal's bytes, the newest first
  abbrev pub calls_of : Given → List Call
  calls_of d = standing parents d.kept.count d.kept

  abbrev pub applied : Given → (input answers : List ℕ) → List ℤ → Applying
  applied d input answers numbers = apply_of true parents input d.now d.kept answers numbers

  abbrev pub undone : Given → (mark : ℕ) → Undoing
  undone d mark = undo_of parents mark d.now d.kept

  -- `apply_calls` or `undo_to`
  abbrev pub do_work : Given → Work → Given
  do_work d (batch input answers numbers) = given (applied d input answers numbers).now (applied d input answers numbers).kept
  do_work d (undo_down mark) = given (undone d mark).now (undone d mark).kept
  do_work d (longer more) = given d.now (journal (d.kept.bytes ++ more) d.kept.used d.kept.count)

  unfoldable pub do_all : Given → List Work → Given
  do_all d [] = d
  do_all d (w ∷ ws) = do_all (do_work d w) ws

  -- the calls, undos and flushes that were made; none where 25 was said
  abbrev pub work_steps : Given → Work → List Step
  work_steps d (batch input answers numbers) = steps_made parents input (applied d input answers numbers)
  work_steps d (undo_down mark) = cond (driver_ok parents d.now d.kept) (undo_to_steps mark (seen parents d.now d.kept)) []
  work_steps d (longer more) = []

  unfoldable pub all_steps : Given → List Work → List Step
  all_steps d [] = []
  all_steps d (w ∷ ws) = work_steps d w ++ all_steps (do_work d w) ws

  -- "that keeps 01's rules": bytes; calls behind an undo that stopped only behind an accepted flush; and the calls of the journal keep the history rules after each
  -- batch. Nothing is asked of an undo: it makes the flushes at a change
  abbrev pub WorkOk : Bool → Given → Work → Type 0
  WorkOk b d (batch input answers numbers) =
      Bytes input × CallsSettled b (seen parents d.now d.kept) (work_steps d (batch input answers numbers)) × Rules (calls_of (do_work d (batch input answers numbers)))
  WorkOk b d (undo_down mark) = Unit {0}
  WorkOk b d (longer more) = Unit {0}

  unfoldable pub Keeps : Bool → Given → List Work → Type 0
  Keeps b d [] = Unit {0}
  Keeps b d (w ∷ ws) = WorkOk b d w × Keeps (settled b (seen parents d.now d.kept) (work_steps d w)) (do_work d w) ws

-- "each undo answers as demand 3 says": the undo of the newest call of the journal says an append's number, nothing else; or 16 or 21, and that list is full
abbrev pub UndoSaid : List Call → State → Type 0
UndoSaid [] s = Unit {0}
UndoSaid (a ∷ cs) s =
    ((unmake a s).said ≡ says (answer_of a))
    ⊎ ((((unmake a s).said ≡ refused 16) × (s.lists.staged_counts.capacity ≤ s.lists.staged_counts.count))
    ⊎ (((unmake a s).said ≡ refused 21) × (s.lists.deleted_counts.capacity ≤ s.lists.deleted_counts.count)))

abbrev pub StepSaid : Driver → Step → Type 0
StepSaid d (call a) = Unit {0}
StepSaid d undo = UndoSaid d.journal d.now
StepSaid d flush = Unit {0}

-- of every undo, wherever it stands
unfoldable pub StepsSaid : Driver → List Step → Type 0
StepsSaid d [] = Unit {0}
StepsSaid d (t ∷ ts) = StepSaid d t × StepsSaid (do_step d t) ts

-- "from empty buffers": no call stands, whatever bytes the journal has
abbrev pub begun : State → List ℕ → Given
begun s bytes = given s (journal bytes 0 0)

module _ (parents : ℕ) (places : Parent → Places) (s : State) (E : Empty parents places s) where
  -- the machine of the fork-undo theorem with the state's parents and buffers
  abbrev pub machine : Machine
  machine = M parents (filled (ids_in s)) (borrowed parents places s E) places

  -- no two row keys that the steps use are equal
  abbrev pub KeysApart : List Step → Type 0
  KeysApart ts = Run.KeysApart machine (Run.InUse machine (Run.start machine) ts)

  -- for everything that a driver does from an empty state of so many parents, whatever the capacities: state and journal are what the steps leave, 25 is not said of
  -- them, every undone call says the number of its append, or 16 or 21 of a full list, the journal is the list of the standing calls, and the state holds exactly what
  -- they alone give
  pub record Holds (bytes : List ℕ) (ws : List Work) : Type 0 where
    pub steps : seen parents (do_all parents (begun s bytes) ws).now (do_all parents (begun s bytes) ws).kept ≡ do_steps (driver s []) (all_steps parents (begun s bytes) ws)
    pub passes : driver_ok parents (do_all parents (begun s bytes) ws).now (do_all parents (begun s bytes) ws).kept ≡ true
    pub said : StepsSaid (driver s []) (all_steps parents (begun s bytes) ws)
    pub stand : (Run.run machine (Run.start machine) (all_steps parents (begun s bytes) ws)).standing ≡ calls_of parents (do_all parents (begun s bytes) ws)
    pub agrees : Agrees parents (calls_of parents (do_all parents (begun s bytes) ws)) (do_all parents (begun s bytes) ws).now

-- beginnings of such lists are such lists, so it holds after each batch and each undo, those that stopped too
abbrev pub DriverTheorem : Type 0
DriverTheorem =
    (parents : ℕ) (places : Parent → Places) (s : State) (E : Empty parents places s) (bytes : List ℕ) (ws : List Work)
    → Keeps parents true (begun s bytes) ws → KeysApart parents places s E (all_steps parents (begun s bytes) ws)
    → Holds parents places s E bytes ws
