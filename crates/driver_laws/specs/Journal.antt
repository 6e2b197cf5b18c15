-- The functions on bytes are the driver's operations: what the journal's bytes hold is the list of the standing calls.
use Rattle.std.specs.Prelude.{◌≡◌, true, cond, List, ℕ, zero, suc, ◌+◌, ◌≤◌, ℤ, length, take}
use Rattle.call_steps.specs.State.{State}
use Rattle.ledger.specs.Run.{Step, call, undo, flush}
use Rattle.driver_laws.specs.Driver.{Driver, driver, do_steps, undo_to}
use Rattle.driver_core.specs.Steps.{may_be_lifted}
use Rattle.driver_core.specs.Bytes.{Item, is, takes, bad, cut, end, items_at, Journal, newest, popped, standing}
use Rattle.driver_core.specs.Apply.{Applying, driver_ok, apply_of, undo_of}

-- the state, and the calls that the journal holds in bytes
abbrev pub seen : (parents : ℕ) → State → Journal → Driver
seen parents s j = driver s (standing parents j.count j)

abbrev pub IsCall : Item → Type 0
IsCall (is (call a)) = Unit {0}
IsCall (is undo) = ⊥
IsCall (is flush) = ⊥
IsCall (takes t) = ⊥
IsCall bad = ⊥
IsCall cut = ⊥
IsCall end = ⊥

-- the entries of a journal: n calls, in the bytes that it uses
unfoldable pub Whole : (parents : ℕ) → ℕ → Journal → Type 0
Whole parents zero j = (j.used ≡ 0) × (j.count ≡ 0)
Whole parents (suc n) j = IsCall (newest parents j) × (j.used ≤ length j.bytes) × (j.count ≡ suc n) × Whole parents n (popped j)

-- ---- a batch: of the calls and flushes that its input spells, those that it answered; and one more, where it stopped in front of one: that one was refused
abbrev pub tried : Applying → ℕ
tried r = r.made + cond (may_be_lifted r.ended) 1 0

abbrev pub steps_made : (parents : ℕ) → (input : List ℕ) → Applying → List Step
steps_made parents input r = take (tried r) (items_at parents input (length input + 1) 0)

-- "apply_calls makes the calls of an input and journals the accepted ones": what `apply_of` leaves in bytes is what these steps leave of the list
abbrev pub ApplyRefines : Type 0
ApplyRefines =
    (parents : ℕ) (input : List ℕ) (s : State) (j : Journal) (answers : List ℕ) (numbers : List ℤ) → Whole parents j.count j
    → let r = apply_of true parents input s j answers numbers in
    (seen parents r.now r.kept ≡ do_steps (seen parents s j) (steps_made parents input r)) × Whole parents r.kept.count r.kept

-- "`undo_to(mark)` takes the newest standing calls back": what `undo_of` leaves and says in bytes is what `undo_to` leaves and says of the list
abbrev pub UndoRefines : Type 0
UndoRefines =
    (parents mark : ℕ) (s : State) (j : Journal) → driver_ok parents s j ≡ true → Whole parents j.count j
    → let u = undo_of parents mark s j in
    (seen parents u.now u.kept ≡ (undo_to mark (seen parents s j)).left)
    × (u.code ≡ (undo_to mark (seen parents s j)).code)
    × Whole parents u.kept.count u.kept
