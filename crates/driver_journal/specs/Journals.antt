-- The journal beside a batch: whether a call has room, and what is kept of it.
use Rattle.std.specs.Prelude.{ℕ, ◌+◌, ◌≤◌, Bool, true, cond, ◌&&◌, List, eqb, leb, ltb, length}
use Rattle.driver_core.specs.Bytes.{Journal, journal, pushed}
use Rattle.driver_journal.specs.declared.Place.{Place}

-- reading has not ended, and another answer has room
abbrev pub may_go : (made ended : ℕ) → (answers : List ℕ) → Bool
may_go made ended answers = eqb ended 0 && ltb made (length answers)

-- an entry needs room, what is none does not
abbrev pub has_room : (journaled : Bool) → (used size : ℕ) → (entries : List ℕ) → Bool
has_room journaled used size entries = cond journaled (leb (used + size) (length entries)) true

-- the journal after a call or a flush that said a code
abbrev pub kept_by : (journaled : Bool) → (code : ℕ) → List ℕ → ℕ → Journal → Journal
kept_by journaled code s at j = cond (journaled && eqb code 0) (pushed s at j) j

abbrev pub placed : Place → List ℕ → Journal
placed p entries = journal entries p.used p.standing

-- the journal's bytes are there, and it has no more calls than bytes
pub record JournalReady (j : Journal) : Type 0 where
  pub used_in : j.used ≤ length j.bytes
  pub few : j.count ≤ j.used
