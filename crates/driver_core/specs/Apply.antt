-- What the functions of a driver leave, of all that they borrow: `apply_calls` makes the calls of an input and journals the accepted ones, `make_calls` makes them
-- without a journal, `undo_to` takes the newest standing calls back. "25 once, then the proved cores" in each.
use Rattle.std.specs.Prelude.{ℕ, zero, suc, ◌+◌, ◌*◌, Bool, true, false, cond, ◌&&◌, List, eqb, leb, ltb, ℤ, length, set}
use Rattle.buffer_core.specs.Edition.{edition_1}
use Rattle.call_steps.specs.State.{State, state_ok}
use Rattle.call_steps.specs.Steps.{Stepping}
use Rattle.ledger.specs.Run.{call, undo, flush}
use Rattle.driver_core.specs.Steps.{make, unmake, flushing, take, is_accepted, may_be_lifted, final}
use Rattle.driver_core.specs.Bytes.{Item, is, takes, bad, cut, end, item_at, size_at, Journal, pushed, newest, popped}

-- where the calls have come: state, journal, next byte, calls made, how it ended, and for each call made a code and a popped number. It ended: 0 not yet, 1 at the
-- end of the input, 2 inside a call, 3 the journal has no room for the call at the next byte; 31 no call stands there; 12, 16, 21 or 22, which the call at the next
-- byte said, and which the driver lifts before it goes on there; 25 refused
pub record Applying : Type 0 where
  pub now : State
  pub kept : Journal
  pub at : ℕ
  pub made : ℕ
  pub ended : ℕ
  pub answers : List ℕ
  pub popped : List ℤ

abbrev pub applying : State → Journal → (at made ended : ℕ) → List ℕ → List ℤ → Applying
applying s j at made ended answers numbers = record { now = s; kept = j; at = at; made = made; ended = ended; answers = answers; popped = numbers }

abbrev pub ended_by : ℕ → Applying → Applying
ended_by k r = applying r.now r.kept r.at r.made k r.answers r.popped

-- the call at the next byte said what the driver lifts: the batch stops in front of it
abbrev pub stopped : Stepping → Applying → Applying
stopped x r = applying x.after r.kept r.at r.made x.said.code r.answers r.popped

-- a step of n bytes, which is answered
abbrev pub answered : ℕ → Journal → Stepping → Applying → Applying
answered n j x r = applying x.after j (r.at + n) (r.made + 1) 0 (set r.answers r.made x.said.code) (set r.popped r.made x.said.number)

abbrev pub stepped : ℕ → Journal → Stepping → Applying → Applying
stepped n j x r = cond (may_be_lifted x.said.code) (stopped x r) (answered n j x r)

-- a call; accepted, it is journaled
abbrev pub called : (journaled : Bool) → List ℕ → ℕ → Stepping → Applying → Applying
called journaled s n x r = stepped n (cond (journaled && is_accepted x) (pushed s r.at r.kept) r.kept) x r

-- a call needs room for its entry
abbrev pub room_for : (journaled : Bool) → ℕ → Journal → Bool
room_for journaled n j = cond journaled (leb (j.used + n) (length j.bytes)) true

abbrev pub on_item : (journaled : Bool) → List ℕ → Item → Applying → Applying
on_item journaled s (is (call a)) r =
    cond (room_for journaled (size_at s r.at) r.kept) (called journaled s (size_at s r.at) (make a r.now) r) (ended_by 3 r)
on_item journaled s (is flush) r = stepped (size_at s r.at) r.kept (flushing r.now) r
on_item journaled s (is undo) r = ended_by 31 r
on_item journaled s (takes t) r = cond journaled (ended_by 31 r) (stepped (size_at s r.at) r.kept (take t r.now) r)
on_item journaled s bad r = ended_by 31 r
on_item journaled s cut r = ended_by 2 r
on_item journaled s end r = ended_by 1 r

unfoldable pub apply_turns : (journaled : Bool) → (parents : ℕ) → List ℕ → ℕ → Applying → Applying
apply_turns journaled parents s zero r = r
apply_turns journaled parents s (suc n) r =
    cond (eqb r.ended 0 && ltb r.made (length r.answers)) (apply_turns journaled parents s n (on_item journaled s (item_at parents s r.at) r)) r

-- 25: the state, and a journal that says more bytes than it has or more calls than bytes
abbrev pub journal_ok : Journal → Bool
journal_ok j = leb j.used (length j.bytes) && leb j.count j.used

abbrev pub driver_ok : (parents : ℕ) → State → Journal → Bool
driver_ok parents s j = state_ok edition_1 parents s && journal_ok j

-- a batch beside a journal, or without one
unfoldable pub apply_of : (journaled : Bool) → (parents : ℕ) → List ℕ → State → Journal → List ℕ → List ℤ → Applying
apply_of journaled parents input s j answers numbers =
    cond (driver_ok parents s j) (apply_turns journaled parents input (length input + 1) (applying s j 0 0 0 answers numbers)) (applying s j 0 0 25 answers numbers)

-- ---- undo to a mark: what is left, and how it ended
pub record Undoing : Type 0 where
  pub now : State
  pub kept : Journal
  pub code : ℕ

abbrev pub undoing : State → Journal → ℕ → Undoing
undoing s j code = record { now = s; kept = j; code = code }

-- the newest entry is a call: its undo, and the journal after it
abbrev pub undone : Journal → Stepping → Undoing
undone j x = undoing x.after (cond (is_accepted x) (popped j) j) x.said.code

-- an entry that is no call: 31, and nothing changes
abbrev pub undo_newest : Item → State → Journal → Undoing
undo_newest (is (call a)) s j = undone j (unmake a s)
undo_newest (is undo) s j = undoing s j 31
undo_newest (is flush) s j = undoing s j 31
undo_newest (takes t) s j = undoing s j 31
undo_newest bad s j = undoing s j 31
undo_newest cut s j = undoing s j 31
undo_newest end s j = undoing s j 31

abbrev pub flushed : State → Journal → Undoing
flushed s j = undoing (flushing s).after j (flushing s).said.code

-- on from what a step left, unless it was refused
abbrev pub and_on : (State → Journal → Undoing) → Undoing → Undoing
and_on more u = cond (eqb u.code 0) (more u.now u.kept) u

-- on after an undo; after a flush where that may lift its refusal
abbrev pub after_undo : (fresh : Bool) → (State → Journal → Undoing) → (State → Journal → Undoing) → Undoing → Undoing
after_undo fresh more more_fresh u =
    cond (eqb u.code 0) (more u.now u.kept) (cond (final fresh u.code) u (and_on more_fresh (flushed u.now u.kept)))

-- no more calls stand than the mark says
abbrev pub at_mark : (mark : ℕ) → Journal → Bool
at_mark mark j = leb j.count mark

unfoldable pub undo_turns : (parents : ℕ) → ℕ → (mark : ℕ) → (fresh : Bool) → State → Journal → Undoing
undo_turns parents zero mark fresh s j = undoing s j 0
undo_turns parents (suc n) mark fresh s j =
    cond (at_mark mark j) (undoing s j 0)
    (after_undo fresh (undo_turns parents n mark false) (undo_turns parents n mark true) (undo_newest (newest parents j) s j))

abbrev pub and_flush : Undoing → Undoing
and_flush u = cond (eqb u.code 0) (flushed u.now u.kept) u

abbrev pub undos_flushed : (parents mark count : ℕ) → Undoing → Undoing
undos_flushed parents mark count u = cond (eqb u.code 0) (and_flush (undo_turns parents (count * 2) mark true u.now u.kept)) u

-- 25 is tested first; a mark at or above the standing calls leaves all as it is; the flush at the change, the undos, the flush behind them
unfoldable pub undo_of : (parents mark : ℕ) → State → Journal → Undoing
undo_of parents mark s j =
    cond (driver_ok parents s j) (cond (at_mark mark j) (undoing s j 0) (undos_flushed parents mark j.count (flushed s j))) (undoing s j 25)
