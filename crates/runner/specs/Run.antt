-- The calls of an input, one after the other, each as the single function defines it, and what each says.
use Rattle.std.specs.Prelude.{ℕ, zero, suc, ◌+◌, ◌*◌, ◌≤◌, ◌<◌, Bool, cond, List, eqb, ℤ, length}
use Rattle.buffer_core.specs.Edition.{Edition}
use Rattle.calls.specs.declared.Call.{Call}
use Rattle.calls.specs.Calls.{call_at, size_of, end_of}
use Rattle.call_steps.specs.State.{State, state, state_ok, Ready}
use Rattle.call_steps.specs.Steps.{Stepping, lists_with, step_of}
use Rattle.run_answers.specs.Answers.{with_code, with_number, has_room, end_at}
use Rattle.runner.specs.declared.Progress.{Progress}

-- where a run stands: the state, the next byte, the calls made, how reading ended, and the answers so far, two bytes a call and a number a call
pub record Run : Type 0 where
  pub now : State
  pub at : ℕ
  pub made : ℕ
  pub end : ℕ
  pub answers : List ℕ
  pub popped : List ℤ

abbrev pub run_at : State → (at made end : ℕ) → List ℕ → List ℤ → Run
run_at s at made end answers popped = record { now = s; at = at; made = made; end = end; answers = answers; popped = popped }

-- the same of what the code has: the progress, and all that is borrowed
abbrev pub run : Progress → (ids : List ℕ) → (numbers : List ℤ) → (lengths : List ℕ) → (spills : List ℤ) → (staged table deleted answers : List ℕ) → (popped : List ℤ) → Run
run p ids numbers lengths spills staged table deleted answers popped =
    run_at (state ids numbers lengths spills (lists_with p.counts staged table deleted)) p.at p.made p.end answers popped

abbrev pub may_go : Run → Bool
may_go r = has_room r.made r.end r.answers r.popped

-- no call stands at the next byte
abbrev pub ended : Call → Run → Run
ended c r = run_at r.now r.at r.made (end_of c) r.answers r.popped

-- a call is made and answered
abbrev pub answered : ℕ → Stepping → Run → Run
answered n x r = run_at x.after (r.at + n) (r.made + 1) 0 (with_code x.said r.made r.answers) (with_number x.said r.made r.popped)

abbrev pub called : Edition → Call → Run → Run
called E c r = cond (eqb (size_of c) 0) (ended c r) (answered (size_of c) (step_of E c r.now) r)

unfoldable pub turn_of : Edition → (parents : ℕ) → List ℕ → Run → Run
turn_of E parents input r = called E (call_at parents input r.at) r

-- at most n calls
unfoldable pub runs : Edition → (parents : ℕ) → List ℕ → ℕ → Run → Run
runs E parents input zero r = r
runs E parents input (suc n) r = cond (may_go r) (runs E parents input n (turn_of E parents input r)) r

abbrev pub start : State → List ℕ → List ℤ → Run
start s answers popped = run_at s 0 0 0 answers popped

-- at the very end of an input of so many bytes that is how reading ended, even where the answers are just full
abbrev pub closed : (size : ℕ) → Run → Run
closed size r = run_at r.now r.at r.made (end_at size r.at r.end) r.answers r.popped

-- "25 is tested first": once, before the calls; then each call from the front of the input, until no call stands there or the answers have no room
unfoldable pub run_of : Edition → (parents : ℕ) → List ℕ → State → List ℕ → List ℤ → Run
run_of E parents input s answers popped =
    cond (state_ok E parents s) (closed (length input) (runs E parents input (length input + 1) (start s answers popped))) (run_at s 0 0 25 answers popped)

-- ---- what a turn asks once 25 is tested
pub record TurnReady (parents : ℕ) (input : List ℕ) (r : Run) : Type 0 where
  pub ready : Ready parents r.now
  pub within : r.at ≤ length input
  pub few : r.made < length r.popped
  pub room : r.made * 2 + 2 ≤ length r.answers
