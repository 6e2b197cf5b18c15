-- The calls of an input, one after the other: the state that they leave, what each says, and where they stand in the bytes.
use Rattle.std.specs.Prelude.{◌≡◌, ◌⊎◌, Bool, false, List, [], ◌∷◌, ℕ, zero, suc, ◌+◌, ◌*◌, eqb, ℤ, pos, length, get_or}
use Rattle.buffer_core.specs.Edition.{edition_1}
use Rattle.calls.specs.declared.Call.{Call}
use Rattle.calls.specs.Calls.{call_at, size_of, end_of}
use Rattle.call_steps.specs.declared.Said.{Said}
use Rattle.call_steps.specs.State.{State, state_ok}
use Rattle.call_steps.specs.Steps.{step_of}
use Rattle.runner.specs.Run.{Run}

-- the calls, one after the other
unfoldable pub made : List Call → State → State
made [] s = s
made (x ∷ xs) s = made xs (step_of edition_1 x s).after

-- what each of the calls says
unfoldable pub heard : List Call → State → List Said
heard [] s = []
heard (x ∷ xs) s = (step_of edition_1 x s).said ∷ heard xs (step_of edition_1 x s).after

-- the answers as the runner gives them: "the refusal or 0, and a popped number", of each of n calls from the i-th on
abbrev pub is_one : ℕ → Bool
is_one n = eqb n 1

abbrev pub said_at : List ℕ → List ℤ → ℕ → Said
said_at answers popped i = record { code = get_or answers (i * 2) 0; popped = is_one (get_or answers (i * 2 + 1) 0); number = get_or popped i (pos 0) }

unfoldable pub said_from : List ℕ → List ℤ → (i n : ℕ) → List Said
said_from answers popped i zero = []
said_from answers popped i (suc n) = said_at answers popped i ∷ said_from answers popped (i + 1) n

-- the calls that stand in the bytes one after the other, from a byte on up to where no call stands
unfoldable pub Stand : (parents : ℕ) → List ℕ → ℕ → List Call → Type 0
Stand parents input at [] = size_of (call_at parents input at) ≡ 0
Stand parents input at (x ∷ xs) = (call_at parents input at ≡ x) × (size_of x ≡ 0 → ⊥) × Stand parents input (at + size_of x) xs

-- the same of calls that end before byte `to`, whatever stands there
unfoldable pub Along : (parents : ℕ) → List ℕ → (at : ℕ) → List Call → (to : ℕ) → Type 0
Along parents input at [] to = at ≡ to
Along parents input at (x ∷ xs) to = (call_at parents input at ≡ x) × (size_of x ≡ 0 → ⊥) × Along parents input (at + size_of x) xs to

-- ---- a run over an input

-- why it ended before byte `at`: the answers had no more room; or no call stands there
abbrev pub Stopped : (parents : ℕ) → List ℕ → (at end : ℕ) → Type 0
Stopped parents input at end = (end ≡ 0) ⊎ ((size_of (call_at parents input at) ≡ 0) × (end ≡ end_of (call_at parents input at)))

-- or the state was refused by 25, before the first call
abbrev pub Why : (parents : ℕ) → List ℕ → (at : ℕ) → State → (end : ℕ) → Type 0
Why parents input at s end = Stopped parents input at end ⊎ ((end ≡ 25) × (state_ok edition_1 parents s ≡ false))

-- what a run leaves: the calls at the front of the input are made, one after the other, and their answers stand in their places
pub record Ran (parents : ℕ) (input : List ℕ) (s : State) (x : Run) : Type 0 where
  pub calls : List Call
  pub many : x.made ≡ length calls
  pub stand : Along parents input 0 calls x.at
  pub now_is : x.now ≡ made calls s
  pub said : said_from x.answers x.popped 0 x.made ≡ heard calls s
  pub why : Why parents input x.at x.now x.end
