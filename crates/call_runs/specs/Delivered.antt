-- The calls that the call runner has made are the first calls of the input delivered so far, however the reads cut it; at the end none is left over.
use Rattle.std.specs.Prelude.{ℕ, ◌≤◌, ◌≡◌, ◌⊎◌, false, List, ℤ, pos, length, drop, replicate}
use Rattle.buffer_core.specs.Edition.{edition_1}
use Rattle.calls.specs.declared.Call.{Call}
use Rattle.calls.specs.declared.Call.TheVariants.{Append, Flip, Pop, Flush, Change, Bad, Cut, End}
use Rattle.calls.specs.Calls.{call_at, size_of}
use Rattle.index_types.specs.declared.SpillCounts.{SpillCounts}
use Rattle.call_steps.specs.State.{State, state, state_ok}
use Rattle.call_steps.specs.Steps.{lists_with}
use Rattle.runner_start.specs.Start.{lists_empty, two_ids}
use Rattle.call_runs.specs.Made.{made, Along}

-- d is the input delivered so far: its first n calls, made one after the other from state s₀ on, leave state s, and `bytes` are what of d stands behind them
pub record Delivered (parents : ℕ) (s₀ : State) (d bytes : List ℕ) (n : ℕ) (s : State) : Type 0 where
  pub calls : List Call
  pub byte : ℕ
  pub many : length calls ≡ n
  pub within : byte ≤ length d
  pub stand : Along parents d 0 calls byte
  pub wait : bytes ≡ drop byte d
  pub now_is : s ≡ made calls s₀

-- ---- the end of an input

-- "31 unknown kind, parent above 1, body cut", of what stands behind the last call; 0 where nothing does
abbrev pub code_of : Call → ℕ
code_of (Append k p n) = 0
code_of (Flip d p n) = 0
code_of (Pop k p) = 0
code_of Flush = 0
code_of (Change a p n t v) = 0
code_of Bad = 31
code_of Cut = 31
code_of End = 0

-- no call stands at the front of these bytes, and more of them might make one: there are none, or the front of a call
abbrev pub Open : (parents code : ℕ) → List ℕ → Type 0
Open parents code bytes =
    ((call_at parents bytes 0 ≡ End) × (code ≡ 0)) ⊎ ((call_at parents bytes 0 ≡ Cut) × (code ≡ 31))

-- no call stands at the front of these bytes, which are the last; or the state was refused by 25
abbrev pub Finished : (parents code : ℕ) → List ℕ → State → Type 0
Finished parents code bytes s =
    ((size_of (call_at parents bytes 0) ≡ 0) × (code ≡ code_of (call_at parents bytes 0))) ⊎ ((code ≡ 25) × (state_ok edition_1 parents s ≡ false))

-- ---- the program

-- two parents with nothing in them, and three empty lists
abbrev pub starting : State
starting =
    state two_ids (replicate 2306 (pos 0)) (replicate 6 0) (replicate 4 (pos 0))
    (lists_with lists_empty (replicate 10288 0) (replicate 20576 0) (replicate 64 0))

-- what the parents' lines are printed from: the state that all calls of the input leave, n of them, made from the start on; behind them stands no call
pub record Told (numbers : List ℤ) (lengths : List ℕ) (spills : List ℤ) (n code : ℕ) : Type 0 where
  pub input : List ℕ
  pub rest : List ℕ
  pub ids : List ℕ
  pub counts : SpillCounts
  pub staged : List ℕ
  pub table : List ℕ
  pub deleted : List ℕ
  pub delivered : Delivered 2 starting input rest n (state ids numbers lengths spills (lists_with counts staged table deleted))
  pub finished : Finished 2 code rest (state ids numbers lengths spills (lists_with counts staged table deleted))
