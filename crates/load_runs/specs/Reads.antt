-- "every produced list can be read by the runner without 31" (document 02, U11).
use Rattle.std.specs.Prelude.{ℕ, ◌<◌, ◌≡◌, true, List, ℤ, length, take, Ok}
use Rattle.buffer_core.specs.Edition.{edition_1}
use Rattle.calls.specs.declared.Call.{Call}
use Rattle.calls.specs.declared.Call.TheVariants.{End}
use Rattle.calls.specs.Calls.{call_at}
use Rattle.call_steps.specs.State.{State}
use Rattle.runner.specs.Run.{run_of}
use Rattle.call_runs.specs.Made.{Along}
use Rattle.load_core.specs.declared.Source.{Source}
use Rattle.load_core.specs.Draw.{calls_from}
use Rattle.load.specs.Generated.{generated, counts_ok, generated_from}

-- these calls are read one after the other from the first byte to the last, behind which the input ends
abbrev pub Reads : (parents : ℕ) → List ℕ → List Call → Type 0
Reads parents input calls = Along parents input 0 calls (length input) × (call_at parents input (length input) ≡ End)

-- what the generator writes: the n calls, read back where one parent or more is there
abbrev pub ReadBack : Type 0
ReadBack =
    (n : ℕ) (g after : Source) (out out' : List ℕ) (k parents : ℕ) → counts_ok g ≡ true → length out < 18446744073709551616 → 0 < parents
    → generated_from n g out ≡ generated (Ok (k, after)) out' → Reads parents (take k out') (calls_from n g)

-- a run over an input that is read so never ends by 31, nor inside a call (2), whatever its state and however much room there is for answers
abbrev pub Never31 : Type 0
Never31 =
    (parents : ℕ) (input : List ℕ) (calls : List Call) → Reads parents input calls → (s : State) (answers : List ℕ) (popped : List ℤ)
    → ((run_of edition_1 parents input s answers popped).end ≡ 31 → ⊥) × ((run_of edition_1 parents input s answers popped).end ≡ 2 → ⊥)
