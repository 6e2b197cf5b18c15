-- A session of the call runner: the calls made so far are the first calls of the input delivered so far, the lines handed over are those of their answers, and
-- the parents' lines come once no call is left.
use Rattle.std.specs.Prelude.{ℕ, ◌+◌, ◌≤◌, ◌≡◌, List, [], ◌∷◌, ◌++◌, ℤ, length}
use Rattle.std.proofs.lemmas.List.Edits.{sets}
use Rattle.calls.specs.declared.Call.{Call}
use Rattle.call_steps.specs.declared.Said.{Said}
use Rattle.call_steps.specs.State.{State}
use Rattle.call_lines.specs.Lines.{line}
use Rattle.call_input.specs.declared.Next.{Next}
use Rattle.call_input.specs.declared.Next.TheVariants.{Run, Read, End, ReadFailed, WriteFailed}
use Rattle.call_input.specs.declared.Place.{Place}
use Rattle.call_input.specs.Waiting.{waiting}
use Rattle.call_runs.specs.Made.{made, heard, Along}
use Rattle.call_runs.specs.Delivered.{Delivered, Open, Finished, Told}

-- what stands at the front of the bytes that wait, where the session is to read or has come to the end
abbrev pub Front : Next → List ℕ → State → Type 0
Front Run bytes s = Unit {0}
Front (Read code) bytes s = Open 2 code bytes
Front (End code) bytes s = Finished 2 code bytes s
Front ReadFailed bytes s = Unit {0}
Front WriteFailed bytes s = Unit {0}

-- where a session stands when d is the input delivered so far, from state s₀ on
pub record Stands (s₀ : State) (d : List ℕ) (p : Place) (input : List ℕ) (s : State) : Type 0 where
  pub delivered : Delivered 2 s₀ d (waiting p.at p.have input) p.made s
  pub front : Front p.next (waiting p.at p.have input) s

-- the same once more of the input may be delivered
pub record Onward (s₀ : State) (d : List ℕ) (p : Place) (input : List ℕ) (s : State) : Type 0 where
  pub more : List ℕ
  pub holds : Stands s₀ (d ++ more) p input s

-- calls or a read, from place p and state t on: the same of the input delivered, once more of it may be
abbrev pub Keeps : (input : List ℕ) (p : Place) (t : State) (input' : List ℕ) (r : Place) (t' : State) → Type 0
Keeps input p t input' r t' = (s₀ : State) (d : List ℕ) → Stands s₀ d p input t → Onward s₀ d r input' t'

-- ---- the calls of the buffer

-- "It prints per call its ordinal, the refusal or 0, and a popped number": a line for each answer, the first with this ordinal
unfoldable pub said_lines : (first : ℕ) → List Said → List ℕ
said_lines first [] = []
said_lines first (a ∷ ws) = line first a.code a.popped a.number ++ said_lines (first + 1) ws

-- calls at the front of the bytes that wait are made in state t, at most 1,024, and leave state t'; the lines of what they say stand in the output's buffer
-- when it is handed over, their ordinals from behind the calls made before
pub record Makes (input : List ℕ) (p : Place) (t : State) (out : List ℕ) (r : Place) (t' : State) (out' : List ℕ) : Type 0 where
  pub calls : List Call
  pub bytes : ℕ
  pub few : length calls ≤ 1024
  pub stand : Along 2 (waiting p.at p.have input) 0 calls bytes
  pub now_is : t' ≡ made calls t
  pub at_is : r.at ≡ p.at + bytes
  pub within : p.at + bytes ≤ p.have
  pub have_is : r.have ≡ p.have
  pub made_is : r.made ≡ p.made + length calls
  pub lines : out' ≡ sets out 0 (said_lines (p.made + 1) (heard calls t))
  pub front : Front r.next (waiting r.at r.have input) t'

-- ---- the end

-- at the end the parents' numbers are what all calls of the input leave
abbrev pub Ends : (numbers : List ℤ) (lengths : List ℕ) (spills : List ℤ) (p : Place) → Type 0
Ends numbers lengths spills p = (code : ℕ) → p.next ≡ End code → Told numbers lengths spills p.made code
