-- One step of a driver on the state: what making a call does, and what undoing it does.
use Rattle.std.specs.Prelude.{ℕ, ◌+◌, ◌*◌, ◌≤◌, Bool, not, List, length}
use Rattle.buffer_core.specs.declared.Direction.TheVariants.{Spend, Unspend}
use Rattle.buffer_core.specs.Edition.{edition_1}
use Rattle.calls.specs.declared.Call.TheVariants as call
use Rattle.call_steps.specs.State.{State, Within}
use Rattle.call_steps.specs.Steps.{Stepping, step_of, StepReady}
use Rattle.driver_core.specs.Steps.{change_with}
use Rattle.driver_core.specs.Bytes.{id_bytes, token_bytes, tokens_at}
use Rattle.driver_calls.specs.declared.Read.{Read}
use Rattle.driver_calls.specs.declared.Read.TheVariants as read
use Rattle.driver_steps.specs.declared.Move.{Move}
use Rattle.driver_steps.specs.declared.Move.TheVariants.{Segment, Balance}

-- a step of the runner, or a credit or a debit with tokens in s
abbrev pub move_of : List ℕ → Move → State → Stepping
move_of s (Segment c) x = step_of edition_1 c x
move_of s (Balance adding p n t k) x = change_with adding p n (tokens_at s t (t + k * id_bytes) k) x

abbrev pub made_by : Read → Move
made_by (read.Append k p n) = Segment (call.Append k p n)
made_by (read.Spend p n) = Segment (call.Flip Spend p n)
made_by (read.Unspend p n) = Segment (call.Flip Unspend p n)
made_by (read.Pop k p) = Segment (call.Pop k p)
made_by read.Flush = Segment call.Flush
made_by (read.Change adding p n t k) = Balance adding p n t k
made_by read.Bad = Segment call.Bad
made_by read.Cut = Segment call.Cut
made_by read.End = Segment call.End

-- "Undo means pop, unspend, `subtract_box` or `add_box` with the same arguments"; an unspend or a pop is not undone
abbrev pub undone_by : Read → Move
undone_by (read.Append k p n) = Segment (call.Pop k p)
undone_by (read.Spend p n) = Segment (call.Flip Unspend p n)
undone_by (read.Unspend p n) = Segment call.Bad
undone_by (read.Pop k p) = Segment call.Bad
undone_by read.Flush = Segment call.Flush
undone_by (read.Change adding p n t k) = Balance (not adding) p n t k
undone_by read.Bad = Segment call.Bad
undone_by read.Cut = Segment call.Cut
undone_by read.End = Segment call.End

-- ---- what a step asks once 25 is tested
abbrev pub MoveReady : List ℕ → Move → State → Type 0
MoveReady s (Segment c) x = StepReady c x
MoveReady s (Balance adding p n t k) x = (t + k * token_bytes ≤ length s) × Within p x.ids x.numbers x.lengths x.spills
