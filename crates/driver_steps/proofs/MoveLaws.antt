-- A step is that of its definition, asks nothing more than refusal 25 has tested, and keeps it.
use Prim.Native.Nat.{ℕ, ◌+◌, ◌*◌, ◌≤◌, ◌<◌}
use mathlib.Core.Path.{◌≡◌, refl, sym, ap, ◌∙◌}
use mathlib.Core.Bool.{Bool, false, not, ◌||◌}
use mathlib.Core.List.{List}
use lib.Dec.{eqb}
use lib.IntN.{ℤ}
use lib.ListN.{length}
use Rattle.index_types.specs.declared.SpillCounts.{SpillCounts}
use Rattle.buffer_core.specs.Edition.{edition_1}
use Rattle.segment_id.specs.declared.Kind.{Kind}
use Rattle.buffer_core.specs.declared.Direction.TheVariants.{Spend, Unspend}
use Rattle.calls.specs.declared.Call.{Call}
use Rattle.calls.specs.declared.Call.TheVariants as call
use Rattle.calls.specs.Calls.{Among}
use Rattle.call_steps.specs.declared.Said.{Said}
use Rattle.call_steps.specs.declared.Stepped.{Stepped}
use Rattle.call_steps.specs.State.{State, state, Ready}
use Rattle.call_steps.specs.Steps.{Stepping, ChangeStep, stepped, lists_with, left_by, change_step, of_change, step_of}
use Rattle.call_steps.proofs.KeepLaws.{step_kept, step_ready, within}
use Rattle.ledger.specs.Calls.{Tokens}
use Rattle.driver_core.specs.Steps.{change_with, may_be_lifted}
use Rattle.driver_core.specs.Bytes.{tokens_at}
use Rattle.driver_core.proofs.KeepLaws.{change_kept}
use Rattle.driver_changes.specs.Internal.{change_tokens_of}
use Rattle.driver_calls.specs.declared.Read.{Read}
use Rattle.driver_calls.specs.declared.Read.TheVariants as read
use Rattle.driver_calls.specs.Reads.{Sound}
use Rattle.driver_steps.specs.declared.Move.{Move}
use Rattle.driver_steps.specs.declared.Move.TheVariants.{Segment, Balance}
use Rattle.driver_steps.specs.Moves.{move_of, made_by, undone_by, MoveReady}

-- a code that is not one of the first three
pub lifted_last : (code : ℕ) → eqb code 12 ≡ false → eqb code 16 ≡ false → eqb code 21 ≡ false → eqb code 22 ≡ may_be_lifted code
lifted_last code e f g = sym (λ i. e i || (f i || (g i || eqb code 22)))

-- ---- what was read, as the code took it apart, with the number that it passes on
module _ (x : Read) (n' n : ℤ) (f : n' ≡ n) where
  pub append_made : (k : Kind) (p : ℕ) → x ≡ read.Append k p n → Segment (call.Append k p n') ≡ made_by x
  append_made k p e = ap (λ (z : ℤ). Segment (call.Append k p z)) f ∙ ap made_by (sym e)

  pub spend_made : (p : ℕ) → x ≡ read.Spend p n → Segment (call.Flip Spend p n') ≡ made_by x
  spend_made p e = ap (λ (z : ℤ). Segment (call.Flip Spend p z)) f ∙ ap made_by (sym e)

  pub unspend_made : (p : ℕ) → x ≡ read.Unspend p n → Segment (call.Flip Unspend p n') ≡ made_by x
  unspend_made p e = ap (λ (z : ℤ). Segment (call.Flip Unspend p z)) f ∙ ap made_by (sym e)

  pub spend_undone : (p : ℕ) → x ≡ read.Spend p n → Segment (call.Flip Unspend p n') ≡ undone_by x
  spend_undone p e = ap (λ (z : ℤ). Segment (call.Flip Unspend p z)) f ∙ ap undone_by (sym e)

  pub change_made : (adding : Bool) (p t k : ℕ) → x ≡ read.Change adding p n t k → Balance adding p n' t k ≡ made_by x
  change_made adding p t k e = ap (λ (z : ℤ). Balance adding p z t k) f ∙ ap made_by (sym e)

  pub change_undone : (adding : Bool) (p t k : ℕ) → x ≡ read.Change adding p n t k → Balance (not adding) p n' t k ≡ undone_by x
  change_undone adding p t k e = ap (λ (z : ℤ). Balance (not adding) p z t k) f ∙ ap undone_by (sym e)

-- ---- what the code has done is the step: m is what it was given
module _ (s : List ℕ) (m : Move) (ids : List ℕ) (numbers : List ℤ) (lengths : List ℕ) (spills : List ℤ) (staged table deleted : List ℕ) (n : SpillCounts) where
  abbrev S : State
  S = state ids numbers lengths spills (lists_with n staged table deleted)

  pub segment_returns : (c : Call) (x : Stepping) → m ≡ Segment c → x ≡ step_of edition_1 c S → x ≡ move_of s m S
  segment_returns c x e q = q ∙ ap (λ (y : Move). move_of s y S) (sym e)

  pub balance_returns : (adding : Bool) (p : ℕ) (nanos nanos' : ℤ) (t k : ℕ) (a : Said) (ids' : List ℕ) (numbers' : List ℤ) (lengths' : List ℕ)
      → m ≡ Balance adding p nanos t k → nanos' ≡ nanos
      → change_step a ids' numbers' lengths' ≡ change_tokens_of adding p nanos' (tokens_at s t (t + k * 32) k) ids numbers lengths
      → left_by (stepped a n) ids' numbers' lengths' spills staged table deleted ≡ move_of s m S
  unfolding change_with
  balance_returns adding p nanos nanos' t k a ids' numbers' lengths' e f q =
      ap (λ (o : ChangeStep). of_change o S) (q ∙ ap (λ (z : ℤ). change_tokens_of adding p z (tokens_at s t (t + k * 32) k) ids numbers lengths) f)
      ∙ ap (λ (y : Move). move_of s y S) (sym e)

-- ---- a step of a parent that is there, with tokens that are there
module _ (parents : ℕ) (s : List ℕ) where
  abbrev pub MoveAmong : Move → Type 0
  MoveAmong (Segment c) = Among parents c
  MoveAmong (Balance adding p n t k) = (p < parents) × (t + k * 40 ≤ length s)

  pub made_among : (x : Read) → Sound parents s x → MoveAmong (made_by x)
  made_among (read.Append k p n) h = h
  made_among (read.Spend p n) h = h
  made_among (read.Unspend p n) h = h
  made_among (read.Pop k p) h = h
  made_among read.Flush h = tt
  made_among (read.Change adding p n t k) h = h
  made_among read.Bad h = tt
  made_among read.Cut h = tt
  made_among read.End h = tt

  pub undone_among : (x : Read) → Sound parents s x → MoveAmong (undone_by x)
  undone_among (read.Append k p n) h = h
  undone_among (read.Spend p n) h = h
  undone_among (read.Unspend p n) h = tt
  undone_among (read.Pop k p) h = tt
  undone_among read.Flush h = tt
  undone_among (read.Change adding p n t k) h = h
  undone_among read.Bad h = tt
  undone_among read.Cut h = tt
  undone_among read.End h = tt

  module _ (x : State) (r : Ready parents x) where
    pub move_ready : (m : Move) → MoveAmong m → MoveReady s m x
    move_ready (Segment c) h = step_ready parents x r c h
    move_ready (Balance adding p n t k) h = (h.1, within parents x r p h.0)

    pub move_kept : (m : Move) → MoveAmong m → Ready parents (move_of s m x).after
    move_kept (Segment c) h = step_kept parents x r c h
    move_kept (Balance adding p n t k) h = change_kept parents x r adding p h.0 n (tokens_at s t (t + k * 32) k)
