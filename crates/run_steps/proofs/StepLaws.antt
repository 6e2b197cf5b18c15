-- Each call's step is the definition's, for the call as the code matched it.
use Prim.Native.Nat.{ℕ}
use mathlib.Core.Path.{◌≡◌, sym, ap, ◌∙◌}
use mathlib.Core.Bool.{Bool}
use mathlib.Core.List.{List}
use lib.IntN.{ℤ}
use Rattle.segment_id.specs.declared.Kind.{Kind}
use Rattle.buffer_core.specs.declared.Direction.{Direction}
use Rattle.buffer_core.specs.Edition.{edition_1}
use Rattle.calls.specs.declared.Call.{Call}
use Rattle.calls.specs.declared.Call.TheVariants.{Append, Flip, Pop, Flush, Change, Bad, Cut, End}
use Rattle.call_steps.specs.declared.Said.{Said}
use Rattle.index_types.specs.declared.SpillCounts.{SpillCounts}
use Rattle.call_steps.specs.declared.Stepped.{Stepped}
use Rattle.call_steps.specs.State.{State, state}
use Rattle.call_steps.specs.Steps.{refused, stepped, left_by, lists_with, count_step, HeadStep, head_step, append_by, of_append, FlipStep, flip_step, flip_by, of_flip, PopStep, pop_step, pop_by, of_pop, FlushStep, flush_step, flush_by, of_flush, ChangeStep, change_step, change_of, of_change, step_of}

module _ (call : Call) (ids : List ℕ) (numbers : List ℤ) (lengths : List ℕ) (spills : List ℤ) (staged table deleted : List ℕ) (n : SpillCounts) where
  abbrev S : State
  S = state ids numbers lengths spills (lists_with n staged table deleted)

  -- the definition's step of the call that was matched
  of_call : (x : Call) → call ≡ x → step_of edition_1 x S ≡ step_of edition_1 call S
  of_call x e = ap (λ (c : Call). step_of edition_1 c S) (sym e)

  pub append_returns : (k : Kind) (p : ℕ) (z : ℤ) (z' : ℤ) (r : Stepped) (numbers' : List ℤ) (lengths' : List ℕ) (spills' : List ℤ) (staged' : List ℕ)
      → call ≡ Append k p z → z' ≡ z
      → head_step (count_step r lengths' spills') numbers' staged' ≡ append_by edition_1 k p z' ids numbers lengths spills staged n
      → left_by r ids numbers' lengths' spills' staged' table deleted ≡ step_of edition_1 call S
  unfolding step_of
  append_returns k p z z' r numbers' lengths' spills' staged' e f q =
      ap (λ (o : HeadStep). of_append o S) (q ∙ ap (λ (y : ℤ). append_by edition_1 k p y ids numbers lengths spills staged n) f) ∙ of_call (Append k p z) e

  pub flip_returns : (d : Direction) (p : ℕ) (z : ℤ) (z' : ℤ) (r : Stepped) (numbers' : List ℤ) (staged' : List ℕ) → call ≡ Flip d p z → z' ≡ z
      → flip_step r numbers' staged' ≡ flip_by edition_1 d p z' ids numbers lengths spills staged table n
      → left_by r ids numbers' lengths spills staged' table deleted ≡ step_of edition_1 call S
  unfolding step_of
  flip_returns d p z z' r numbers' staged' e f q =
      ap (λ (o : FlipStep). of_flip o S) (q ∙ ap (λ (y : ℤ). flip_by edition_1 d p y ids numbers lengths spills staged table n) f) ∙ of_call (Flip d p z) e

  pub pop_returns : (k : Kind) (p : ℕ) (r : Stepped) (numbers' : List ℤ) (lengths' : List ℕ) (spills' : List ℤ) (staged' deleted' : List ℕ) → call ≡ Pop k p
      → pop_step (count_step r lengths' spills') numbers' staged' deleted' ≡ pop_by edition_1 k p ids numbers lengths spills (lists_with n staged table deleted)
      → left_by r ids numbers' lengths' spills' staged' table deleted' ≡ step_of edition_1 call S
  unfolding step_of
  pop_returns k p r numbers' lengths' spills' staged' deleted' e q = ap (λ (o : PopStep). of_pop o S) q ∙ of_call (Pop k p) e

  pub flush_returns : (r : Stepped) (table' staged' deleted' : List ℕ) → call ≡ Flush
      → flush_step r table' staged' deleted' ≡ flush_by edition_1 (lists_with n staged table deleted)
      → left_by r ids numbers lengths spills staged' table' deleted' ≡ step_of edition_1 call S
  unfolding step_of
  flush_returns r table' staged' deleted' e q = ap (λ (o : FlushStep). of_flush o S) q ∙ of_call Flush e

  pub change_returns : (adding : Bool) (p : ℕ) (nanos nanos' : ℤ) (token : ℕ) (amount amount' : ℤ) (a : Said) (ids' : List ℕ) (numbers' : List ℤ) (lengths' : List ℕ)
      → call ≡ Change adding p nanos token amount → nanos' ≡ nanos → amount' ≡ amount
      → change_step a ids' numbers' lengths' ≡ change_of adding p nanos' token amount' ids numbers lengths
      → left_by (stepped a n) ids' numbers' lengths' spills staged table deleted ≡ step_of edition_1 call S
  unfolding step_of
  change_returns adding p nanos nanos' token amount amount' a ids' numbers' lengths' e f g q =
      ap (λ (o : ChangeStep). of_change o S) (q ∙ (λ i. change_of adding p (f i) token (g i) ids numbers lengths)) ∙ of_call (Change adding p nanos token amount) e

  module _ (r : Stepped) (q : r ≡ stepped (refused 31) n) where
    abbrev Left : Type 0
    Left = left_by r ids numbers lengths spills staged table deleted ≡ step_of edition_1 call S

    same : left_by r ids numbers lengths spills staged table deleted ≡ left_by (stepped (refused 31) n) ids numbers lengths spills staged table deleted
    same = ap (λ (x : Stepped). left_by x ids numbers lengths spills staged table deleted) q

    pub bad_returns : call ≡ Bad → Left
    unfolding step_of
    bad_returns e = same ∙ of_call Bad e

    pub cut_returns : call ≡ Cut → Left
    unfolding step_of
    cut_returns e = same ∙ of_call Cut e

    pub end_returns : call ≡ End → Left
    unfolding step_of
    end_returns e = same ∙ of_call End e
