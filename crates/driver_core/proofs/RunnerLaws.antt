-- The runner's calls are calls of a driver: "The runner's format stays as 01 has it", and both make the same steps.
use mathlib.Core.Path.{◌≡◌, refl, ap}
use mathlib.Core.Bool.{Bool, true, false}
use mathlib.Core.List.{List, [], ◌∷◌, append-nil}
use Prim.Native.Nat.{ℕ}
use lib.IntN.{ℤ}
use lib.ListN.{replicate}
use Rattle.balance.specs.Boxes.{change_box}
use Rattle.segment_id.specs.declared.Kind.TheVariants.{Box, Tx}
use Rattle.buffer_core.specs.declared.Direction.TheVariants.{Spend, Unspend}
use Rattle.buffer_core.specs.Edition.{edition_1}
use Rattle.calls.specs.declared.Call.TheVariants.{Append, Flip, Pop, Change}
use Rattle.call_steps.specs.State.{State, balance_of}
use Rattle.call_steps.specs.Steps.{changed_by, change_of, of_change, step_of}
use Rattle.ledger.specs.Calls.{Tokens, append, spend, credit, debit, boxes, txs}
use Rattle.driver_core.specs.Steps.{token_ids, token_amounts, change_with, make, unmake}

-- the runner's tokens: one, whose id is a byte 32 times
abbrev pub one_token : ℕ → ℤ → Tokens
one_token token amount = (replicate 32 token, amount) ∷ []

module _ (p : ℕ) (n : ℤ) (s : State) where
  pub append_box_made : make (append (boxes p) n) s ≡ step_of edition_1 (Append Box p n) s
  append_box_made = refl

  pub append_tx_made : make (append (txs p) n) s ≡ step_of edition_1 (Append Tx p n) s
  append_tx_made = refl

  pub append_box_undone : unmake (append (boxes p) n) s ≡ step_of edition_1 (Pop Box p) s
  append_box_undone = refl

  pub append_tx_undone : unmake (append (txs p) n) s ≡ step_of edition_1 (Pop Tx p) s
  append_tx_undone = refl

  pub spend_made : make (spend p n) s ≡ step_of edition_1 (Flip Spend p n) s
  spend_made = refl

  pub spend_undone : unmake (spend p n) s ≡ step_of edition_1 (Flip Unspend p n) s
  spend_undone = refl

  module _ (token : ℕ) (amount : ℤ) where
    -- a credit or a debit of the runner's one token
    change_made : (adding : Bool) → change_with adding p n (one_token token amount) s ≡ step_of edition_1 (Change adding p n token amount) s
    unfolding change_with token_ids token_amounts step_of change_of
    change_made adding =
        ap (λ (l : List ℕ).
        of_change (changed_by (change_box adding (balance_of p s.ids s.numbers s.lengths) n l (amount ∷ []) 1) p s.ids s.numbers s.lengths) s)
        (append-nil (replicate 32 token))

    pub credit_made : make (credit p n (one_token token amount)) s ≡ step_of edition_1 (Change true p n token amount) s
    credit_made = change_made true

    pub debit_made : make (debit p n (one_token token amount)) s ≡ step_of edition_1 (Change false p n token amount) s
    debit_made = change_made false

    pub credit_undone : unmake (credit p n (one_token token amount)) s ≡ step_of edition_1 (Change false p n token amount) s
    credit_undone = change_made false

    pub debit_undone : unmake (debit p n (one_token token amount)) s ≡ step_of edition_1 (Change true p n token amount) s
    debit_undone = change_made true
