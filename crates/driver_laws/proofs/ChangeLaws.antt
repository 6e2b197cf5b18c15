-- A credit and a debit with any tokens are those of the fork-undo theorem.
use Prim.Native.Nat.{ℕ, ◌<◌}
use mathlib.Core.Path.{◌≡◌, refl, sym, ap, subst}
use mathlib.Core.Bool.{Bool}
use mathlib.Core.List.{List, [], ◌∷◌, ◌++◌}
use lib.IntN.{ℤ}
use lib.ListN.{length}
use Rattle.call_steps.specs.State.{State, Ready}
use Rattle.call_steps.specs.Steps.{Stepping}
use Rattle.ledger.specs.Ledger.{Typed}
use Rattle.ledger.specs.Calls.{Tokens}
use Rattle.balance_laws.specs.Calls.{ids_of, amounts_of}
use Rattle.history_runs.specs.View.{balance_in, SameBalance, changed}
use Rattle.driver_core.specs.Steps.{token_ids, token_amounts, change_with}
use Rattle.history_runs.proofs.BalanceLaws.{change_in_place, change_any}

-- the ids and amounts of a call are those of the theorem's credits and debits
ids_same : (ts : Tokens) → token_ids ts ≡ ids_of ts
unfolding token_ids
ids_same [] = refl
ids_same (x ∷ ts) = ap (λ (l : List ℕ). x.0 ++ l) (ids_same ts)

amounts_same : (ts : Tokens) → token_amounts ts ≡ amounts_of ts
unfolding token_amounts
amounts_same [] = refl
amounts_same (x ∷ ts) = ap (λ (l : List ℤ). x.1 ∷ l) (amounts_same ts)

change_box_same : (adding : Bool) (p : ℕ) (nanos : ℤ) (ts : Tokens) (s : State)
    → change_in_place adding p nanos (ids_of ts) (amounts_of ts) (length ts) s ≡ change_with adding p nanos ts s
unfolding change_with
change_box_same adding p nanos ts s = λ i. change_in_place adding p nanos (sym (ids_same ts) i) (sym (amounts_same ts) i) (length ts) s

module _ (parents : ℕ) (s : State) (r : Ready parents s) (adding : Bool) (p : ℕ) (h : p < parents) (nanos : ℤ) (ts : Tokens) where
  -- in a state that refusal 25 passed, on one of its parents
  pub change_same : Typed ts → SameBalance s p (change_with adding p nanos ts s) (changed adding (balance_in s p) nanos ts)
  change_same m =
      subst (λ (x : Stepping). SameBalance s p x (changed adding (balance_in s p) nanos ts)) (change_box_same adding p nanos ts s) (change_any parents s r adding p h nanos ts m)
