-- One call of a driver on the state of all parents ("appends, .. spends, .. credits and debits with any 32-byte ids and any number of tokens, none too; flush").
-- The calls are those of the ledger: an append, a spend, a credit or a debit with any list of tokens. Each is the step that the runner makes; a credit or a debit
-- passes its ids and amounts as `add_box` and `subtract_box` take them. Rows are of edition 1, as the runner's.
use Rattle.std.specs.Prelude.{ℕ, Bool, true, false, cond, ◌||◌, List, [], ◌∷◌, ◌++◌, eqb, ℤ, length}
use Rattle.balance.specs.Boxes.{change_box}
use Rattle.segment_id.specs.declared.Kind.{Kind}
use Rattle.segment_id.specs.declared.Kind.TheVariants.{Box, Tx}
use Rattle.buffer_core.specs.declared.Direction.TheVariants.{Spend, Unspend}
use Rattle.buffer_core.specs.Edition.{edition_1}
use Rattle.calls.specs.declared.Call.TheVariants.{Append, Flip, Pop, Flush}
use Rattle.call_steps.specs.State.{State, balance_of}
use Rattle.call_steps.specs.Steps.{Stepping, changed_by, of_change, step_of}
use Rattle.ledger.specs.Calls.{Parent, Tokens, Call, append, spend, credit, debit, boxes, txs}

-- the ids one after the other, and the amounts in the same order
unfoldable pub token_ids : Tokens → List ℕ
token_ids [] = []
token_ids (x ∷ ts) = x.0 ++ token_ids ts

unfoldable pub token_amounts : Tokens → List ℤ
token_amounts [] = []
token_amounts (x ∷ ts) = x.1 ∷ token_amounts ts

-- a credit (adding) or a debit of nanoErgs and tokens
unfoldable pub change_with : (adding : Bool) → Parent → ℤ → Tokens → State → Stepping
change_with adding p nanos ts s =
    of_change (changed_by (change_box adding (balance_of p s.ids s.numbers s.lengths) nanos (token_ids ts) (token_amounts ts) (length ts)) p s.ids s.numbers s.lengths) s

abbrev pub make : Call → State → Stepping
make (append (boxes p) n) s = step_of edition_1 (Append Box p n) s
make (append (txs p) n) s = step_of edition_1 (Append Tx p n) s
make (spend p t) s = step_of edition_1 (Flip Spend p t) s
make (credit p n ts) s = change_with true p n ts s
make (debit p n ts) s = change_with false p n ts s

-- "Undo means pop, unspend, `subtract_box` or `add_box` with the same arguments"
abbrev pub unmake : Call → State → Stepping
unmake (append (boxes p) n) s = step_of edition_1 (Pop Box p) s
unmake (append (txs p) n) s = step_of edition_1 (Pop Tx p) s
unmake (spend p t) s = step_of edition_1 (Flip Unspend p t) s
unmake (credit p n ts) s = change_with false p n ts s
unmake (debit p n ts) s = change_with true p n ts s

abbrev pub flushing : State → Stepping
flushing s = step_of edition_1 Flush s

-- an unspend of a target or a pop, by name
pub data Taking : Type 0 where
  unspends : Parent → ℤ → Taking
  pops : Kind → Parent → Taking

abbrev pub take : Taking → State → Stepping
take (unspends p t) s = step_of edition_1 (Flip Unspend p t) s
take (pops k p) s = step_of edition_1 (Pop k p) s

-- a call was accepted: it says 0
abbrev pub is_accepted : Stepping → Bool
is_accepted x = eqb x.said.code 0

-- refusals that a driver lifts: 12, it fetches the row into a working set; 16 and 21, it flushes; 22, it gives a longer table. Then it makes the call again
abbrev pub may_be_lifted : ℕ → Bool
may_be_lifted code = eqb code 12 || (eqb code 16 || (eqb code 21 || eqb code 22))

-- "16, 21: flush and repeat": no flush lifts another refusal, nor one that comes right behind a flush (`fresh`: no undo was accepted since)
abbrev pub final : (fresh : Bool) → ℕ → Bool
final fresh code = fresh || cond (eqb code 16 || eqb code 21) false true
