-- What the functions of `driver_changes` ask of each other: the tokens of a box one after the other.
use Rattle.std.specs.Prelude.{ℕ, zero, suc, ◌+◌, Bool, List, [], ◌∷◌, ℤ, length}
use Rattle.balance_tokens.specs.Tokens.{Held, Changed, held, change_token, and_then}
use Rattle.balance.specs.Boxes.{change_box}
use Rattle.call_steps.specs.State.{balance_of}
use Rattle.call_steps.specs.Steps.{ChangeStep, changed_by}
use Rattle.calls.specs.Calls.{number_at}
use Rattle.ledger.specs.Calls.{Tokens}
use Rattle.driver_core.specs.Steps.{token_ids, token_amounts}

-- n amounts, one after the other from a place on
unfoldable pub amounts_at : List ℕ → (a n : ℕ) → List ℤ
amounts_at s a zero = []
amounts_at s a (suc n) = number_at s a ∷ amounts_at s (a + 8) n

-- "in list order": each token added or subtracted, until one is refused
unfoldable pub change_each : Bool → Tokens → Held → Changed
change_each adding [] h = held h
change_each adding (x ∷ ts) h = and_then (change_token adding h x.0 x.1) (change_each adding ts)

-- `change_with` on the lists that it changes
abbrev pub change_tokens_of : (adding : Bool) → ℕ → ℤ → Tokens → (ids : List ℕ) → (numbers : List ℤ) → (lengths : List ℕ) → ChangeStep
change_tokens_of adding p nanos ts ids numbers lengths =
    changed_by (change_box adding (balance_of p ids numbers lengths) nanos (token_ids ts) (token_amounts ts) (length ts)) p ids numbers lengths
