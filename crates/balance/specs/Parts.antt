-- A balance in borrowed parts: what a change leaves in them.
use Rattle.std.specs.Prelude.{ℕ, ◌<◌, ◌≡◌, List, get_or, ℤ, pos, nat_abs, Ok, Err}
use Rattle.refusal.specs.Answers.{Answer}
use Rattle.balance.specs.declared.Balance.{Balance}
use Rattle.balance.specs.declared.Outcome.{Outcome}
use Rattle.balance_tokens.specs.Answers.{Counted}
use Rattle.balance_tokens.specs.Tokens.{Changed, held, refused_by}

-- a balance of ids and amounts, a count and nanoErgs
abbrev pub flat : List ℕ → List ℤ → ℕ → ℤ → Balance
flat ids amounts count nanos = record { ids = ids; amounts = amounts; count = count; nanos = nanos }

abbrev pub outcome : Answer → Balance → Outcome
outcome answer b = record { answer = answer; balance = b }

-- the first n numbers are below a bound, by their absolute values
abbrev pub Small : ℕ → List ℤ → ℕ → Type 0
Small bound l n = (k : ℕ) → k < n → nat_abs (get_or l k (pos 0)) < bound

-- no token was refused
abbrev pub Passed : Changed → Type 0
Passed (held h) = Unit {0}
Passed (refused_by code) = ⊥

-- a change of tokens in two borrowed arrays, which it leaves as ids' and amounts': what is held, or the refusal with both as they were
abbrev pub Kept : Counted → List ℕ → List ℤ → List ℕ → List ℤ → Changed → Type 0
Kept (Ok n) ids amounts ids' amounts' x = held (record { ids = ids'; amounts = amounts'; count = n }) ≡ x
Kept (Err code) ids amounts ids' amounts' x = (refused_by code ≡ x) × (ids' ≡ ids) × (amounts' ≡ amounts)
