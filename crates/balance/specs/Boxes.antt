-- What `add_box` and `subtract_box` answer (document 01, "Balance", and its row of the table). A refusal gives back the old balance.
use Rattle.std.specs.Prelude.{ℕ, ◌*◌, Bool, true, false, cond, ◌&&◌, List, length, leb, ℤ, pos, ◌+ℤ◌, ◌-ℤ◌, Option, Some, None, Ok, Err}
use Rattle.std.specs.Int.Signed.{lt_z}
use Rattle.index_types.specs.Limits.{token_limit}
use Rattle.signed.specs.Checked.{checked}
use Rattle.balance.specs.declared.Balance.{Balance}
use Rattle.balance.specs.declared.Outcome.{Outcome}
use Rattle.balance_tokens.specs.Tokens.{Held, Changed, held, refused_by, change_tokens}

-- 25 unless the balance's count is at most 128, and the box's ids and amounts are there for its n tokens
unfoldable pub buffers_ok : ℕ → List ℕ → List ℤ → ℕ → Bool
buffers_ok count ids amounts n = leb count token_limit && (leb n (length amounts) && leb (n * 32) (length ids))

-- "Subtraction stops nanoErgs at 0"
abbrev pub stopped : Option ℤ → Option ℤ
stopped (Some v) = Some (cond (lt_z v (pos 0)) (pos 0) v)
stopped None = None

-- the new nanoErgs, or that the sum, or the difference before the stop, leaves 64 signed bits
abbrev pub nanos_after : Bool → ℤ → ℤ → Option ℤ
nanos_after adding old nanos = cond adding (checked (old +ℤ nanos)) (stopped (checked (old -ℤ nanos)))

abbrev pub held_by : Balance → Held
held_by b = record { ids = b.ids; amounts = b.amounts; count = b.count }

abbrev pub refused : ℕ → Balance → Outcome
refused code b = record { answer = Err code; balance = b }

-- the balance with its new nanoErgs and tokens, or the refusal and the old one
abbrev pub settled : Balance → ℤ → Changed → Outcome
settled b nanos (held h) =
    record { answer = Ok tt; balance = record { ids = h.ids; amounts = h.amounts; count = h.count; nanos = nanos } }
settled b nanos (refused_by code) = refused code b

-- "in list order, nanoErgs first: 23 sum or difference (before the stop at 0) leaves 64 signed bits; 24 a 129th token"
abbrev pub box_by : Bool → Balance → List ℕ → List ℤ → ℕ → Option ℤ → Outcome
box_by adding b ids amounts n (Some nanos) = settled b nanos (change_tokens adding ids amounts 0 n (held_by b))
box_by adding b ids amounts n None = refused 23 b

-- "25 is tested first everywhere"
unfoldable pub change_box : Bool → Balance → ℤ → List ℕ → List ℤ → ℕ → Outcome
change_box adding b nanos ids amounts n =
    cond (buffers_ok b.count ids amounts n) (box_by adding b ids amounts n (nanos_after adding b.nanos nanos)) (refused 25 b)

-- a box of n tokens added to a balance, and one subtracted from it
abbrev pub add_box : Balance → ℤ → List ℕ → List ℤ → ℕ → Outcome
add_box b nanos ids amounts n = change_box true b nanos ids amounts n

abbrev pub subtract_box : Balance → ℤ → List ℕ → List ℤ → ℕ → Outcome
subtract_box b nanos ids amounts n = change_box false b nanos ids amounts n
