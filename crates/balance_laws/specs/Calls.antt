-- The calls on a balance as the histories of the fork-undo theorem make them: a box's tokens are laid out as the calls borrow them.
use Rattle.std.specs.Prelude.{List, [], ◌∷◌, ◌++◌, ℕ, zero, suc, ℤ, pos, length, get_or, Ok, Err}
use Rattle.refusal.specs.Answers.{Answer}
use Rattle.balance.specs.declared.Balance.{Balance}
use Rattle.balance.specs.declared.Outcome.{Outcome}
use Rattle.balance.specs.Tokens.{id_at}
use Rattle.balance.specs.Boxes.{add_box, subtract_box}
use Rattle.ledger.specs.Ledger.{Tokens}
use Rattle.ledger.specs.Run.{Made, accepted, refused_leaving}

-- the ids one after the other, and the amounts at the same places
abbrev pub ids_of : Tokens → List ℕ
ids_of [] = []
ids_of (x ∷ ts) = x.0 ++ ids_of ts

abbrev pub amounts_of : Tokens → List ℤ
amounts_of [] = []
amounts_of (x ∷ ts) = x.1 ∷ amounts_of ts

-- the balance at exit, accepted or refused
abbrev pub answered : Answer → Balance → Made Balance Balance
answered (Ok tt) b = accepted b
answered (Err code) b = refused_leaving code b

abbrev pub outcome_of : Outcome → Made Balance Balance
outcome_of o = answered o.answer o.balance

abbrev pub credited : Balance → ℤ → Tokens → Made Balance Balance
credited b n ts = outcome_of (add_box b n (ids_of ts) (amounts_of ts) (length ts))

abbrev pub debited : Balance → ℤ → Tokens → Made Balance Balance
debited b n ts = outcome_of (subtract_box b n (ids_of ts) (amounts_of ts) (length ts))

-- n tokens from place i on
abbrev pub tokens_from : List ℕ → List ℤ → ℕ → ℕ → Tokens
tokens_from ids amounts i zero = []
tokens_from ids amounts i (suc n) = (id_at ids i, get_or amounts i (pos 0)) ∷ tokens_from ids amounts (suc i) n

-- what a balance holds
abbrev pub tokens_in : Balance → Tokens
tokens_in b = tokens_from b.ids b.amounts 0 b.count
