-- A balance by mutable reference (document 01, "Balance"): "`add_box` and `subtract_box` also take the balance by mutable reference, as the Rust does."
use Rattle.refusal.specs.Answers.{Answer}
use Rattle.balance.specs.declared.Balance.{Balance}
use Rattle.balance.specs.declared.Outcome.{Outcome}

-- the answer, and the borrowed balance at exit, as the outcome of the call by value
abbrev pub left : Answer → Balance → Outcome
left r b = record { answer = r; balance = b }
