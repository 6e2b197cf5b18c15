-- What the exports of balances leave: the code, and the balance at exit.
use Rattle.std.specs.Prelude.{ℕ}
use Rattle.refusal.specs.Refusal.{code_of}
use Rattle.balance.specs.declared.Balance.{Balance}
use Rattle.balance.specs.declared.Outcome.{Outcome}

pub record BalanceOut : Type 0 where
  pub code : ℕ
  pub balance : Balance

abbrev pub balance_out : ℕ → Balance → BalanceOut
balance_out code b = record { code = code; balance = b }

abbrev pub balance_export : Outcome → BalanceOut
balance_export o = balance_out (code_of o.answer) o.balance
