-- What a change of tokens leaves of the lists that it works in.
use Rattle.std.specs.Prelude.{ℕ, List, ℤ, Ok, Err}
use Rattle.stores.specs.Stores.{write}
use Rattle.balance_tokens.specs.Answers.{Counted}
use Rattle.balance_tokens.specs.Tokens.{Changed, held, refused_by}

-- the answer, and both lists at exit
pub record Left : Type 0 where
  pub answer : Counted
  pub ids : List ℕ
  pub numbers : List ℤ

abbrev pub left : Counted → List ℕ → List ℤ → Left
left c ids numbers = record { answer = c; ids = ids; numbers = numbers }

-- what is held takes its places, from i on and from a on; a refusal leaves them
abbrev pub placed : (i a : ℕ) → List ℕ → List ℤ → Changed → Left
placed i a ids numbers (held h) = left (Ok h.count) (write i h.ids ids) (write a h.amounts numbers)
placed i a ids numbers (refused_by code) = left (Err code) ids numbers
