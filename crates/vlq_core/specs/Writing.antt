-- Bytes written to a borrowed output (document 01, the table's row "Writer"): 32 where the output is too short.
-- "A refusal returns its number only and changes nothing."
use Rattle.std.specs.Prelude.{ℕ, ◌+◌, cond, List, leb, length, Ok, Err}
use Rattle.stores.specs.Stores.{write}
use Rattle.index_types.specs.Answers.{Wrote}

-- the answer, and the output at exit
pub record Written : Type 0 where
  pub answer : Wrote
  pub out : List ℕ

abbrev pub written : Wrote → List ℕ → Written
written r l = record { answer = r; out = l }

-- the bytes s from position `at` of the output l on; bytes before and behind them stay
unfoldable pub put_bytes : List ℕ → List ℕ → ℕ → Written
put_bytes s l at = cond (leb (at + length s) (length l)) (written (Ok (at + length s)) (write at s l)) (written (Err 32) l)
