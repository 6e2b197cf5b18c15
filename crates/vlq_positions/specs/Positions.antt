-- Positions of a reader of coded numbers (document 01, "Coded numbers"): where it stands after what it looked for.
use Rattle.std.specs.Prelude.{ℕ, ◌+◌, cond, List, leb, length, Result, Ok, Err}
use Rattle.vlq_positions.specs.Answers.{Span}

-- the position after what was looked for at position `at`, a number or bytes; a refusal leaves it
module _ {A : Type 0} where
  abbrev pub after : Result (A × ℕ) ℕ → ℕ → ℕ
  after (Ok (found, next)) at = next
  after (Err code) at = at

-- the n bytes at position `at` of s: "1 bytes end inside a field"
unfoldable pub span_at : List ℕ → ℕ → ℕ → Span
span_at s at n = cond (leb (at + n) (length s)) (Ok (at, at + n)) (Err 1)
