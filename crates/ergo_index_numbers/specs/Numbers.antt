-- What the exports of coded numbers leave: the code, the position and what was written or read. A refusal changes nothing.
use Rattle.std.specs.Prelude.{ℕ, List, ℤ, Ok, Err}
use Rattle.index_types.specs.Answers.{Wrote}
use Rattle.index_types.specs.Answers.{Long}
use Rattle.index_types.specs.Answers.{Int}
use Rattle.vlq_core.specs.Writing.{Written}

-- ---- writing: the code, the position and the output at exit
pub record WriteOut : Type 0 where
  pub code : ℕ
  pub at : ℕ
  pub out : List ℕ

abbrev pub write_out : ℕ → ℕ → List ℕ → WriteOut
write_out code at out = record { code = code; at = at; out = out }

abbrev pub write_by : Wrote → ℕ → List ℕ → WriteOut
write_by (Ok next) at out = write_out 0 next out
write_by (Err code) at out = write_out code at out

-- a writer's answer and output; the position was `at`
abbrev pub write_export : ℕ → Written → WriteOut
write_export at w = write_by w.answer at w.out

-- ---- reading: the code, the position and the number at exit
pub record NumberOut : Type 0 where
  pub code : ℕ
  pub at : ℕ
  pub number : ℤ

abbrev pub number_out : ℕ → ℕ → ℤ → NumberOut
number_out code at n = record { code = code; at = at; number = n }

-- a reader's answer; the position was `at`, the number out n
abbrev pub long_export : ℕ → ℤ → Long → NumberOut
long_export at n (Ok (m, next)) = number_out 0 next m
long_export at n (Err code) = number_out code at n

abbrev pub int_export : ℕ → ℤ → Int → NumberOut
int_export at n (Ok (m, next)) = number_out 0 next m
int_export at n (Err code) = number_out code at n
