-- What reading and checking a spill's row answers and leaves: the shape of the contract of `read_checked`, which the calls' crates use.
use Rattle.std.specs.Prelude.{◌≡◌, List, ℤ, Ok, Err}
use Rattle.spill_rows.specs.Answers.{Read}
use Rattle.buffer_core.specs.Edition.{RowRead, bad, good}

-- what the read of a row answers
abbrev pub read_of : RowRead → Read
read_of (good zs) = Ok tt
read_of (bad code) = Err code

-- the answer r and the 512 numbers at exit: those of the row x, unless it was refused
pub record CheckedInto (x : RowRead) (r : Read) (out : List ℤ) : Type 0 where
  pub answer : r ≡ read_of x
  pub numbers : r ≡ (Ok tt) → x ≡ good out
