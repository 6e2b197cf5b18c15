-- The entries of a parent's spills as one list: "spill 0 up", each row checked as in a spend; the first row that is refused ends it with its refusal.
use Rattle.std.specs.Prelude.{ℕ, zero, suc, ◌+◌, List, [], ◌++◌, ℤ}
use Rattle.buffer_core.specs.Edition.{RowRead, bad, good}

abbrev pub then_more : List ℤ → RowRead → RowRead
then_more zs (bad code) = bad code
then_more zs (good more) = good (zs ++ more)

-- a row, then the rows behind it
abbrev pub then_rows : RowRead → RowRead → RowRead
then_rows (bad code) rest = bad code
then_rows (good zs) rest = then_more zs rest

-- k rows from spill number n up; f reads them
unfoldable pub rows_up : (ℕ → RowRead) → (n k : ℕ) → RowRead
rows_up f n zero = good []
rows_up f n (suc k) = then_rows (f n) (rows_up f (n + 1) k)
