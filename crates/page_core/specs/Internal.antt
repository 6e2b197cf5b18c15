-- The entries of the rows while a page is filled, whether or not they pass the checks: a refused row has none.
use Rattle.std.specs.Prelude.{ℕ, zero, suc, ◌+◌, List, [], ◌++◌, ℤ}
use Rattle.buffer_core.specs.Edition.{RowRead, good, bad}

abbrev pub numbers_in : RowRead → List ℤ
numbers_in (good zs) = zs
numbers_in (bad code) = []

-- k rows from spill number n up
unfoldable pub rows_flat : (ℕ → RowRead) → (n k : ℕ) → List ℤ
rows_flat f n zero = []
rows_flat f n (suc k) = numbers_in (f n) ++ rows_flat f (n + 1) k
