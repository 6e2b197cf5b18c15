-- The lines of the rows while a summary is written, whether or not the rows pass the checks: a refused row writes none.
use Rattle.std.specs.Prelude.{ℕ, zero, suc, ◌+◌, List}
use Rattle.buffer_core.specs.Edition.{RowRead, good, bad}
use Rattle.summary_core.specs.Lines.{line_of, put_line}

-- the line of row n
abbrev pub row_line : RowRead → (n : ℕ) → List ℕ → List ℕ
row_line (good zs) n S = put_line n (line_of zs) S
row_line (bad code) n S = S

-- those of k rows from spill number n up
unfoldable pub row_lines : (ℕ → RowRead) → (n k : ℕ) → List ℕ → List ℕ
row_lines f n zero S = S
row_lines f n (suc k) S = row_lines f (n + 1) k (row_line (f n) n S)
