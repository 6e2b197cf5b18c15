-- What the steps of a tally answer.
use Rattle.std.specs.Prelude.{ℕ, zero, suc, ◌+◌, Ok, Err}
use Rattle.index_types.specs.declared.Tally.{Tally}
use Rattle.entries.specs.Tally.{figures, plus}
use Rattle.index_types.specs.Answers.{Tallied}
use Rattle.buffer_core.specs.Edition.{RowRead, good, bad}

-- the figures of a row, or the row's refusal code
abbrev pub counted : RowRead → Tallied
counted (good zs) = Ok (figures zs)
counted (bad code) = Err code

-- t has the entries counted so far
abbrev pub tally_row : RowRead → Tally → (Tally → Tallied) → Tallied
tally_row (bad code) t rest = Err code
tally_row (good zs) t rest = rest (plus t (figures zs))

-- k rows from spill number n up, on top of them
unfoldable pub tally_rows : (ℕ → RowRead) → (n k : ℕ) → Tally → Tallied
tally_rows f n zero t = Ok t
tally_rows f n (suc k) t = tally_row (f n) t (λ t'. tally_rows f (n + 1) k t')
