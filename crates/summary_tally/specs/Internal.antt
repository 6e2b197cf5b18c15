-- What a step of the tally with a summary answers.
use Rattle.std.specs.Prelude.{ℕ, ◌+◌, cond, List, eqb, Ok, Err}
use Rattle.index_types.specs.Limits.{segment_threshold}
use Rattle.index_types.specs.Answers.{Tallied}
use Rattle.summary_core.specs.Tally.{figures_at}

-- the three counts of line n, or 36; the sum is the true one
abbrev pub counts_at : List ℕ → ℕ → Tallied
counts_at S n =
    cond (eqb ((figures_at S n).unspent + (figures_at S n).spent + (figures_at S n).unknown) segment_threshold) (Ok (figures_at S n)) (Err 36)
