-- The tally with a summary (document 02, U8): "The tally adds up the summary and the head only." 25 of the head and the summary, 10, 11, 36 for too few lines,
-- then "in the tally also when a line's three counts do not add up to 512", from line 0 up; the sum is the true one. No row is read, so none is borrowed.
use Rattle.std.specs.Prelude.{ℕ, zero, suc, ◌+◌, cond, ◌&&◌, List, ltb, eqb, ℤ, nat_abs, take, Ok, Err}
use Rattle.index_types.specs.Limits.{segment_threshold}
use Rattle.index_types.specs.declared.HeadCounts.{HeadCounts}
use Rattle.index_types.specs.declared.Tally.{Tally}
use Rattle.index_types.specs.Answers.{Tallied}
use Rattle.signed.specs.Sign.{is_negative}
use Rattle.entries.specs.Order.{order_ok}
use Rattle.entries.specs.Tally.{figures, plus}
use Rattle.buffer_core.specs.Spills.{head_ok}
use Rattle.summary_core.specs.Lines.{at_line, lines_ok}

-- the three counts of line n: above 0, below 0 and equal to 0
abbrev pub figures_at : List ℕ → ℕ → Tally
figures_at S n = record { unspent = at_line S n 2; spent = at_line S n 4; unknown = at_line S n 3 }

-- k lines from line n up, on top of the figures t
unfoldable pub add_lines : List ℕ → (n k : ℕ) → Tally → Tallied
add_lines S n zero t = Ok t
add_lines S n (suc k) t =
    cond (eqb ((figures_at S n).unspent + (figures_at S n).spent + (figures_at S n).unknown) segment_threshold)
    (add_lines S (n + 1) k (plus t (figures_at S n)))
    (Err 36)

-- 10, 11, 36, then the lines on top of the head; zs are the numbers of the head
unfoldable pub tally_lines : (spills : ℤ) → List ℤ → (lines : ℕ) → List ℕ → Tallied
tally_lines spills zs lines S =
    cond (order_ok zs)
    (cond (is_negative spills) (Err 11)
    (cond (ltb lines (nat_abs spills)) (Err 36) (add_lines S 0 (nat_abs spills) (figures zs))))
    (Err 10)

unfoldable pub tally_lines_of : HeadCounts → List ℤ → (lines : ℕ) → List ℕ → Tallied
tally_lines_of h head lines S =
    cond (head_ok h head && lines_ok lines S) (tally_lines h.spills (take h.len head) lines S) (Err 25)
