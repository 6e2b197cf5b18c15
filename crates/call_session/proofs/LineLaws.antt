-- The lines of answers in their places are the lines of what they say.
use Prim.Native.Nat.{ℕ, zero, suc, ◌+◌}
use mathlib.Core.Path.{◌≡◌, refl, ap, ◌∙◌}
use mathlib.Core.List.{List, ◌++◌}
use native.Mathlib.Omega.{arith}
use lib.IntN.{ℤ}
use Rattle.call_lines.specs.Lines.{answer_line, lines_from}
use Rattle.call_runs.specs.Made.{said_from}
use Rattle.call_session.specs.Session.{said_lines}

pub lines_said : (first : ℕ) (answers : List ℕ) (popped : List ℤ) (i n : ℕ) → lines_from first answers popped i n ≡ said_lines (first + i) (said_from answers popped i n)
unfolding lines_from said_from said_lines
lines_said first answers popped i zero = refl
lines_said first answers popped i (suc n) =
    let e : first + (i + 1) ≡ first + i + 1 = omega arith in
    ap (λ (l : List ℕ). answer_line first answers popped i ++ l)
    (lines_said first answers popped (i + 1) n ∙ ap (λ (k : ℕ). said_lines k (said_from answers popped (i + 1) n)) e)
