-- What the exports of the box append and the box pop with a summary leave: the outs of those without one, and the summary at exit, from the definition of the
-- public call.
use Rattle.std.specs.Prelude.{ℕ, List, ℤ}
use Rattle.index_types.specs.declared.RowEdition.{RowEdition}
use Rattle.buffer_core.specs.Edition.{edition_of}
use Rattle.buffer_core.specs.Append.{counts_of}
use Rattle.buffer_core.specs.Pop.{lists}
use Rattle.summary_core.specs.Lines.{WithSummary}
use Rattle.summary_core.specs.Moves.{append_lines_of, pop_lines_of}
use Rattle.ergo_index_lists.specs.Lists.{list_of}
use Rattle.ergo_index_outs.specs.Outs.{AppendOut}
use Rattle.ergo_index_append.specs.Append.{append_export}
use Rattle.ergo_index_outs.specs.Outs.{PopOut}
use Rattle.ergo_index_pop.specs.Pop.{pop_export}
use Rattle.ergo_index_summary.specs.Summary.{exported}

-- ---- append
abbrev pub append_lines_call : RowEdition → (parent : List ℕ) (len : ℕ) (spills : ℤ) → List ℤ → (number : ℤ) (count capacity : ℕ) → List ℕ → (lines : ℕ) → List ℕ → WithSummary AppendOut
append_lines_call v parent len spills head number count capacity staged lines S =
    exported (append_export len spills count) (append_lines_of (edition_of v) parent (counts_of len spills) number (list_of count capacity) head staged lines S)

-- ---- pop
abbrev pub pop_lines_call : RowEdition → (parent : List ℕ) (len : ℕ) (spills : ℤ) → List ℤ → (s s_capacity : ℕ) → List ℕ → (t t_capacity : ℕ) → List ℕ → (d d_capacity : ℕ) → List ℕ
    → (lines : ℕ) → List ℕ → (number : ℤ) → WithSummary PopOut
pop_lines_call v parent len spills head s sc staged t tc table d dc deleted lines S n =
    exported (pop_export n len spills s d)
    (pop_lines_of (edition_of v) parent (counts_of len spills) (lists (list_of s sc) staged (list_of t tc) table (list_of d dc) deleted) head lines S)
