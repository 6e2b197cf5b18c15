-- What the exports of the spend and the unspend with a summary leave: the outs of those without one, and the summary at exit, from the definition of the
-- public call.
use Rattle.std.specs.Prelude.{ℕ, List, ℤ}
use Rattle.index_types.specs.declared.RowEdition.{RowEdition}
use Rattle.buffer_core.specs.declared.Direction.{Direction}
use Rattle.buffer_core.specs.Edition.{edition_of}
use Rattle.buffer_core.specs.Append.{counts_of}
use Rattle.summary_core.specs.Lines.{WithSummary}
use Rattle.summary_core.specs.Flip.{flip_lines_of}
use Rattle.ergo_index_lists.specs.Lists.{list_of}
use Rattle.ergo_index_outs.specs.Outs.{FlipOut}
use Rattle.ergo_index_flips.specs.Flips.{flip_export}
use Rattle.ergo_index_summary.specs.Summary.{exported}

abbrev pub flip_lines_call : RowEdition → Direction → (parent : List ℕ) (len : ℕ) (spills : ℤ) → List ℤ → (target : ℤ) (s s_capacity : ℕ) → List ℕ → (t t_capacity : ℕ) → List ℕ
    → (lines : ℕ) → List ℕ → WithSummary FlipOut
flip_lines_call v d parent len spills head target s sc staged t tc table lines S =
    exported (flip_export s) (flip_lines_of (edition_of v) d parent (counts_of len spills) target (list_of s sc) staged (list_of t tc) table head lines S)
