-- What the exports on the missing rows of a spend or an unspend with a summary leave: the row that it needs next, told by the outs.
use Rattle.std.specs.Prelude.{ℕ, List, ℤ}
use Rattle.index_types.specs.declared.RowEdition.{RowEdition}
use Rattle.segment_id.specs.declared.Kind.TheVariants.{Box}
use Rattle.buffer_core.specs.declared.Direction.{Direction}
use Rattle.buffer_core.specs.Edition.{edition_of}
use Rattle.buffer_core.specs.Append.{counts_of}
use Rattle.missing_with_summary.specs.Missing.{missing_for_flip_with_summary}
use Rattle.missing_outs.specs.Outs.{MissingOut, missing_by}
use Rattle.ergo_index_lists.specs.Lists.{list_of}

abbrev pub flip_lines_missing : RowEdition → Direction → (parent : List ℕ) (len : ℕ) (spills : ℤ) → List ℤ → (target : ℤ) (s s_capacity : ℕ) → List ℕ → (t t_capacity : ℕ) → List ℕ → (lines : ℕ) → List ℕ → ℤ → (key : List ℕ) → MissingOut
flip_lines_missing v d parent len spills head target s sc staged t tc table lines S number key =
    missing_by Box parent number key (missing_for_flip_with_summary (edition_of v) d parent (counts_of len spills) target (list_of s sc) staged (list_of t tc) table head lines S)
