-- What the exports on missing rows leave: the row that the call needs next, told by the outs.
use Rattle.std.specs.Prelude.{ℕ, List, ℤ}
use Rattle.index_types.specs.declared.RowEdition.{RowEdition}
use Rattle.segment_id.specs.declared.Kind.{Kind}
use Rattle.segment_id.specs.declared.Kind.TheVariants.{Box}
use Rattle.buffer_core.specs.declared.Direction.{Direction}
use Rattle.buffer_core.specs.Edition.{edition_of}
use Rattle.buffer_core.specs.Append.{counts_of}
use Rattle.missing_rows.specs.Missing.{missing_for_flip, missing_for_pop, missing_for_tally, missing_for_page}
use Rattle.missing_outs.specs.Outs.{MissingOut, missing_by}
use Rattle.ergo_index_lists.specs.Lists.{list_of}

abbrev pub flip_missing : RowEdition → Direction → (parent : List ℕ) (len : ℕ) (spills : ℤ) → List ℤ → (target : ℤ) (s s_capacity : ℕ) → List ℕ → (t t_capacity : ℕ) → List ℕ → ℤ → (key : List ℕ) → MissingOut
flip_missing v d parent len spills head target s sc staged t tc table number key =
    missing_by Box parent number key (missing_for_flip (edition_of v) d parent (counts_of len spills) target (list_of s sc) staged (list_of t tc) table head)

abbrev pub pop_missing : RowEdition → Kind → (parent : List ℕ) (len : ℕ) (spills : ℤ) → List ℤ → (s s_capacity : ℕ) → List ℕ → (t t_capacity : ℕ) → List ℕ → (d d_capacity : ℕ) → List ℕ → ℤ → (key : List ℕ) → MissingOut
pop_missing v kind parent len spills head s sc staged t tc table d dc deleted number key =
    missing_by kind parent number key (missing_for_pop (edition_of v) kind parent (counts_of len spills) (list_of s sc) staged (list_of t tc) table (list_of d dc) deleted head)

abbrev pub tally_missing : RowEdition → (parent : List ℕ) (len : ℕ) (spills : ℤ) → List ℤ → (s s_capacity : ℕ) → List ℕ → (t t_capacity : ℕ) → List ℕ → ℤ → (key : List ℕ) → MissingOut
tally_missing v parent len spills head s sc staged t tc table number key =
    missing_by Box parent number key (missing_for_tally (edition_of v) parent (counts_of len spills) (list_of s sc) staged (list_of t tc) table head)

abbrev pub page_missing : RowEdition → (parent : List ℕ) (len : ℕ) (spills : ℤ) → List ℤ → (s s_capacity : ℕ) → List ℕ → (t t_capacity : ℕ) → List ℕ → (n : ℕ) → List ℤ → ℤ → (key : List ℕ) → MissingOut
page_missing v parent len spills head s sc staged t tc table n page number key =
    missing_by Box parent number key (missing_for_page (edition_of v) parent (counts_of len spills) (list_of s sc) staged (list_of t tc) table head n page)
