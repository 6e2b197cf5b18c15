-- What the exports of append leave: the code, and every out and borrowed list at exit, from the definition of the public call.
use Rattle.std.specs.Prelude.{ℕ, List, ℤ}
use Rattle.segment_id.specs.declared.Kind.{Kind}
use Rattle.index_types.specs.declared.RowEdition.{RowEdition}
use Rattle.buffer_core.specs.Edition.{edition_of}
use Rattle.buffer_core.specs.Append.{Appending, counts_of, append_of}
use Rattle.ergo_index_lists.specs.Lists.{list_of}
use Rattle.ergo_index_outs.specs.Outs.{AppendOut, append_by}

abbrev pub append_export : ℕ → ℤ → ℕ → Appending → AppendOut
append_export len spills count a = append_by a.answer len spills count a.head a.staged

abbrev pub append_call : RowEdition → Kind → (parent : List ℕ) (len : ℕ) (spills : ℤ) → List ℤ → (number : ℤ) (count capacity : ℕ) → List ℕ → AppendOut
append_call v kind parent len spills head number count capacity staged =
    append_export len spills count (append_of (edition_of v) kind parent (counts_of len spills) number (list_of count capacity) head staged)
