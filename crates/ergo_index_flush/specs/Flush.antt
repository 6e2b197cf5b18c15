-- What the exports of the flush leave: the code, and every out and borrowed list at exit, from the definition of the public call.
use Rattle.std.specs.Prelude.{ℕ, List}
use Rattle.index_types.specs.declared.RowEdition.{RowEdition}
use Rattle.buffer_core.specs.Edition.{edition_of}
use Rattle.buffer_core.specs.Pop.{lists}
use Rattle.buffer_core.specs.Flush.{Flushing, flush_of}
use Rattle.ergo_index_lists.specs.Lists.{list_of}
use Rattle.ergo_index_outs.specs.Outs.{FlushOut, flush_by}

abbrev pub flush_export : ℕ → ℕ → ℕ → Flushing → FlushOut
flush_export s t d f = flush_by f.answer s t d f.staged f.table f.deleted

abbrev pub flush_call : RowEdition → (s s_capacity : ℕ) → List ℕ → (t t_capacity : ℕ) → List ℕ → (d d_capacity : ℕ) → List ℕ → FlushOut
flush_call v s sc staged t tc table d dc deleted =
    flush_export s t d (flush_of (edition_of v) (lists (list_of s sc) staged (list_of t tc) table (list_of d dc) deleted))
