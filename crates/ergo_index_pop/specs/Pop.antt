-- What the exports of pop leave: the code, and every out and borrowed list at exit, from the definition of the public call.
use Rattle.std.specs.Prelude.{ℕ, List, ℤ}
use Rattle.segment_id.specs.declared.Kind.{Kind}
use Rattle.index_types.specs.declared.RowEdition.{RowEdition}
use Rattle.buffer_core.specs.Edition.{edition_of}
use Rattle.buffer_core.specs.Append.{counts_of}
use Rattle.buffer_core.specs.Pop.{Popping, lists, pop_of}
use Rattle.ergo_index_lists.specs.Lists.{list_of}
use Rattle.ergo_index_outs.specs.Outs.{PopOut, pop_by}

abbrev pub pop_export : ℤ → ℕ → ℤ → ℕ → ℕ → Popping → PopOut
pop_export n len spills s d p = pop_by p.answer n len spills s d p.head p.staged p.deleted

abbrev pub pop_call : RowEdition → Kind → (parent : List ℕ) (len : ℕ) (spills : ℤ) → List ℤ → (s s_capacity : ℕ) → List ℕ → (t t_capacity : ℕ) → List ℕ → (d d_capacity : ℕ) → List ℕ
    → (number : ℤ) → PopOut
pop_call v kind parent len spills head s sc staged t tc table d dc deleted n =
    pop_export n len spills s d
    (pop_of (edition_of v) kind parent (counts_of len spills) (lists (list_of s sc) staged (list_of t tc) table (list_of d dc) deleted) head)
