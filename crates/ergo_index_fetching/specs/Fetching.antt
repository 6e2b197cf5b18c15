-- What the export of putting a row leaves: the code, the number of records and their bytes. A refusal leaves both as they were.
use Rattle.std.specs.Prelude.{ℕ, List, Ok, Err}
use Rattle.index_types.specs.declared.RowEdition.{RowEdition}
use Rattle.buffer_core.specs.Edition.{edition_of}
use Rattle.row_fetching.specs.Answers.{RowPut}
use Rattle.row_fetching.specs.Putting.{Putting, put_of}
use Rattle.ergo_index_lists.specs.Lists.{list_of}

pub record PutOut : Type 0 where
  pub code : ℕ
  pub count : ℕ
  pub table : List ℕ

abbrev pub put_out : (code count : ℕ) → List ℕ → PutOut
put_out code count table = record { code = code; count = count; table = table }

abbrev pub put_by : RowPut → ℕ → List ℕ → PutOut
put_by (Ok c) count table = put_out 0 c.count table
put_by (Err code) count table = put_out code count table

abbrev pub put_export : ℕ → Putting → PutOut
put_export count p = put_by p.answer count p.work

abbrev pub put_call : RowEdition → (key row : List ℕ) (t t_capacity : ℕ) → List ℕ → PutOut
put_call v key row t tc table = put_export t (put_of (edition_of v) key row (list_of t tc) table)
