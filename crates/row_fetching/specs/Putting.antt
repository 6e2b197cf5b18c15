-- A row put under its key into the records that are borrowed as the table: "a new key goes last" (document 01, "Shelf and staging").
-- 25: the records as in every call, and "segment row above 10,254 bytes" (10,292 in edition 2); then "22 .. no room".
use Rattle.std.specs.Prelude.{ℕ, cond, ◌&&◌, List, leb, length, Ok, Err}
use Rattle.index_types.specs.declared.ListCounts.{ListCounts}
use Rattle.records.specs.Changes.{full_for}
use Rattle.records.specs.Checks.{records_ok}
use Rattle.buffer_core.specs.Edition.{Edition}
use Rattle.buffer_core.specs.Append.{counts_with, bytes_with}
use Rattle.row_fetching.specs.Answers.{RowPut}

-- the answer, and the records at exit
pub record Putting : Type 0 where
  pub answer : RowPut
  pub work : List ℕ

abbrev pub putting : RowPut → List ℕ → Putting
putting a work = record { answer = a; work = work }

unfoldable pub put_of : Edition → (key row : List ℕ) → ListCounts → (work : List ℕ) → Putting
put_of E key row c work =
    cond (records_ok E.size E.limit c work && leb (length row) E.limit)
    (cond (full_for E.size c key work) (putting (Err 22) work)
    (putting (Ok (counts_with E key c work)) (bytes_with E key row c work)))
    (putting (Err 25) work)
