-- What the export of a page leaves: the code, and the out and the borrowed list at exit, from the definition of the public call. The count is a borrowed number;
-- an accepted call sets it, "a refusal returns its number only and changes nothing".
use Rattle.std.specs.Prelude.{ℕ, List, ℤ, Ok, Err}
use Rattle.index_types.specs.Answers.{Paged}
use Rattle.index_types.specs.declared.RowEdition.{RowEdition}
use Rattle.buffer_core.specs.Edition.{edition_of}
use Rattle.buffer_core.specs.Append.{counts_of}
use Rattle.buffer_core.specs.Page.{Paging, page_of}
use Rattle.ergo_index_lists.specs.Lists.{list_of}

-- the code, how many numbers stand in the page, and the page's list
pub record PageOut : Type 0 where
  pub code : ℕ
  pub count : ℕ
  pub page : List ℤ

abbrev pub page_out : (code count : ℕ) → List ℤ → PageOut
page_out code count page = record { code = code; count = count; page = page }

abbrev pub page_by : Paged → ℕ → List ℤ → PageOut
page_by (Ok n) count page = page_out 0 n page
page_by (Err code) count page = page_out code count page

abbrev pub page_export : ℕ → Paging → PageOut
page_export count p = page_by p.answer count p.page

abbrev pub page_call : RowEdition → (parent : List ℕ) (len : ℕ) (spills : ℤ) → List ℤ → (s s_capacity : ℕ) → List ℕ → (t t_capacity : ℕ) → List ℕ → (offset n count : ℕ) → List ℤ → PageOut
page_call v parent len spills head s sc staged t tc table offset n count page =
    page_export count (page_of (edition_of v) parent (counts_of len spills) (list_of s sc) staged (list_of t tc) table head offset n page)
