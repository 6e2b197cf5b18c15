-- The ways out of the export of a page: the answer was accepted or refused, and the out holds its count or is as it was.
use Prim.Native.Nat.{ℕ}
use mathlib.Core.Path.{◌≡◌, sym, ap, ◌∙◌}
use mathlib.Core.List.{List}
use lib.IntN.{ℤ}
use Rattle.std.specs.Prelude.{Ok, Err}
use Rattle.index_types.specs.Answers.{Paged}
use Rattle.buffer_core.specs.Page.{Paging, paging}
use Rattle.ergo_index_pages.specs.Pages.{page_out, page_by, page_export}

-- r and page are what the public call left
module _ (r : Paged) (page : List ℤ) (o : Paging) (e : paging r page ≡ o) (count : ℕ) where
  pub page_done : (n : ℕ) → r ≡ Ok n → page_out 0 n page ≡ page_export count o
  page_done n f = ap (λ (a : Paged). page_by a count page) (sym f) ∙ ap (page_export count) e

  pub page_refused : (code : ℕ) → r ≡ Err code → page_out code count page ≡ page_export count o
  page_refused code f = ap (λ (a : Paged). page_by a count page) (sym f) ∙ ap (page_export count) e
