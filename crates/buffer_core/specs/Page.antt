-- A page of unspent boxes (document 02, U2): "a call that takes an offset and a length and gives, in a lent list of 64, the unspent box numbers, newest first,
-- over head and spills. The result is the matching stretch of the full reversed list of entries above 0, and shorter only at its end. Its checks are those of
-- the tally. Turned away: 33 for a length above 64, tested after 25."
use Rattle.std.specs.Prelude.{ℕ, ◌-◌, cond, ◌&&◌, List, ◌++◌, leb, ltb, ℤ, pos, nat_abs, length, take, replicate, Ok, Err}
use Rattle.stores.specs.Stores.{write}
use Rattle.signed.specs.Sign.{is_negative}
use Rattle.entries.specs.Order.{order_ok}
use Rattle.entries.specs.Unspent.{unspent_newest_first, stretch, page_places}
use Rattle.index_types.specs.declared.ListCounts.{ListCounts}
use Rattle.index_types.specs.declared.HeadCounts.{HeadCounts}
use Rattle.index_types.specs.Answers.{Paged}
use Rattle.buffer_core.specs.Edition.{Edition, RowRead, bad, good}
use Rattle.buffer_core.specs.Spills.{Sources, sources}
use Rattle.buffer_core.specs.Rows.{rows_up}
use Rattle.buffer_core.specs.Flip.{row_checked, flip_ok}

-- the answer, and the borrowed list at exit
pub record Paging : Type 0 where
  pub answer : Paged
  pub page : List ℤ

abbrev pub paging : Paged → List ℤ → Paging
paging a page = record { answer = a; page = page }

-- the numbers, then zeros to 64; what lies behind stays
abbrev pub put_page : List ℤ → List ℤ → Paging
put_page zs out = paging (Ok (length zs)) (write 0 (zs ++ replicate (page_places - length zs) (pos 0)) out)

-- the entries of the rows, then those of the head
abbrev pub page_over : RowRead → List ℤ → (offset n : ℕ) → List ℤ → Paging
page_over (bad code) zs offset n out = paging (Err code) out
page_over (good rows) zs offset n out = put_page (stretch offset n (unspent_newest_first (rows ++ zs))) out

module _ (E : Edition) where
  -- 33, 10, 11, then the rows, as in a tally; zs are the numbers of the head
  unfoldable pub page_core : Sources → (spills : ℤ) → List ℤ → (offset n : ℕ) → List ℤ → Paging
  page_core w spills zs offset n out =
      cond (ltb page_places n) (paging (Err 33) out)
      (cond (order_ok zs)
      (cond (is_negative spills) (paging (Err 11) out) (page_over (rows_up (row_checked E w) 0 (nat_abs spills)) zs offset n out))
      (paging (Err 10) out))

  -- 25 as in a tally, and where the page's list has fewer than 64 places
  unfoldable pub page_of : (parent : List ℕ) → HeadCounts → ListCounts → (staged : List ℕ) → ListCounts → (table : List ℕ) → List ℤ → (offset n : ℕ) → List ℤ → Paging
  page_of parent h c staged e table head offset n out =
      cond (flip_ok E h c staged e table head && leb page_places (length out))
      (page_core (sources parent staged c.count table e.count) h.spills (take h.len head) offset n out)
      (paging (Err 25) out)
