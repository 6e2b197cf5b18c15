-- Laws of a page, in any edition: it is a function of the entries alone, however they are divided between rows and head; and the pages of 64, called for one
-- after the other, are all unspent numbers.
use Prim.Native.Nat.{ℕ, zero, suc, ◌+◌, ◌*◌, ◌-◌, ◌≤◌}
use mathlib.Core.Path.{◌≡◌, refl, sym, ap, ◌∙◌}
use mathlib.Core.Bool.{true, false, cond}
use mathlib.Core.List.{List, [], ◌++◌, append_assoc}
use lib.Dec.{ltb}
use lib.IntN.{ℤ, pos, nat_abs}
use lib.ListN.{length, take, drop, replicate}
use lib.Seq.{take-append_seam}
use Rattle.stores.specs.Stores.{write}
use Rattle.signed.specs.Sign.{is_negative}
use Rattle.entries.specs.Order.{order_ok}
use Rattle.entries.specs.Unspent.{unspent_newest_first, stretch, page_places}
use Rattle.entries.proofs.UnspentLaws.{pages, pages_whole}
use Rattle.std.specs.Prelude.{Ok, Err}
use Rattle.index_types.specs.Answers.{Paged}
use Rattle.buffer_core.specs.Edition.{Edition, good}
use Rattle.buffer_core.specs.Spills.{Sources}
use Rattle.buffer_core.specs.Rows.{rows_up}
use Rattle.buffer_core.specs.Flip.{row_checked}
use Rattle.buffer_core.specs.Page.{Paging, paging, put_page, page_core}

-- head, spill count and rows pass the checks, and the rows have these entries
pub record Entries (E : Edition) (w : Sources) (spills : ℤ) (zs rows : List ℤ) : Type 0 where
  pub ordered : order_ok zs ≡ true
  pub counted : is_negative spills ≡ false
  pub read : rows_up (row_checked E w) 0 (nat_abs spills) ≡ good rows

-- the page of a list of entries
abbrev pub page_from : (entries : List ℤ) (offset n : ℕ) → List ℤ → Paging
page_from entries offset n out = cond (ltb page_places n) (paging (Err 33) out) (put_page (stretch offset n (unspent_newest_first entries)) out)

pub page_of_entries : (E : Edition) (w : Sources) (spills : ℤ) (zs rows : List ℤ) → Entries E w spills zs rows
    → (offset n : ℕ) (out : List ℤ) → page_core E w spills zs offset n out ≡ page_from (rows ++ zs) offset n out
unfolding page_core
page_of_entries E w spills zs rows x offset n out = rw (x.ordered, x.counted, x.read)

-- document 02, U13: "Heads may be divided differently from spills"
pub page_same : (E E' : Edition) (w w' : Sources) (spills spills' : ℤ) (zs zs' rows rows' : List ℤ)
    → Entries E w spills zs rows → Entries E' w' spills' zs' rows' → rows ++ zs ≡ rows' ++ zs'
    → (offset n : ℕ) (out : List ℤ) → page_core E w spills zs offset n out ≡ page_core E' w' spills' zs' offset n out
page_same E E' w w' spills spills' zs zs' rows rows' x x' e offset n out =
    page_of_entries E w spills zs rows x offset n out ∙ ap (λ (l : List ℤ). page_from l offset n out) e ∙ sym (page_of_entries E' w' spills' zs' rows' x' offset n out)

-- ---- page after page

-- the numbers that a call gave
abbrev pub given_by : Paged → List ℤ → List ℤ
given_by (Ok m) page = take m page
given_by (Err code) page = []

abbrev pub given : Paging → List ℤ
given p = given_by p.answer p.page

given_put : (zs out : List ℤ) → given (put_page zs out) ≡ zs
unfolding write
given_put zs out =
    let zeros = replicate (64 - length zs) (pos 0) in
    let rest = drop (0 + length (zs ++ zeros)) out in
    ap (take (length zs)) (append_assoc zs zeros rest) ∙ take-append_seam zs (zeros ++ rest)

-- what k calls for 64 numbers give, from an offset on
abbrev pub called : (Edition) → Sources → (spills : ℤ) → List ℤ → (k offset : ℕ) → List ℤ → List ℤ
called E w spills zs zero offset out = []
called E w spills zs (suc k) offset out = given (page_core E w spills zs offset page_places out) ++ called E w spills zs k (offset + page_places) out

module _ (E : Edition) (w : Sources) (spills : ℤ) (zs rows : List ℤ) (x : Entries E w spills zs rows) where
  called_pages : (k offset : ℕ) (out : List ℤ) → called E w spills zs k offset out ≡ pages k offset (unspent_newest_first (rows ++ zs))
  called_pages zero offset out = refl
  called_pages (suc k) offset out =
      let s = stretch offset 64 (unspent_newest_first (rows ++ zs)) in
      let e : given (page_core E w spills zs offset 64 out) ≡ s = ap given (page_of_entries E w spills zs rows x offset 64 out) ∙ given_put s out in
      (λ i. e i ++ called_pages k (offset + 64) out i)

  -- pages of 64 one after the other are the whole list
  pub called_whole : (k : ℕ) (out : List ℤ) → length (unspent_newest_first (rows ++ zs)) ≤ k * page_places
      → called E w spills zs k 0 out ≡ unspent_newest_first (rows ++ zs)
  called_whole k out h = called_pages k 0 out ∙ pages_whole k (unspent_newest_first (rows ++ zs)) h
