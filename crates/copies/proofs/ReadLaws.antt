-- Where head and rows pass the checks of a spend, a tally and a page are those of the entries, however they are divided between rows and head.
use mathlib.Core.Path.{◌≡◌, refl, sym, ap, ◌∙◌}
use mathlib.Core.Bool.{cond}
use mathlib.Core.List.{List, [], ◌++◌, append-nil, append_assoc}
use Prim.Native.Nat.{ℕ, zero, suc, ◌+◌}
use native.Mathlib.Omega.{arith}
use native.Mathlib.Numerals.{add-one}
use lib.Dec.{leb, ltb}
use lib.IntN.{ℤ, nat_abs}
use lib.ListN.{length, take}
use Rattle.entries.specs.Tally.{figures}
use Rattle.entries.specs.Unspent.{unspent_newest_first, stretch, page_places}
use Rattle.std.specs.Prelude.{Ok, Err}
use Rattle.segment_id.specs.declared.Kind.TheVariants.{Box}
use Rattle.buffer_core.specs.Edition.{Edition, RowRead, good, bad}
use Rattle.buffer_core.specs.Spills.{Sources, spill_read}
use Rattle.buffer_core.specs.Rows.{then_rows, rows_up}
use Rattle.buffer_core.specs.Pop.{Lists}
use Rattle.buffer_core.specs.Flip.{row_checked}
use Rattle.buffer_core.specs.Tally.{tally_core, tally_of}
use Rattle.buffer_core.specs.Page.{Paging, paging, put_page, page_of}
use Rattle.buffer_core.proofs.PageLaws.{page_from, page_of_entries}
use Rattle.summary_core.proofs.MakingLaws as Mk
use Rattle.summary_core.proofs.FlipLaws.{checked}
use Rattle.ledger.specs.Ledger.{Parent, boxes}
use Rattle.ledger.specs.Run.{Res, done, row_or, flat}
use Rattle.history.specs.Index.{Index, Part, to_res, sources_of, row_of_spill, entries_of}
use Rattle.copies.specs.Copies.{tally_by}

no_row : (code : ℕ) (zs : List ℤ) → bad code ≡ good zs → ⊥
no_row code zs e = let z : ◌≡◌ {A = ℕ} 0 1 = cc in omega arith

-- k rows from n up that all pass, behind the first n
rows_behind : (f : ℕ → RowRead) (g : ℕ → Res (List ℤ)) → ((i : ℕ) (zs : List ℤ) → f i ≡ good zs → g i ≡ done zs)
    → (n k : ℕ) (zs : List ℤ) → rows_up f n k ≡ good zs → flat g (n + k) ≡ flat g n ++ zs
unfolding rows_up flat
rows_behind f g h n zero zs e =
    let z : n + 0 ≡ n = omega arith in
    let q : [] ≡ zs = cc in
    ap (flat g) z ∙ sym (append-nil (flat g n)) ∙ ap (λ (l : List ℤ). flat g n ++ l) q
rows_behind f g h n (suc k) zs e = by_row (f n) (λ a q. h n a q) (rows_up f (n + 1) k) (λ b r. rows_behind f g h (n + 1) k b r) e
  where
    by_row : (x : RowRead) → ((a : List ℤ) → x ≡ good a → g n ≡ done a) → (y : RowRead) → ((b : List ℤ) → y ≡ good b → flat g (n + 1 + k) ≡ flat g (n + 1) ++ b)
        → then_rows x y ≡ good zs → flat g (n + suc k) ≡ flat g n ++ zs
    by_row (bad code) p y r e = absurd (no_row code zs e)
    by_row (good a) p (bad code) r e = absurd (no_row code zs e)
    by_row (good a) p (good b) r e =
        let z : n + suc k ≡ n + 1 + k = omega arith in
        let q : a ++ b ≡ zs = cc in
        let one : flat g (n + 1) ≡ flat g n ++ a = ap (flat g) (add-one n) ∙ ap (λ (x : Res (List ℤ)). flat g n ++ row_or x) (p a refl) in
        ap (flat g) z ∙ r b refl ∙ ap (λ (l : List ℤ). l ++ b) one ∙ append_assoc (flat g n) a b ∙ ap (λ (l : List ℤ). flat g n ++ l) q

-- the page of a list of unspent numbers, newest first
abbrev pub page_listed : (unspent : List ℤ) (offset n : ℕ) → List ℤ → Paging
page_listed unspent offset n out =
    cond (leb page_places (length out)) (cond (ltb page_places n) (paging (Err 33) out) (put_page (stretch offset n unspent) out)) (paging (Err 25) out)

module _ (E : Edition) (ids : Parent → List ℕ) (b : Index) (p : Parent) where
  abbrev own : Part
  own = b.parts (boxes p)

  abbrev x : Lists
  x = b.lists

  abbrev w : Sources
  w = sources_of E ids b (boxes p)

  abbrev pub Passes : Type 0
  Passes = Mk.Checks E (ids p) own.head x.staged_counts x.staged x.table_counts x.table own.places

  module _ (c : Passes) where
    rows_are : flat (row_of_spill E ids b (boxes p)) (nat_abs own.head.spills) ≡ c.numbers
    unfolding flat
    rows_are =
        let z : nat_abs own.head.spills ≡ 0 + nat_abs own.head.spills = omega arith in
        ap (flat (row_of_spill E ids b (boxes p))) z
        ∙ rows_behind (row_checked E w) (row_of_spill E ids b (boxes p)) (λ i zs e. ap to_res (checked (spill_read E Box w i) zs e).read) 0 (nat_abs own.head.spills) c.numbers c.rows

    -- every row passed, so that the entries are all of the rows and the head
    entries_are : entries_of E ids b (boxes p) ≡ c.numbers ++ take own.head.len own.places
    entries_are = ap (λ (l : List ℤ). l ++ take own.head.len own.places) rows_are

    pub tally_counts : tally_by E ids b p ≡ Ok (figures (entries_of E ids b (boxes p)))
    unfolding tally_of tally_core
    tally_counts = rw (c.fits, c.in_order, c.not_below, c.rows) (ap (λ (l : List ℤ). Ok (figures l)) (sym entries_are))

    pub page_shows : (offset n : ℕ) (out : List ℤ)
        → page_of E (ids p) own.head x.staged_counts x.staged x.table_counts x.table own.places offset n out ≡ page_listed (unspent_newest_first (entries_of E ids b (boxes p))) offset n out
    unfolding page_of
    page_shows offset n out =
        let core = page_of_entries E w own.head.spills (take own.head.len own.places) c.numbers (record { ordered = c.in_order; counted = c.not_below; read = c.rows }) offset n out in
        rw c.fits (ap (λ (y : Paging). cond (leb page_places (length out)) y (paging (Err 25) out)) (core ∙ ap (λ (l : List ℤ). page_from l offset n out) (sym entries_are)))
