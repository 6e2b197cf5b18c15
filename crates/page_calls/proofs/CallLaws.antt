-- One law for each way out of a page.
use Prim.Native.Nat.{ℕ, ◌<◌, ◌≤◌}
use mathlib.Core.Path.{◌≡◌, refl, ap, ◌∙◌}
use mathlib.Core.Bool.{Bool, true, false, ◌&&◌, cond}
use mathlib.Core.List.{List}
use borrow.Author.Tests.{lt-ltb, le-ltb, le-leb, lt-leb}
use lib.IntN.{ℤ, nat_abs}
use lib.ListN.{length, take}
use Rattle.signed.specs.Sign.{is_negative}
use Rattle.index_types.specs.declared.ListCounts.{ListCounts}
use Rattle.entries.specs.Order.{order_ok}
use Rattle.index_types.specs.declared.HeadCounts.{HeadCounts}
use Rattle.std.specs.Prelude.{Err}
use Rattle.buffer_core.specs.Edition.{Edition}
use Rattle.buffer_core.specs.Spills.{Sources, sources}
use Rattle.buffer_core.specs.Rows.{rows_up}
use Rattle.buffer_core.specs.Flip.{row_checked, flip_ok}
use Rattle.buffer_core.specs.Page.{Paging, paging, page_over, page_core, page_of}

-- ---- once 25 has passed

module _ (E : Edition) (w : Sources) (spills : ℤ) (zs : List ℤ) (offset n : ℕ) (out : List ℤ) where
  pub page_33 : 64 < n → paging (Err 33) out ≡ page_core E w spills zs offset n out
  unfolding page_core
  page_33 h = rw (lt-ltb 64 n h)

  pub page_10 : n ≤ 64 → order_ok zs ≡ false → paging (Err 10) out ≡ page_core E w spills zs offset n out
  unfolding page_core
  page_10 h e = rw (le-ltb 64 n h, e)

  pub page_11 : n ≤ 64 → order_ok zs ≡ true → is_negative spills ≡ true → paging (Err 11) out ≡ page_core E w spills zs offset n out
  unfolding page_core
  page_11 h e f = rw (le-ltb 64 n h, e, f)

  pub page_on : n ≤ 64 → order_ok zs ≡ true → is_negative spills ≡ false → (k : ℕ) → k ≡ nat_abs spills
      → (o : Paging) → o ≡ page_over (rows_up (row_checked E w) 0 k) zs offset n out → o ≡ page_core E w spills zs offset n out
  unfolding page_core
  page_on h e f k a o q = rw (le-ltb 64 n h, e, f) (q ∙ ap (λ (i : ℕ). page_over (rows_up (row_checked E w) 0 i) zs offset n out) a)

-- ---- 25

module _ (E : Edition) (parent : List ℕ) (h : HeadCounts) (c : ListCounts) (staged : List ℕ) (e : ListCounts) (table : List ℕ) (head : List ℤ) (offset n : ℕ) (out : List ℤ) where
  pub page_short : length out < 64 → paging (Err 25) out ≡ page_of E parent h c staged e table head offset n out
  unfolding page_of
  page_short s = rw (lt-leb 64 (length out) s) (by_test (flip_ok E h c staged e table head))
    where
      by_test : (b : Bool) → paging (Err 25) out
          ≡ cond (b && false) (page_core E (sources parent staged c.count table e.count) h.spills (take h.len head) offset n out) (paging (Err 25) out)
      by_test true = refl
      by_test false = refl

  pub page_25 : flip_ok E h c staged e table head ≡ false → paging (Err 25) out ≡ page_of E parent h c staged e table head offset n out
  unfolding page_of
  page_25 q = rw q

  pub page_goes : 64 ≤ length out → flip_ok E h c staged e table head ≡ true → (o : Paging)
      → o ≡ page_core E (sources parent staged c.count table e.count) h.spills (take h.len head) offset n out
      → o ≡ page_of E parent h c staged e table head offset n out
  unfolding page_of
  page_goes s q o f = rw (q, le-leb 64 (length out) s) f
