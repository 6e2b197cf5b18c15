-- What a refusal that comes before the first row leaves to read, and what is read without one, call by call.
use Prim.Native.Nat.{ℕ, ◌-◌, ◌<◌, ◌≤◌}
use mathlib.Core.Path.{◌≡◌, sym, ap, ◌∙◌}
use mathlib.Core.Bool.{Bool, true, false}
use mathlib.Core.List.{List, [], ◌∷◌}
use borrow.Author.Tests.{lt-ltb, le-ltb, le-leb, lt-leb, eq-eqb, ne_eqb}
use lib.IntN.{ℤ, nat_abs}
use lib.ListN.{length, take}
use Rattle.signed.specs.Sign.{is_negative}
use Rattle.entries.specs.Order.{order_ok}
use Rattle.index_types.specs.declared.HeadCounts.{HeadCounts}
use Rattle.index_types.specs.declared.ListCounts.{ListCounts}
use Rattle.index_types.specs.declared.RowEdition.{RowEdition}
use Rattle.records.proofs.CheckLaws.{and_right}
use Rattle.segment_id.specs.declared.Kind.{Kind}
use Rattle.segment_id.specs.declared.Kind.TheVariants.{Box}
use Rattle.buffer_core.specs.Edition.{Edition, edition_of}
use Rattle.buffer_core.specs.Spills.{Sources, sources, head_ok}
use Rattle.buffer_core.specs.Pop.{lists, pop_ok}
use Rattle.buffer_core.specs.Flip.{row_checked, flip_ok}
use Rattle.buffer_core.proofs.ListLaws.{lists_fit}
use Rattle.working_set.specs.Reads.{first_missing, up_reads, pop_reads, tally_core_reads, tally_of_reads, page_of_reads}
use Rattle.std.specs.Prelude.{Option, None}
use Rattle.row_seeking.specs.Seeking.{among}
use Rattle.missing_rows.specs.Missing.{missing_for_pop, missing_for_tally, missing_for_page}
use Rattle.row_seeking.specs.Internal.{WorkReady}

-- ---- a tally, once 25 is tested

module _ (E : Edition) (w : Sources) (spills : ℤ) (zs : List ℤ) where
  pub core_10 : order_ok zs ≡ false → None ≡ among E Box w (tally_core_reads E w spills zs)
  unfolding tally_core_reads first_missing
  core_10 o = rw o

  module _ (o : order_ok zs ≡ true) where
    pub core_11 : is_negative spills ≡ true → None ≡ among E Box w (tally_core_reads E w spills zs)
    unfolding tally_core_reads first_missing
    core_11 n = rw (o, n)

    pub core_on : is_negative spills ≡ false → (k : ℕ) → k ≡ nat_abs spills → (r : Option ℕ) → r ≡ among E Box w (up_reads (row_checked E w) 0 k)
        → r ≡ among E Box w (tally_core_reads E w spills zs)
    unfolding tally_core_reads
    core_on n k e r q = rw (o, n) (q ∙ ap (λ (x : ℕ). among E Box w (up_reads (row_checked E w) 0 x)) e)

module _ (E : Edition) (parent : List ℕ) (h : HeadCounts) (c : ListCounts) (staged : List ℕ) (e : ListCounts) (work : List ℕ) (head : List ℤ) where
  abbrev w : Sources
  w = sources parent staged c.count work e.count

  abbrev core : Option ℕ
  core = among E Box w (tally_core_reads E w h.spills (take h.len head))

  pub tally_25 : flip_ok E h c staged e work head ≡ false → None ≡ missing_for_tally E parent h c staged e work head
  unfolding tally_of_reads first_missing
  tally_25 t = rw t

  pub tally_goes : flip_ok E h c staged e work head ≡ true → (r : Option ℕ) → r ≡ core → r ≡ missing_for_tally E parent h c staged e work head
  unfolding tally_of_reads
  tally_goes t r q = rw t q

  -- ---- a page
  module _ (n : ℕ) (out : List ℤ) where
    pub page_25 : flip_ok E h c staged e work head ≡ false → None ≡ missing_for_page E parent h c staged e work head n out
    unfolding page_of_reads first_missing
    page_25 t = rw t

    module _ (t : flip_ok E h c staged e work head ≡ true) where
      pub page_short : length out < 64 → None ≡ missing_for_page E parent h c staged e work head n out
      unfolding page_of_reads first_missing
      page_short s = rw (t, lt-leb 64 (length out) s)

      module _ (s : 64 ≤ length out) where
        pub page_33 : 64 < n → None ≡ missing_for_page E parent h c staged e work head n out
        unfolding page_of_reads first_missing
        page_33 l = rw (t, le-leb 64 (length out) s, lt-ltb 64 n l)

        pub page_goes : n ≤ 64 → (r : Option ℕ) → r ≡ core → r ≡ missing_for_page E parent h c staged e work head n out
        unfolding page_of_reads
        page_goes l r q = rw (t, le-leb 64 (length out) s, le-ltb 64 n l) q

-- ---- a pop

module _ (E : Edition) (kind : Kind) (parent : List ℕ) (h : HeadCounts) (c : ListCounts) (staged : List ℕ) (e : ListCounts) (work : List ℕ) (k : ListCounts) (deleted : List ℕ) (head : List ℤ) where
  abbrev wanted : Option ℕ
  wanted = missing_for_pop E kind parent h c staged e work k deleted head

  abbrev passes : Bool
  passes = pop_ok E h (lists c staged e work k deleted) head

  pub pop_25 : passes ≡ false → None ≡ wanted
  unfolding pop_reads first_missing
  pop_25 t = rw t

  module _ (t : passes ≡ true) where
    pub pop_11 : is_negative h.spills ≡ true → None ≡ wanted
    unfolding pop_reads first_missing
    pop_11 n = rw (t, n)

    module _ (n : is_negative h.spills ≡ false) where
      pub pop_head : 0 < h.len → None ≡ wanted
      unfolding pop_reads first_missing
      pop_head l = rw (t, n, lt-ltb 0 h.len l)

      module _ (l : h.len ≤ 0) (m : ℕ) (q : m ≡ nat_abs h.spills) where
        pub pop_none : m ≡ 0 → None ≡ wanted
        unfolding pop_reads first_missing
        pop_none z = rw (t, n, le-ltb 0 h.len l, eq-eqb (nat_abs h.spills) 0 (sym q ∙ z))

        pub pop_goes : (m ≡ 0 → ⊥) → (r : Option ℕ) → r ≡ among E kind (sources parent staged c.count work e.count) ((m - 1) ∷ []) → r ≡ wanted
        unfolding pop_reads
        pop_goes z r x =
            rw (t, n, le-ltb 0 h.len l, ne_eqb (nat_abs h.spills) 0 (λ y. z (q ∙ y)))
            (x ∙ ap (λ (y : ℕ). among E kind (sources parent staged c.count work e.count) ((y - 1) ∷ [])) q)

pub pop_facts : (v : RowEdition) (kind : Kind) (parent : List ℕ) (h : HeadCounts) (c : ListCounts) (staged : List ℕ) (e : ListCounts) (work : List ℕ) (k : ListCounts) (deleted : List ℕ) (head : List ℤ)
    → pop_ok (edition_of v) h (lists c staged e work k deleted) head ≡ true → WorkReady v (sources parent staged c.count work e.count)
unfolding pop_ok
pop_facts v kind parent h c staged e work k deleted head t =
    let f = lists_fit (edition_of v) (lists c staged e work k deleted) (and_right (head_ok h head) _ t) in
    record { in_staged = f.in_staged.bounds.within; in_table = f.in_table.bounds.within; apart = f.in_table.apart }
