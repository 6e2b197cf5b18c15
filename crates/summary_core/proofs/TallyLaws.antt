-- Where a summary is right and the rows pass, a tally over it gives the figures of a tally over the rows.
use Prim.Native.Nat.{ℕ, zero, suc, ◌+◌, ◌*◌, ◌≤◌, ◌<◌}
use mathlib.Core.Path.{◌≡◌, refl, sym, ap, ◌∙◌, subst}
use mathlib.Core.Bool.{true, cond, ◌&&◌}
use mathlib.Core.List.{List, [], ◌++◌}
use native.Mathlib.Omega.{arith}
use lib.Dec.{eqb}
use lib.IntN.{ℤ, nat_abs}
use lib.ListN.{length, take, get_or}
use borrow.Author.Tests.{eq-eqb, le-leb, le-ltb}
use Rattle.index_types.specs.declared.ListCounts.{ListCounts}
use Rattle.index_types.specs.declared.HeadCounts.{HeadCounts}
use Rattle.index_types.specs.declared.Tally.{Tally}
use Rattle.std.specs.Prelude.{Ok, Err}
use Rattle.index_types.specs.Answers.{Tallied}
use Rattle.entries.specs.Tally.{figures, plus}
use Rattle.entries.proofs.TallyLaws.{adds_up, figures_append, plus_none, plus_comm, plus_assoc}
use Rattle.records.specs.Checks.{records_ok}
use Rattle.records.proofs.CheckLaws.{and_left, and_true}
use Rattle.buffer_core.specs.Edition.{Edition, RowRead, bad, good}
use Rattle.buffer_core.specs.Spills.{Sources, sources, spill_read, head_ok}
use Rattle.buffer_core.specs.Rows.{then_rows, rows_up}
use Rattle.buffer_core.specs.Flip.{row_checked, flip_ok}
use Rattle.buffer_core.specs.Tally.{tally_core, tally_of}
use Rattle.buffer_core.proofs.RowLaws.{Sized, checked_512}
use Rattle.summary_core.specs.Lines.{line_of, lines_ok}
use Rattle.summary_core.specs.Tally.{figures_at, add_lines, tally_lines, tally_lines_of}
use Rattle.summary_core.proofs.LineLaws.{line_at, number_at}
use Rattle.summary_core.proofs.MakingLaws.{Passing}

-- the three counts of a line that is right
figures_right : (S : List ℕ) (n : ℕ) (zs : List ℤ) → line_at S n ≡ line_of zs → figures_at S n ≡ figures zs
unfolding line_of
figures_right S n zs e =
    let at : (j : ℕ) → j < 5 → get_or S (n * 5 + j) 0 ≡ get_or (line_of zs) j 0 = λ j h. number_at S n j h ∙ ap (λ (l : List ℕ). get_or l j 0) e in
    λ i. record { unspent = at 2 (omega arith) i; spent = at 4 (omega arith) i; unknown = at 3 (omega arith) i }

module _ (f : ℕ → RowRead) (sized : (i : ℕ) → Sized 512 (f i)) (S : List ℕ) where
  -- the lines of k rows from n up, on top of t
  lines_added : (n k : ℕ) (t : Tally) (all : List ℤ) → ((i : ℕ) (zs : List ℤ) → n ≤ i → i < n + k → f i ≡ good zs → line_at S i ≡ line_of zs)
      → rows_up f n k ≡ good all → add_lines S n k t ≡ Ok (plus t (figures all))
  unfolding add_lines rows_up
  lines_added n zero t all right e =
      let q : [] ≡ all = cc in
      ap Ok (sym (plus_none t)) ∙ ap (λ (l : List ℤ). Ok (plus t (figures l))) q
  lines_added n (suc k) t all right e =
      by_row (f n) refl (rows_up f (n + 1) k) refl e (λ u ys g. lines_added (n + 1) k u ys (λ i zs p q r. right i zs (omega arith) (omega arith) r) g)
    where
      by_row : (r : RowRead) → f n ≡ r → (rest : RowRead) → rows_up f (n + 1) k ≡ rest → then_rows r rest ≡ good all
          → ((u : Tally) (ys : List ℤ) → rows_up f (n + 1) k ≡ good ys → add_lines S (n + 1) k u ≡ Ok (plus u (figures ys)))
          → cond (eqb ((figures_at S n).unspent + (figures_at S n).spent + (figures_at S n).unknown) 512) (add_lines S (n + 1) k (plus t (figures_at S n))) (Err 36)
          ≡ Ok (plus t (figures all))
      by_row (bad code) d rest g e ih = let z : ◌≡◌ {A = ℕ} 0 1 = cc in absurd (omega arith)
      by_row (good zs) d (bad code) g e ih = let z : ◌≡◌ {A = ℕ} 0 1 = cc in absurd (omega arith)
      by_row (good zs) d (good ys) g e ih =
          let q : zs ++ ys ≡ all = cc in
          let a : figures_at S n ≡ figures zs = figures_right S n zs (right n zs (omega arith) (omega arith) d) in
          let b : (figures_at S n).unspent + (figures_at S n).spent + (figures_at S n).unknown ≡ 512
          = ap (λ (x : Tally). x.unspent + x.spent + x.unknown) a ∙ adds_up zs ∙ subst (Sized 512) d (sized n) in
          rw (eq-eqb ((figures_at S n).unspent + (figures_at S n).spent + (figures_at S n).unknown) 512 b)
          (ih (plus t (figures_at S n)) ys g ∙ ap (λ (x : Tally). Ok (plus (plus t x) (figures ys))) a
          ∙ ap Ok (plus_assoc t (figures zs) (figures ys) ∙ ap (plus t) (sym (figures_append zs ys) ∙ ap figures q)))

module _ (E : Edition) (parent : List ℕ) (h : HeadCounts) (c : ListCounts) (staged : List ℕ) (e : ListCounts) (table : List ℕ) (head : List ℤ) (lines : ℕ) (S : List ℕ) where
  abbrev w : Sources
  w = sources parent staged c.count table e.count

  abbrev k : ℕ
  k = nat_abs h.spills

  head_in : flip_ok E h c staged e table head ≡ true → head_ok h head ≡ true
  unfolding flip_ok
  head_in a = and_left (head_ok h head) (records_ok E.size E.limit c staged && records_ok E.size E.limit e table) a

  module _ (p : Passing E parent h c staged e table head lines S) where
    abbrev total : Tallied
    total = Ok (plus (figures (take h.len head)) (figures p.checks.numbers))

    over_lines : ((i : ℕ) (zs : List ℤ) → i < k → row_checked E w i ≡ good zs → line_at S i ≡ line_of zs) → tally_lines_of h head lines S ≡ total
    unfolding tally_lines_of tally_lines
    over_lines right =
        rw (and_true (head_ok h head) (lines_ok lines S) (head_in p.checks.fits) (le-leb (lines * 5) (length S) p.long), p.checks.in_order, p.checks.not_below, le-ltb lines k p.room)
        (lines_added (row_checked E w) (λ i. checked_512 (spill_read E _ w i)) S 0 k (figures (take h.len head)) p.checks.numbers (λ i zs a b r. right i zs (omega arith) r) p.checks.rows)

    over_rows : tally_of E parent h c staged e table head ≡ total
    unfolding tally_of tally_core
    over_rows =
        rw (p.checks.fits, p.checks.in_order, p.checks.not_below, p.checks.rows)
        (ap Ok (figures_append p.checks.numbers (take h.len head) ∙ plus_comm (figures p.checks.numbers) (figures (take h.len head))))

    pub tally_plain : ((i : ℕ) (zs : List ℤ) → i < k → row_checked E w i ≡ good zs → line_at S i ≡ line_of zs)
        → tally_lines_of h head lines S ≡ tally_of E parent h c staged e table head
    tally_plain right = over_lines right ∙ sym over_rows
