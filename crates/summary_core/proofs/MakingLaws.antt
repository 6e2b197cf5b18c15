-- What it says that a summary was made afresh: every test passed, every row was read, and the lines are theirs. A refused call leaves the summary.
use Prim.Native.Nat.{ℕ, zero, suc, ◌+◌, ◌*◌, ◌-◌, ◌≤◌, ◌<◌}
use mathlib.Core.Path.{◌≡◌, refl, sym, ap, ◌∙◌}
use mathlib.Core.Bool.{Bool, true, false, cond, ◌&&◌}
use mathlib.Core.List.{List, [], ◌++◌}
use native.Mathlib.Omega.{arith}
use lib.Dec.{ltb}
use lib.IntN.{ℤ, nat_abs}
use lib.ListN.{length, take, drop, replicate}
use lib.Seq.{drop_at}
use borrow.Author.Tests.{leb-true, ltb-false, le-leb, le-ltb}
use Rattle.index_types.specs.declared.ListCounts.{ListCounts}
use Rattle.index_types.specs.declared.HeadCounts.{HeadCounts}
use Rattle.std.specs.Prelude.{Ok, Err}
use Rattle.index_types.specs.Answers.{Summarized}
use Rattle.index_types.specs.declared.Tally.{Tally}
use Rattle.stores.specs.Stores.{write}
use Rattle.stores.proofs.StoreLaws.{length_write}
use Rattle.signed.specs.Sign.{is_negative}
use Rattle.entries.specs.Order.{order_ok}
use Rattle.records.proofs.CheckLaws.{and_left, and_right, and_true}
use Rattle.buffer_core.specs.Edition.{Edition, RowRead, good, bad}
use Rattle.buffer_core.specs.Spills.{Sources, sources, spill_read}
use Rattle.buffer_core.specs.Rows.{then_rows, rows_up}
use Rattle.buffer_core.specs.Flip.{row_checked, flip_ok}
use Rattle.buffer_core.specs.Tally.{tally_over, tally_core, tally_of}
use Rattle.buffer_core.proofs.RowLaws.{checked_512}
use Rattle.buffer_core.proofs.RefusedLaws.{both}
use Rattle.summary_core.specs.Lines.{line_of, no_line, lines_ok, WithSummary, with_summary}
use Rattle.summary_core.specs.Making.{lines_of, put_lines, summary_core, summary_of}
use Rattle.summary_core.proofs.LineLaws.{line_at, Made, made, length_all, afresh_row, afresh_free, afresh_same}

-- rows that all pass are read as one list
pub rows_all : (f : ℕ → RowRead) (n k : ℕ) → ((i : ℕ) → n ≤ i → i < n + k → (zs : List ℤ) × (f i ≡ good zs)) → (zs : List ℤ) × (rows_up f n k ≡ good zs)
unfolding rows_up
rows_all f n zero h = ([], refl)
rows_all f n (suc k) h =
    let a = h n (omega arith) (omega arith) in
    let b = rows_all f (n + 1) k (λ i p q. h i (omega arith) (omega arith)) in
    (a.0 ++ b.0, λ i. then_rows (a.1 i) (b.1 i))

-- ---- the checks of a spend, on the head and on every row
module _ (E : Edition) (parent : List ℕ) (h : HeadCounts) (c : ListCounts) (staged : List ℕ) (e : ListCounts) (table : List ℕ) (head : List ℤ) where
  abbrev all_rows : RowRead
  all_rows = rows_up (row_checked E (sources parent staged c.count table e.count)) 0 (nat_abs h.spills)

  pub record Checks : Type 0 where
    pub fits : flip_ok E h c staged e table head ≡ true
    pub in_order : order_ok (take h.len head) ≡ true
    pub not_below : is_negative h.spills ≡ false
    pub numbers : List ℤ
    pub rows : all_rows ≡ good numbers

  no_tally : (code : ℕ) (t : Tally) → Err code ≡ Ok t → ⊥
  no_tally code t q = let z : ◌≡◌ {A = ℕ} 0 1 = cc in omega arith

  -- a tally that is accepted made them
  pub tally_checks : (t : Tally) → tally_of E parent h c staged e table head ≡ Ok t → Checks
  unfolding tally_of tally_core
  tally_checks t = by_tests (flip_ok E h c staged e table head) refl (order_ok (take h.len head)) refl (is_negative h.spills) refl all_rows refl
    where
      by_tests : (u : Bool) → flip_ok E h c staged e table head ≡ u → (v : Bool) → order_ok (take h.len head) ≡ v → (x : Bool) → is_negative h.spills ≡ x → (r : RowRead) → all_rows ≡ r
          → cond u (cond v (cond x (Err 11) (tally_over r (take h.len head))) (Err 10)) (Err 25) ≡ Ok t → Checks
      by_tests false a v b x d r g q = absurd (no_tally 25 t q)
      by_tests true a false b x d r g q = absurd (no_tally 10 t q)
      by_tests true a true b true d r g q = absurd (no_tally 11 t q)
      by_tests true a true b false d (bad code) g q = absurd (no_tally code t q)
      by_tests true a true b false d (good zs) g q = record { fits = a; in_order = b; not_below = d; numbers = zs; rows = g }

  -- every row passes
  pub passes : Checks → (i : ℕ) → i < nat_abs h.spills → (zs : List ℤ) × (row_checked E (sources parent staged c.count table e.count) i ≡ good zs)
  passes x i g =
      let w = sources parent staged c.count table e.count in
      let r = (made (row_checked E w) (λ j. checked_512 (spill_read E _ w j)) 0 (nat_abs h.spills) x.numbers x.rows).rows i g in
      let j : i ≡ 0 + i = omega arith in
      (r.0, ap (row_checked E w) j ∙ r.1)

-- ---- the summary made afresh
module _ (E : Edition) (parent : List ℕ) (h : HeadCounts) (c : ListCounts) (staged : List ℕ) (e : ListCounts) (table : List ℕ) (head : List ℤ) (lines : ℕ) (S : List ℕ) where
  abbrev w : Sources
  w = sources parent staged c.count table e.count

  abbrev k : ℕ
  k = nat_abs h.spills

  abbrev afresh : WithSummary Summarized
  afresh = summary_of E parent h c staged e table head lines S

  -- head and rows pass, and there is a line for every spill
  pub record Passing : Type 0 where
    pub checks : Checks E parent h c staged e table head
    pub long : lines * 5 ≤ length S
    pub room : k ≤ lines

  -- then the call is accepted
  pub accepted : (p : Passing) → afresh ≡ with_summary (Ok tt) (write 0 (lines_of k p.checks.numbers ++ replicate ((lines - k) * 5) 0) S)
  unfolding summary_of summary_core
  accepted p = rw (
    and_true (flip_ok E h c staged e table head) (lines_ok lines S) p.checks.fits (le-leb (lines * 5) (length S) p.long),
    p.checks.in_order,
    p.checks.not_below,
    le-ltb lines k p.room,
    p.checks.rows,
  ) refl

  abbrev refused_by : ℕ → WithSummary Summarized
  refused_by code = with_summary (Err code) S

  no : (code : ℕ) → (refused_by code).result ≡ (Ok tt) → ⊥
  no code q = let z : ◌≡◌ {A = ℕ} 0 1 = cc in omega arith

  abbrev rows_put : WithSummary Summarized
  rows_put = put_lines (rows_up (row_checked E w) 0 k) k lines S

  abbrev Fit : Type 0
  Fit = flip_ok E h c staged e table head && lines_ok lines S ≡ true

  -- and it is accepted only then
  pub passing : afresh.result ≡ (Ok tt) → Passing
  unfolding summary_of summary_core
  passing q = by_ok (flip_ok E h c staged e table head && lines_ok lines S) refl q
    where
      by_rows : Fit → order_ok (take h.len head) ≡ true → is_negative h.spills ≡ false → ltb lines k ≡ false
          → (x : RowRead) → rows_up (row_checked E w) 0 k ≡ x → (put_lines x k lines S).result ≡ (Ok tt) → Passing
      by_rows a o s r (bad code) f q = absurd (no code q)
      by_rows a o s r (good zs) f q = record {
        checks = record { fits = and_left (flip_ok E h c staged e table head) (lines_ok lines S) a; in_order = o; not_below = s; numbers = zs; rows = f };
        long = leb-true (lines * 5) (length S) (and_right (flip_ok E h c staged e table head) (lines_ok lines S) a);
        room = ltb-false lines k r;
      }

      by_room : Fit → order_ok (take h.len head) ≡ true → is_negative h.spills ≡ false → (x : Bool) → ltb lines k ≡ x
          → (cond x (refused_by 36) rows_put).result ≡ (Ok tt) → Passing
      by_room a o s true r q = absurd (no 36 q)
      by_room a o s false r q = by_rows a o s r (rows_up (row_checked E w) 0 k) refl q

      by_sign : Fit → order_ok (take h.len head) ≡ true → (x : Bool) → is_negative h.spills ≡ x
          → (cond x (refused_by 11) (cond (ltb lines k) (refused_by 36) rows_put)).result ≡ (Ok tt) → Passing
      by_sign a o true s q = absurd (no 11 q)
      by_sign a o false s q = by_room a o s (ltb lines k) refl q

      by_order : Fit → (x : Bool) → order_ok (take h.len head) ≡ x
          → (cond x (cond (is_negative h.spills) (refused_by 11) (cond (ltb lines k) (refused_by 36) rows_put)) (refused_by 10)).result ≡ (Ok tt) → Passing
      by_order a true o q = by_sign a o (is_negative h.spills) refl q
      by_order a false o q = absurd (no 10 q)

      by_ok : (x : Bool) → flip_ok E h c staged e table head && lines_ok lines S ≡ x
          → (cond x (summary_core E w h.spills (take h.len head) lines S) (refused_by 25)).result ≡ (Ok tt) → Passing
      by_ok true a q = by_order a (order_ok (take h.len head)) refl q
      by_ok false a q = absurd (no 25 q)

  module _ (p : Passing) where
    pub made_rows : Made (row_checked E w) 0 k (lines_of k p.checks.numbers)
    made_rows = made (row_checked E w) (λ i. checked_512 (spill_read E _ w i)) 0 k p.checks.numbers p.checks.rows

    unchanged : afresh ≡ with_summary (Ok tt) S → write 0 (lines_of k p.checks.numbers ++ replicate ((lines - k) * 5) 0) S ≡ S
    unchanged q = ap (λ (x : WithSummary Summarized). x.summary) (sym (accepted p) ∙ q)

    -- a summary that stays as it is has the lines of the rows, and zeros after them
    pub current_row : afresh ≡ with_summary (Ok tt) S → (i : ℕ) (zs : List ℤ) → i < k → row_checked E w i ≡ good zs → line_at S i ≡ line_of zs
    current_row q = afresh_row (row_checked E w) k lines (lines_of k p.checks.numbers) S made_rows p.room p.long (unchanged q)

    pub current_free : afresh ≡ with_summary (Ok tt) S → (i : ℕ) → k ≤ i → i < lines → line_at S i ≡ no_line
    current_free q = afresh_free (row_checked E w) k lines (lines_of k p.checks.numbers) S made_rows p.room p.long (unchanged q)

    -- and one that has them stays as it is
    pub current : ((i : ℕ) (zs : List ℤ) → i < k → row_checked E w i ≡ good zs → line_at S i ≡ line_of zs) → ((i : ℕ) → k ≤ i → i < lines → line_at S i ≡ no_line)
        → afresh ≡ with_summary (Ok tt) S
    current rows free =
        accepted p ∙ ap (λ (T : List ℕ). with_summary (Ok tt) T) (afresh_same (row_checked E w) k lines (lines_of k p.checks.numbers) S made_rows p.room p.long rows free)

  -- ---- a refused call leaves the summary
  abbrev Same : WithSummary Summarized → Type 0
  Same o = (code : ℕ) → o.result ≡ Err code → o.summary ≡ S

  put_same : (x : RowRead) → Same (put_lines x k lines S)
  put_same (bad r) code q = refl
  put_same (good zs) code q = let z : ◌≡◌ {A = ℕ} 0 1 = cc in absurd (omega arith)

  pub summary_same : Same afresh
  unfolding summary_of summary_core
  summary_same =
      both Same (flip_ok E h c staged e table head && lines_ok lines S)
      (both Same (order_ok (take h.len head))
      (both Same (is_negative h.spills) (λ code q. refl)
      (both Same (ltb lines k) (λ code q. refl) (put_same (rows_up (row_checked E w) 0 k))))
      (λ code q. refl))
      (λ code q. refl)

-- ---- what the call makes is current
write_again : (l S : List ℕ) → write 0 l (write 0 l S) ≡ write 0 l S
unfolding write
write_again l S = ap (λ (x : List ℕ). l ++ x) (drop_at l (drop (0 + length l) S) (0 + length l) (omega arith))

pub made_current : (E : Edition) (parent : List ℕ) (h : HeadCounts) (c : ListCounts) (staged : List ℕ) (e : ListCounts) (table : List ℕ) (head : List ℤ) (lines : ℕ) (S : List ℕ)
    → (summary_of E parent h c staged e table head lines S).result ≡ Ok tt
    → summary_of E parent h c staged e table head lines (summary_of E parent h c staged e table head lines S).summary ≡ with_summary (Ok tt) (summary_of E parent h c staged e table head lines S).summary
made_current E parent h c staged e table head lines S q =
    let p = passing E parent h c staged e table head lines S q in
    let all : List ℕ = lines_of (nat_abs h.spills) p.checks.numbers ++ replicate ((lines - nat_abs h.spills) * 5) 0 in
    let five = length_all (row_checked E (sources parent staged c.count table e.count)) (nat_abs h.spills) lines (lines_of (nat_abs h.spills) p.checks.numbers) S
    (made_rows E parent h c staged e table head lines S p) p.room p.long in
    let long = length_write 0 all S (omega (arith, p.long)) in
    let T : List ℕ = write 0 all S in
    let r : Passing E parent h c staged e table head lines T
    = record { checks = p.checks; long = omega (arith, p.long); room = p.room } in
    let z : (summary_of E parent h c staged e table head lines S).summary ≡ T = ap (λ (x : WithSummary Summarized). x.summary) (accepted E parent h c staged e table head lines S p) in
    rw z (accepted E parent h c staged e table head lines T r ∙ ap (λ (x : List ℕ). with_summary (Ok tt) x) (write_again all S))
