-- Which rows a call with a summary reads: those of the call without one, and of a spend only the rows whose line spans the target.
use Prim.Native.Nat.{ℕ, zero, suc, ◌+◌, ◌-◌, ◌/◌, ◌≤◌, ◌<◌}
use mathlib.Core.Path.{◌≡◌, refl, sym, ap, ◌∙◌}
use mathlib.Core.Logic.{◌⊎◌, inl, inr}
use mathlib.Core.Bool.{Bool, true, false, cond, ◌&&◌}
use mathlib.Core.List.{List, [], ◌∷◌}
use native.Mathlib.Omega.{arith}
use native.Mathlib.Nat.{div-lt_self}
use borrow.Author.Tests.{ltb-true, ltb-false, leb-true}
use lib.Dec.{ltb, leb}
use lib.IntN.{ℤ, nat_abs}
use lib.ListN.{take}
use Rattle.signed.specs.Sign.{is_negative}
use Rattle.entries.specs.Order.{order_ok}
use Rattle.entries.specs.Flip.{position}
use Rattle.entries.specs.declared.Position.{Position}
use Rattle.entries.specs.declared.Position.TheVariants.{At, Seen, Absent}
use Rattle.index_types.specs.declared.ListCounts.{ListCounts}
use Rattle.index_types.specs.declared.HeadCounts.{HeadCounts}
use Rattle.buffer_core.specs.declared.Direction.{Direction}
use Rattle.std.specs.Prelude.{Ok, Err}
use Rattle.buffer_core.specs.Answers.{Low}
use Rattle.buffer_core.specs.declared.Look.{Look}
use Rattle.buffer_core.specs.declared.Look.TheVariants.{Take, Stop, Next, Fail}
use Rattle.buffer_core.specs.Edition.{Edition, RowRead, bad, good}
use Rattle.buffer_core.specs.Spills.{Sources, sources}
use Rattle.buffer_core.specs.Flip.{middle, search_by, search_in, look_by, look_past, row_checked, spends, flip_ok}
use Rattle.summary_core.specs.Lines.{at_line, lines_ok}
use Rattle.summary_core.specs.Flip.{line_lead, look_in_row, line_look}
use Rattle.summary_core.specs.Moves.{too_few_lines}
use Rattle.working_set.specs.Reads.{Need, need, first_missing, In, look_reads, walk_reads, up_reads, head_reads, pop_reads, tally_core_reads, tally_of_reads}
use Rattle.working_summaries.specs.Reads.{passed_over, searched, line_reads, below_reads, in_lines_reads, flip_lines_core_reads, flip_lines_reads, pop_lines_reads, summary_core_reads, summary_reads}
use Rattle.working_summaries.specs.Laws.{Rising, PopNamedLaw, SummaryNamedLaw, SpanLaw, OneRowLaw}

nope : {A : Type 0} → ◌≡◌ {A = ℕ} 0 1 → A
nope z = let e : ⊥ = omega arith in absurd e

-- ---- what is missing, behind a test that leaves nothing to read
none_missing : (m : ℕ → Bool) (n : ℕ) → {A : Type 0} → first_missing m [] ≡ need n → A
unfolding first_missing
none_missing m n e = nope (cc)

missing_if : (m : ℕ → Bool) (t : Bool) (xs : List ℕ) (n : ℕ) → first_missing m (cond t xs []) ≡ need n → first_missing m xs ≡ need n
missing_if m true xs n e = e
missing_if m false xs n e = none_missing m n e

missing_unless : (m : ℕ → Bool) (t : Bool) (xs : List ℕ) (n : ℕ) → first_missing m (cond t [] xs) ≡ need n → first_missing m xs ≡ need n
missing_unless m true xs n e = none_missing m n e
missing_unless m false xs n e = e

module _ (E : Edition) where
  pub pop_named_law : PopNamedLaw E
  unfolding pop_lines_reads
  pop_named_law m h b head lines S n e = missing_unless m (too_few_lines h lines) _ n (missing_if m (lines_ok lines S) _ n e)

  pub summary_named_law : SummaryNamedLaw E
  unfolding summary_reads summary_core_reads tally_of_reads tally_core_reads
  summary_named_law m parent h c staged e table head lines S n q =
      by_ok (flip_ok E h c staged e table head) (lines_ok lines S) (order_ok (take h.len head)) (is_negative h.spills) (ltb lines (nat_abs h.spills))
      (up_reads (row_checked E (sources parent staged c.count table e.count)) 0 (nat_abs h.spills)) q
    where
      by_ok : (a l o g f : Bool) (xs : List ℕ) → first_missing m (cond (a && l) (cond o (cond g [] (cond f [] xs)) []) []) ≡ need n
          → first_missing m (cond a (cond o (cond g [] xs) []) []) ≡ need n
      by_ok false l o g f xs r = none_missing m n r
      by_ok true false o g f xs r = none_missing m n r
      by_ok true true false g f xs r = none_missing m n r
      by_ok true true true true f xs r = none_missing m n r
      by_ok true true true false true xs r = none_missing m n r
      by_ok true true true false false xs r = r

-- ---- a list behind a test
in_if : (t : Bool) (xs : List ℕ) (n : ℕ) → In n (cond t xs []) → In n xs
in_if true xs n i = i
in_if false xs n i = absurd i

in_unless : (t : Bool) (xs : List ℕ) (n : ℕ) → In n (cond t [] xs) → In n xs
in_unless true xs n i = absurd i
in_unless false xs n i = i

in_head : (p : Position) (xs : List ℕ) (n : ℕ) → In n (head_reads p xs) → In n xs
in_head (At i) xs n h = absurd h
in_head Seen xs n h = h
in_head Absent xs n h = h

in_searched : (p : ℕ → Bool) (ns : List ℕ) (n : ℕ) → In n (searched p ns) → (p n ≡ false) × In n ns
unfolding searched
in_searched p [] n i = absurd i
in_searched p (x ∷ ns) n i = by_passed (p x) refl i (in_searched p ns n)
  where
    by_passed : (a : Bool) → p x ≡ a → In n (cond a (searched p ns) (x ∷ searched p ns)) → (In n (searched p ns) → (p n ≡ false) × In n ns) → (p n ≡ false) × ((x ≡ n) ⊎ In n ns)
    by_passed true q j r = ((r j).0, inr (r j).1)
    by_passed false q (inl e) r = (rw e at q, inl e)
    by_passed false q (inr j) r = ((r j).0, inr (r j).1)

in_walk : (f : ℕ → Look) (k n : ℕ) → In n (walk_reads f k) → n < k
unfolding walk_reads
in_walk f zero n i = absurd i
in_walk f (suc k) n (inl e) = omega arith
in_walk f (suc k) n (inr i) = by_look (f k) i (in_walk f k n)
  where
    by_look : (x : Look) → In n (look_reads x (walk_reads f k)) → (In n (walk_reads f k) → n < k) → n < suc k
    by_look (Take j) h r = absurd h
    by_look (Stop s) h r = absurd h
    by_look (Next s) h r = let l = r h in omega arith
    by_look (Fail code) h r = absurd h

-- ---- where the halving over rising lines ends
half_less : (low high : ℕ) → low < high → (high - low) / 2 < high - low
half_less low high h = div-lt_self (omega arith) (omega arith)

middle_below : (low high : ℕ) → low < high → middle low high < high
middle_below low high h = omega (arith, half_less low high h)

module _ (S : List ℕ) (target spills : ℕ) (r : Rising S spills) where
  abbrev Before : ℕ → Type 0
  Before l = (i : ℕ) → i < l → at_line S i 0 ≤ target

  found_before : (k low high l : ℕ) → high ≤ spills → Before low → search_by (line_lead S) target k low high ≡ Ok l → Before l
  unfolding search_by
  found_before zero low high l h b e = let s : low ≡ l = cc in λ i q. b i (omega arith)
  found_before (suc k) low high l h b e =
      by_range (ltb low high) refl e
      (λ m p u. found_before k (middle low high + 1) high l h (λ i q. omega (arith, r i (middle low high) (omega arith) (omega arith))) u)
      (λ m u. found_before k low (middle low high) l (omega arith) b u)
    where
      Up : Type 0
      Up = middle low high < high → at_line S (middle low high) 0 ≤ target → search_by (line_lead S) target k (middle low high + 1) high ≡ Ok l → (i : ℕ) → i < l → at_line S i 0 ≤ target

      Down : Type 0
      Down = middle low high < high → search_by (line_lead S) target k low (middle low high) ≡ Ok l → (i : ℕ) → i < l → at_line S i 0 ≤ target

      by_half : (t : Bool) → leb (at_line S (middle low high) 0) target ≡ t → middle low high < high
          → cond t (search_by (line_lead S) target k (middle low high + 1) high) (search_by (line_lead S) target k low (middle low high)) ≡ Ok l → Up → Down → (i : ℕ) → i < l → at_line S i 0 ≤ target
      by_half true q m u up down = up m (leb-true (at_line S (middle low high) 0) target q) u
      by_half false q m u up down = down m u

      by_range : (t : Bool) → ltb low high ≡ t
          → cond t (cond (leb (at_line S (middle low high) 0) target) (search_by (line_lead S) target k (middle low high + 1) high) (search_by (line_lead S) target k low (middle low high))) (Ok low) ≡ Ok l
          → Up → Down → (i : ℕ) → i < l → at_line S i 0 ≤ target
      by_range true q u up down = by_half (leb (at_line S (middle low high) 0) target) refl (middle_below low high (ltb-true low high q)) u up down
      by_range false q u up down = let s : low ≡ l = cc in λ i p. b i (omega arith)

module _ (E : Edition) where
  module _ (w : Sources) (S : List ℕ) (target : ℕ) (d : Bool) where
    below_spans : (x : Low) (n : ℕ) → In n (below_reads E w S target d x)
        → (target ≤ at_line S n 1) × (((l : ℕ) → x ≡ Ok l → (i : ℕ) → i < l → at_line S i 0 ≤ target) → at_line S n 0 ≤ target)
    unfolding line_reads
    below_spans (Ok low) n i =
        let a = in_searched (passed_over S target) (walk_reads (line_look E w S target d) low) n i in
        (ltb-false (at_line S n 1) target a.0, λ f. f low refl n (in_walk (line_look E w S target d) low n a.1))
    below_spans (Err code) n i = absurd i

    lines_span : (spills n : ℕ) → In n (in_lines_reads E w S target d spills) → (target ≤ at_line S n 1) × (Rising S spills → at_line S n 0 ≤ target)
    unfolding in_lines_reads
    lines_span spills n i =
        let a = below_spans (search_in (line_lead S) target 0 spills) n i in
        (a.0, λ r. a.1 (λ l e. found_before S target spills r (spills - 0) 0 spills l (omega arith) (λ i q. absurd (omega arith)) e))

    -- a row behind which the walk goes on
    goes_on : (x : RowRead) (ends s : Bool) → look_in_row x target d ends ≡ Next s → ends ≡ false
    goes_on (good zs) ends s e = by_place (position d target zs 0 false) ends e
      where
        by_place : (p : Position) (ends : Bool) → look_by p ends ≡ Next s → ends ≡ false
        by_place (At i) ends q = nope (cc)
        by_place Seen true q = nope (cc)
        by_place Seen false q = refl
        by_place Absent true q = nope (cc)
        by_place Absent false q = refl
    goes_on (bad code) ends s e = nope (cc)

    two_rows : (low n k : ℕ) (ns : List ℕ) → line_reads E w S target d low ≡ n ∷ k ∷ ns → target ≤ at_line S n 0
    unfolding line_reads walk_reads searched
    two_rows zero n k ns e = nope (cc)
    two_rows (suc j) n k ns e =
        by_passed (passed_over S target j) (look_in_row (row_checked E w j) target d (ltb (at_line S j 0) target)) refl e
      where
        by_look : (x : Look) → look_in_row (row_checked E w j) target d (ltb (at_line S j 0) target) ≡ x
            → searched (passed_over S target) (look_reads x (walk_reads (line_look E w S target d) j)) ≡ k ∷ ns → j ≡ n → target ≤ at_line S n 0
        by_look (Take i) q u v = nope (cc)
        by_look (Stop s) q u v = nope (cc)
        by_look (Next s) q u v = rw v at (ltb-false (at_line S j 0) target (goes_on (row_checked E w j) (ltb (at_line S j 0) target) s q))
        by_look (Fail code) q u v = nope (cc)

        by_passed : (a : Bool) (x : Look) → look_in_row (row_checked E w j) target d (ltb (at_line S j 0) target) ≡ x
            → cond a (searched (passed_over S target) (look_reads (cond a (Stop false) x) (walk_reads (line_look E w S target d) j)))
            (j ∷ searched (passed_over S target) (look_reads (cond a (Stop false) x) (walk_reads (line_look E w S target d) j))) ≡ n ∷ k ∷ ns
            → target ≤ at_line S n 0
        by_passed true x q u = nope (cc)
        by_passed false x q u = by_look x q (cc) (cc)

  pub span_law : SpanLaw E
  unfolding flip_lines_reads flip_lines_core_reads
  span_law d parent h target c staged e table head lines S n i =
      lines_span (sources parent staged c.count table e.count) S (nat_abs target) (spends d) (nat_abs h.spills) n
      (in_head (position (spends d) (nat_abs target) (take h.len head) 0 false) _ n
      (in_unless (ltb lines (nat_abs h.spills)) _ n
      (in_unless (is_negative h.spills) _ n
      (in_if (order_ok (take h.len head)) _ n
      (in_unless (leb 9223372036854775808 (nat_abs target)) _ n
      (in_if (flip_ok E h c staged e table head && lines_ok lines S) _ n i))))))

-- ---- a list that is not empty, behind a test
is_if : (t : Bool) (xs : List ℕ) (n : ℕ) (ns : List ℕ) → cond t xs [] ≡ n ∷ ns → xs ≡ n ∷ ns
is_if true xs n ns e = e
is_if false xs n ns e = nope (cc)

is_unless : (t : Bool) (xs : List ℕ) (n : ℕ) (ns : List ℕ) → cond t [] xs ≡ n ∷ ns → xs ≡ n ∷ ns
is_unless true xs n ns e = nope (cc)
is_unless false xs n ns e = e

is_head : (p : Position) (xs : List ℕ) (n : ℕ) (ns : List ℕ) → head_reads p xs ≡ n ∷ ns → xs ≡ n ∷ ns
is_head (At i) xs n ns e = nope (cc)
is_head Seen xs n ns e = e
is_head Absent xs n ns e = e

module _ (E : Edition) where
  lines_two : (w : Sources) (S : List ℕ) (target : ℕ) (d : Bool) (spills n k : ℕ) (ns : List ℕ) → in_lines_reads E w S target d spills ≡ n ∷ k ∷ ns → target ≤ at_line S n 0
  unfolding in_lines_reads
  lines_two w S target d spills n k ns e = by_low (search_in (line_lead S) target 0 spills) e
    where
      by_low : (x : Low) → below_reads E w S target d x ≡ n ∷ k ∷ ns → target ≤ at_line S n 0
      by_low (Ok low) q = two_rows E w S target d low n k ns q
      by_low (Err code) q = nope (cc)

  flip_two : (d : Direction) (parent : List ℕ) (h : HeadCounts) (target : ℤ) (c : ListCounts) (staged : List ℕ) (e : ListCounts) (table : List ℕ) (head : List ℤ) (lines : ℕ) (S : List ℕ) (n k : ℕ) (ns : List ℕ)
      → flip_lines_reads E d parent h target c staged e table head lines S ≡ n ∷ k ∷ ns → nat_abs target ≤ at_line S n 0
  unfolding flip_lines_reads flip_lines_core_reads
  flip_two d parent h target c staged e table head lines S n k ns q =
      lines_two (sources parent staged c.count table e.count) S (nat_abs target) (spends d) (nat_abs h.spills) n k ns
      (is_head (position (spends d) (nat_abs target) (take h.len head) 0 false) _ n _
      (is_unless (ltb lines (nat_abs h.spills)) _ n _
      (is_unless (is_negative h.spills) _ n _
      (is_if (order_ok (take h.len head)) _ n _
      (is_unless (leb 9223372036854775808 (nat_abs target)) _ n _
      (is_if (flip_ok E h c staged e table head && lines_ok lines S) _ n _ q))))))

  pub one_row_law : OneRowLaw E
  one_row_law d parent h target c staged e table head lines S n k ns r q =
      let a = span_law E d parent h target c staged e table head lines S n (rw q (inl refl)) in
      omega (arith, a.1 r, flip_two d parent h target c staged e table head lines S n k ns q)
