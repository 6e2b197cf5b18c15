-- The walk over the lines, on W and on T: as the walk over the rows, where a row whose line is passed over counts as there.
use Prim.Native.Nat.{ℕ, zero, suc}
use mathlib.Core.Path.{◌≡◌, refl, sym, ap, ◌∙◌}
use mathlib.Core.Logic.{inl, inr}
use mathlib.Core.Bool.{Bool, true, false, cond, ◌&&◌, ◌||◌, not}
use mathlib.Core.List.{List, [], ◌∷◌}
use native.Mathlib.Omega.{arith}
use lib.Dec.{ltb, leb}
use lib.IntN.{ℤ, nat_abs}
use lib.ListN.{take}
use Rattle.signed.specs.Sign.{is_negative}
use Rattle.entries.specs.Order.{order_ok}
use Rattle.entries.specs.Flip.{position}
use Rattle.entries.specs.declared.Position.{Position}
use Rattle.entries.specs.declared.Position.TheVariants.{At, Seen, Absent}
use Rattle.segment_id.specs.declared.Kind.TheVariants.{Box}
use Rattle.index_types.specs.declared.ListCounts.{ListCounts}
use Rattle.index_types.specs.declared.HeadCounts.{HeadCounts}
use Rattle.std.specs.Prelude.{Ok, Err}
use Rattle.index_types.specs.Answers.{Summarized}
use Rattle.records.specs.Checks.{records_ok, keys_ok}
use Rattle.buffer_core.specs.declared.Direction.{Direction}
use Rattle.buffer_core.specs.Answers.{Low}
use Rattle.buffer_core.specs.declared.Look.{Look}
use Rattle.buffer_core.specs.declared.Look.TheVariants.{Take, Stop, Next, Fail}
use Rattle.buffer_core.specs.declared.Walk.{Walk}
use Rattle.buffer_core.specs.declared.Walk.TheVariants.{Hit, Ended, Failed}
use Rattle.buffer_core.specs.Edition.{Edition, RowRead, bad, good}
use Rattle.buffer_core.specs.Spills.{Sources, sources, head_ok}
use Rattle.buffer_core.specs.Pop.{Popping, popping, Lists, lists, lists_ok, pop_ok, pop_core, pop_of}
use Rattle.buffer_core.specs.Rows.{rows_up}
use Rattle.buffer_core.specs.Flip.{walk_by, walk_from, Effect, refuse, flip_head, stage, row_checked, search_in, after_walk, spends, done_by, flipping, Flipping, flip_ok}
use Rattle.summary_core.specs.Lines.{at_line, lines_ok, WithSummary, with_summary}
use Rattle.summary_core.specs.Flip.{line_lead, look_in_row, line_look, walk_after, walk_lines, head_or_lines, summary_staged, after_lines, in_lines, flip_lines, done_lines, flip_lines_core, flip_lines_of}
use Rattle.summary_core.specs.Moves.{too_few_lines, after_pop, pop_lines, pop_lines_of}
use Rattle.summary_core.specs.Making.{put_lines, summary_core, summary_of}
use Rattle.working_set.specs.Part.{held_in, PartOf, lacks}
use Rattle.working_set.specs.Reads.{Need, need, first_missing, In, walk_reads, head_reads, pop_reads}
use Rattle.working_set.specs.Laws.{Outcome, same, lack, Working, PopLaw}
use Rattle.working_set.proofs.Outcomes.{none, told}
use Rattle.working_set.proofs.Places.{stages_alike}
use Rattle.working_set.proofs.Searches.{Stands, walked, gathered}
use Rattle.working_set.proofs.CallLaws.{by_test, unless_test, checked_alike, checked_12, pop_law}
use Rattle.working_summaries.specs.Reads.{passed_over, searched, line_reads, below_reads, in_lines_reads, flip_lines_core_reads, flip_lines_reads, pop_lines_reads, summary_core_reads, summary_reads}
use Rattle.working_summaries.specs.Laws.{FlipLinesLaw, PopLinesLaw, SummaryLaw}

nope : {A : Type 0} → ◌≡◌ {A = ℕ} 0 1 → A
nope z = let e : ⊥ = omega arith in absurd e

-- ---- rows that are passed over
module _ (m p : ℕ → Bool) where
  abbrev asked : ℕ → Bool
  asked n = cond (p n) false (m n)

  first_searched : (ns : List ℕ) → first_missing m (searched p ns) ≡ first_missing asked ns
  unfolding first_missing searched
  first_searched [] = refl
  first_searched (n ∷ ns) = by_passed (p n) (first_searched ns)
    where
      by_passed : (a : Bool) → first_missing m (searched p ns) ≡ first_missing asked ns
          → first_missing m (cond a (searched p ns) (n ∷ searched p ns)) ≡ cond (cond a false (m n)) (need n) (first_missing asked ns)
      by_passed true r = r
      by_passed false r = ap (λ (x : Need). cond (m n) (need n) x) r

  kept : (n : ℕ) → asked n ≡ true → p n ≡ false
  kept n h = by_passed (p n) h
    where
      by_passed : (a : Bool) → cond a false (m n) ≡ true → a ≡ false
      by_passed true e = nope (cc)
      by_passed false e = refl

  asked_missing : (n : ℕ) → asked n ≡ true → m n ≡ true
  asked_missing n h = by_passed (p n) h
    where
      by_passed : (a : Bool) → cond a false (m n) ≡ true → m n ≡ true
      by_passed true e = nope (cc)
      by_passed false e = e

  in_searched : (n : ℕ) (ns : List ℕ) → p n ≡ false → In n ns → In n (searched p ns)
  unfolding searched
  in_searched n [] h i = i
  in_searched n (x ∷ ns) h (inl e) = let q : p x ≡ false = rw e h in rw q (inl e)
  in_searched n (x ∷ ns) h (inr i) = by_passed (p x) (in_searched n ns h i)
    where
      by_passed : (a : Bool) → In n (searched p ns) → In n (cond a (searched p ns) (x ∷ searched p ns))
      by_passed true r = r
      by_passed false r = inr r

  narrowed : {A B : Type 0} (ps qs : List ℕ) → Outcome asked ps qs A B → Outcome m (searched p ps) (searched p qs) A B
  narrowed ps qs (same e q a) = same (first_searched ps ∙ e) (ap (searched p) q) a
  narrowed ps qs (lack n e h i b) = lack n (first_searched ps ∙ e) (asked_missing n h) (in_searched n qs (kept n h) i) b

-- an entry is taken where the row shows it
hit_look : (f : ℕ → Look) (k : ℕ) (seen : Bool) (n i : ℕ) → walk_from f k seen ≡ Hit n i → f n ≡ Take i
unfolding walk_from
hit_look f zero seen n i e = nope (cc)
hit_look f (suc k) seen n i e = by_look (f k) refl e (λ s r. hit_look f k s n i r)
  where
    by_look : (x : Look) → f k ≡ x → walk_by x k seen (λ s. walk_from f k s) ≡ Hit n i → ((s : Bool) → walk_from f k s ≡ Hit n i → f n ≡ Take i) → f n ≡ Take i
    by_look (Take j) q r g = let a : k ≡ n = cc in let b : j ≡ i = cc in cc
    by_look (Stop s) q r g = nope (cc)
    by_look (Next s) q r g = g (seen || s) r
    by_look (Fail code) q r g = nope (cc)

module _ (E : Edition) (parent staged : List ℕ) (s : ℕ) (work : List ℕ) (w : ℕ) (table : List ℕ) (t : ℕ)
    (part : PartOf (held_in E.size w work) (held_in E.size t table)) where
  abbrev W : Sources
  W = sources parent staged s work w

  abbrev T : Sources
  T = sources parent staged s table t

  abbrev m : ℕ → Bool
  m n = lacks E Box W n

  alike : (n : ℕ) → m n ≡ false → row_checked E W n ≡ row_checked E T n
  alike = checked_alike E parent staged s work w table t part

  gone : (n : ℕ) → m n ≡ true → row_checked E W n ≡ bad 12
  gone = checked_12 E parent staged s work w table t part

  module _ (S : List ℕ) (target : ℕ) (d : Bool) where
    abbrev p : ℕ → Bool
    p n = passed_over S target n

    abbrev in_row : RowRead → ℕ → Look
    in_row x n = look_in_row x target d (ltb (at_line S n 0) target)

    line_alike : (n : ℕ) → asked m p n ≡ false → line_look E W S target d n ≡ line_look E T S target d n
    line_alike n h = by_passed (p n) h
      where
        by_passed : (a : Bool) → cond a false (m n) ≡ false → cond a (Stop false) (in_row (row_checked E W n) n) ≡ cond a (Stop false) (in_row (row_checked E T n) n)
        by_passed true e = refl
        by_passed false e = ap (λ (x : RowRead). in_row x n) (alike n e)

    line_12 : (n : ℕ) → asked m p n ≡ true → line_look E W S target d n ≡ Fail 12
    line_12 n h = by_passed (p n) h
      where
        by_passed : (a : Bool) → cond a false (m n) ≡ true → cond a (Stop false) (in_row (row_checked E W n) n) ≡ Fail 12
        by_passed true e = nope (cc)
        by_passed false e = ap (λ (x : RowRead). in_row x n) (gone n e)

    -- the row that an entry is taken from was read, and is there
    stands : (x : Walk) → ((n i : ℕ) → x ≡ Hit n i → line_look E T S target d n ≡ Take i) → Stands (asked m p) x → Stands m x
    stands (Hit n i) f h = by_passed (p n) (f n i refl) h
      where
        by_passed : (a : Bool) → cond a (Stop false) (in_row (row_checked E T n) n) ≡ Take i → cond a false (m n) ≡ false → m n ≡ false
        by_passed true e k = nope (cc)
        by_passed false e k = k
    stands (Ended seen) f h = tt
    stands (Failed code) f h = tt

    staged_alike : (n i : ℕ) → m n ≡ false → (x : Effect) → summary_staged E W (Hit n i) x S ≡ summary_staged E T (Hit n i) x S
    staged_alike n i h (stage slot count key row) = rw (alike n h)
    staged_alike n i h (flip_head k) = refl
    staged_alike n i h (refuse code) = refl

    after_alike : (capacity : ℕ) (x y : Walk) → x ≡ y → Stands m y → after_lines E W capacity S x ≡ after_lines E T capacity S y
    after_alike capacity x (Hit n i) e k =
        rw e
        (ap (λ (a : Effect). with_summary a (summary_staged E W (Hit n i) a S)) (stages_alike E parent staged s work w table t part capacity n i k)
        ∙ ap (with_summary (after_walk E T capacity (Hit n i))) (staged_alike n i k (after_walk E T capacity (Hit n i))))
    after_alike capacity x (Ended seen) e k = rw e
    after_alike capacity x (Failed code) e k = rw e

    walk_done : (capacity : ℕ) (seen : Bool) (low : ℕ)
        → Outcome m (line_reads E W S target d low) (line_reads E T S target d low)
        (after_lines E W capacity S (walk_from (line_look E W S target d) low seen) ≡ after_lines E T capacity S (walk_from (line_look E T S target d) low seen))
        (after_lines E W capacity S (walk_from (line_look E W S target d) low seen) ≡ with_summary (refuse 12) S)
    unfolding line_reads
    walk_done capacity seen low =
        narrowed m p (walk_reads (line_look E W S target d) low) (walk_reads (line_look E T S target d) low)
        (told (asked m p)
        (λ a. after_alike capacity _ _ a.0 (stands (walk_from (line_look E T S target d) low seen) (λ n i q. hit_look (line_look E T S target d) low seen n i q) a.1))
        (λ e. ap (after_lines E W capacity S) e)
        (walked (asked m p) (line_look E W S target d) (line_look E T S target d) line_alike line_12 low seen))

    low_done : (capacity : ℕ) (seen : Bool) (x : Low)
        → Outcome m (below_reads E W S target d x) (below_reads E T S target d x)
        (after_lines E W capacity S (walk_after (line_look E W S target d) seen x) ≡ after_lines E T capacity S (walk_after (line_look E T S target d) seen x))
        (after_lines E W capacity S (walk_after (line_look E W S target d) seen x) ≡ with_summary (refuse 12) S)
    low_done capacity seen (Ok low) = walk_done capacity seen low
    low_done capacity seen (Err code) = none m refl

    lines_done : (capacity spills : ℕ) (seen : Bool)
        → Outcome m (in_lines_reads E W S target d spills) (in_lines_reads E T S target d spills)
        (in_lines E W capacity target d spills S seen ≡ in_lines E T capacity target d spills S seen) (in_lines E W capacity target d spills S seen ≡ with_summary (refuse 12) S)
    unfolding in_lines_reads in_lines walk_lines
    lines_done capacity spills seen = low_done capacity seen (search_in (line_lead S) target 0 spills)

  order_done : (q : Position) (ps qs : List ℕ) (f g : Bool → WithSummary Effect) (S : List ℕ)
      → ((seen : Bool) → Outcome m ps qs (f seen ≡ g seen) (f seen ≡ with_summary (refuse 12) S))
      → Outcome m (head_reads q ps) (head_reads q qs) (head_or_lines q f S ≡ head_or_lines q g S) (head_or_lines q f S ≡ with_summary (refuse 12) S)
  order_done (At i) ps qs f g S r = none m refl
  order_done Seen ps qs f g S r = r true
  order_done Absent ps qs f g S r = r false

  effect_done : (capacity : ℕ) (d : Direction) (target spills : ℤ) (zs : List ℤ) (lines : ℕ) (S : List ℕ)
      → Outcome m (flip_lines_core_reads E W d target spills zs lines S) (flip_lines_core_reads E T d target spills zs lines S)
      (flip_lines E W capacity d target spills zs lines S ≡ flip_lines E T capacity d target spills zs lines S) (flip_lines E W capacity d target spills zs lines S ≡ with_summary (refuse 12) S)
  unfolding flip_lines_core_reads flip_lines
  effect_done capacity d target spills zs lines S =
      by_test m (leb 9223372036854775808 (nat_abs target)) (with_summary (refuse 12) S) _ _ (with_summary (refuse 9) S) _ _
      (unless_test m (order_ok zs) (with_summary (refuse 12) S) _ _ (with_summary (refuse 10) S) _ _
      (by_test m (is_negative spills) (with_summary (refuse 12) S) _ _ (with_summary (refuse 11) S) _ _
      (by_test m (ltb lines (nat_abs spills)) (with_summary (refuse 12) S) _ _ (with_summary (refuse 36) S) _ _
      (order_done (position (spends d) (nat_abs target) zs 0 false) _ _
      (λ seen. in_lines E W capacity (nat_abs target) (spends d) (nat_abs spills) S seen) (λ seen. in_lines E T capacity (nat_abs target) (spends d) (nat_abs spills) S seen) S
      (λ seen. lines_done S (nat_abs target) (spends d) capacity (nat_abs spills) seen)))))

  -- ---- a summary made afresh
  made_done : (spills : ℤ) (zs : List ℤ) (lines : ℕ) (S : List ℕ)
      → Outcome m (summary_core_reads E W spills zs lines) (summary_core_reads E T spills zs lines)
      (summary_core E W spills zs lines S ≡ summary_core E T spills zs lines S) (summary_core E W spills zs lines S ≡ with_summary (Err 12) S)
  unfolding summary_core_reads summary_core
  made_done spills zs lines S =
      unless_test m (order_ok zs) (with_summary (Err 12) S) _ _ (with_summary (Err 10) S) _ _
      (by_test m (is_negative spills) (with_summary (Err 12) S) _ _ (with_summary (Err 11) S) _ _
      (by_test m (ltb lines (nat_abs spills)) (with_summary (Err 12) S) _ _ (with_summary (Err 36) S) _ _
      (told m (λ e. ap (λ (x : RowRead). put_lines x (nat_abs spills) lines S) e) (λ e. ap (λ (x : RowRead). put_lines x (nat_abs spills) lines S) e)
      (gathered m (row_checked E W) (row_checked E T) alike gone 0 (nat_abs spills)))))

module _ (E : Edition) where
  pub flip_lines_law : FlipLinesLaw E
  unfolding flip_lines_reads flip_lines_of flip_lines_core flip_ok
  flip_lines_law d parent h target c staged wc work tc table head lines S k =
      rw (k.work_ok, k.table_ok)
      (unless_test (lacks E Box (sources parent staged c.count work wc.count)) ((head_ok h head && (records_ok E.size E.limit c staged && true)) && lines_ok lines S)
      (with_summary (flipping (Err 12) head staged) S) _ _ (with_summary (flipping (Err 25) head staged) S) _ _
      (told _ (λ e. ap (λ (x : WithSummary Effect). done_lines E x c head staged) e) (λ e. ap (λ (x : WithSummary Effect). done_lines E x c head staged) e)
      (effect_done E parent staged c.count work wc.count table tc.count k.part c.capacity d target h.spills (take h.len head) lines S)))

  pub summary_law : SummaryLaw E
  unfolding summary_reads summary_of flip_ok
  summary_law parent h c staged wc work tc table head lines S k =
      rw (k.work_ok, k.table_ok)
      (unless_test (lacks E Box (sources parent staged c.count work wc.count)) ((head_ok h head && (records_ok E.size E.limit c staged && true)) && lines_ok lines S)
      (with_summary (Err 12) S) _ _ (with_summary (Err 25) S) _ _
      (made_done E parent staged c.count work wc.count table tc.count k.part h.spills (take h.len head) lines S))

  -- ---- a pop
  module _ (parent : List ℕ) (h : HeadCounts) (b : Lists) (head : List ℤ) (lines : ℕ) (S : List ℕ) where
    abbrev refused : ℕ → WithSummary Popping
    refused code = with_summary (popping (Err code) head b.staged b.deleted) S

    pop_25 : lines_ok lines S ≡ false → pop_lines_of E parent h b head lines S ≡ refused 25
    unfolding pop_lines_of
    pop_25 l = rw l (by_ok (pop_ok E h b head))
      where
        by_ok : (t : Bool) → cond (t && false) (pop_lines E parent h b head lines S) (refused 25) ≡ refused 25
        by_ok true = refl
        by_ok false = refl

    pop_36 : lines_ok lines S ≡ true → too_few_lines h lines ≡ true → pop_lines_of E parent h b head lines S ≡ cond (pop_ok E h b head) (refused 36) (refused 25)
    unfolding pop_lines_of pop_lines
    pop_36 l f = rw (l, f) (by_ok (pop_ok E h b head))
      where
        by_ok : (t : Bool) → cond (t && true) (refused 36) (refused 25) ≡ cond t (refused 36) (refused 25)
        by_ok true = refl
        by_ok false = refl

    pop_is : lines_ok lines S ≡ true → too_few_lines h lines ≡ false → pop_lines_of E parent h b head lines S ≡ after_pop (pop_of E Box parent h b head) h S
    unfolding pop_lines_of pop_lines pop_of
    pop_is l f = rw (l, f) (by_ok (pop_ok E h b head))
      where
        by_ok : (t : Bool) → cond (t && true) (after_pop (pop_core E Box parent h b head) h S) (refused 25)
            ≡ after_pop (cond t (pop_core E Box parent h b head) (popping (Err 25) head b.staged b.deleted)) h S
        by_ok true = refl
        by_ok false = refl

    reads_none : lines_ok lines S ≡ false → pop_lines_reads E h b head lines S ≡ []
    unfolding pop_lines_reads
    reads_none l = rw l

    reads_few : lines_ok lines S ≡ true → too_few_lines h lines ≡ true → pop_lines_reads E h b head lines S ≡ []
    unfolding pop_lines_reads
    reads_few l f = rw (l, f)

    reads_pop : lines_ok lines S ≡ true → too_few_lines h lines ≡ false → pop_lines_reads E h b head lines S ≡ pop_reads E h b head
    unfolding pop_lines_reads
    reads_pop l f = rw (l, f)

  pop_alike : (h : HeadCounts) (c : ListCounts) (staged : List ℕ) (wc : ListCounts) (work : List ℕ) (tc : ListCounts) (table : List ℕ) (e : ListCounts) (deleted : List ℕ) (head : List ℤ)
      → Working E wc work tc table → pop_ok E h (lists c staged wc work e deleted) head ≡ pop_ok E h (lists c staged tc table e deleted) head
  unfolding pop_ok lists_ok
  pop_alike h c staged wc work tc table e deleted head k = rw (k.work_ok, k.table_ok)

  pub pop_lines_law : PopLinesLaw E
  pop_lines_law parent h c staged wc work tc table e deleted head lines S k = by_lines (lines_ok lines S) refl (too_few_lines h lines) refl
    where
      by_lines : (l : Bool) → lines_ok lines S ≡ l → (f : Bool) → too_few_lines h lines ≡ f
          → Outcome (lacks E Box (sources parent staged c.count work wc.count))
          (pop_lines_reads E h (lists c staged wc work e deleted) head lines S) (pop_lines_reads E h (lists c staged tc table e deleted) head lines S)
          (pop_lines_of E parent h (lists c staged wc work e deleted) head lines S ≡ pop_lines_of E parent h (lists c staged tc table e deleted) head lines S)
          (pop_lines_of E parent h (lists c staged wc work e deleted) head lines S ≡ with_summary (popping (Err 12) head staged deleted) S)
      by_lines false l f q =
          rw (reads_none parent h (lists c staged wc work e deleted) head lines S l, reads_none parent h (lists c staged tc table e deleted) head lines S l)
          (none _ (pop_25 parent h (lists c staged wc work e deleted) head lines S l ∙ sym (pop_25 parent h (lists c staged tc table e deleted) head lines S l)))
      by_lines true l true q =
          rw (reads_few parent h (lists c staged wc work e deleted) head lines S l q, reads_few parent h (lists c staged tc table e deleted) head lines S l q)
          (none _ (pop_36 parent h (lists c staged wc work e deleted) head lines S l q
          ∙ ap (λ (x : Bool). cond x (refused parent h (lists c staged wc work e deleted) head lines S 36) (refused parent h (lists c staged wc work e deleted) head lines S 25)) (pop_alike h c staged wc work tc table e deleted head k)
          ∙ sym (pop_36 parent h (lists c staged tc table e deleted) head lines S l q)))
      by_lines true l false q =
          rw (reads_pop parent h (lists c staged wc work e deleted) head lines S l q, reads_pop parent h (lists c staged tc table e deleted) head lines S l q)
          (told _ (λ x. pop_is parent h (lists c staged wc work e deleted) head lines S l q ∙ ap (λ (o : Popping). after_pop o h S) x ∙ sym (pop_is parent h (lists c staged tc table e deleted) head lines S l q))
          (λ x. pop_is parent h (lists c staged wc work e deleted) head lines S l q ∙ ap (λ (o : Popping). after_pop o h S) x)
          (pop_law E Box parent h c staged wc work tc table e deleted head k))
