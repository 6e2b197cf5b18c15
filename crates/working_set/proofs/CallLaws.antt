-- A call on a working set answers as on the whole table, or names a row that it lacks.
use Prim.Native.Nat.{ℕ, ◌-◌}
use mathlib.Core.Path.{◌≡◌, refl, ap, ◌∙◌}
use mathlib.Core.Bool.{Bool, true, false, cond, ◌&&◌}
use mathlib.Core.List.{List, [], ◌∷◌}
use lib.Dec.{eqb, ltb, leb}
use lib.IntN.{ℤ, pos, nat_abs}
use lib.ListN.{take, length}
use Rattle.entries.specs.Unspent.{page_places}
use Rattle.signed.specs.Sign.{is_negative}
use Rattle.entries.specs.Order.{order_ok}
use Rattle.entries.specs.Flip.{position}
use Rattle.entries.specs.declared.Position.{Position}
use Rattle.entries.specs.declared.Position.TheVariants.{At, Seen, Absent}
use Rattle.std.specs.Prelude.{Option, Some, None, Ok, Err}
use Rattle.index_types.specs.declared.ListCounts.{ListCounts}
use Rattle.records.specs.Records.{keys}
use Rattle.records.specs.Find.{find_key, row_at, placed_row, place_of}
use Rattle.records.specs.Checks.{records_ok, keys_ok}
use Rattle.segment_id.specs.declared.Kind.TheVariants.{Box}
use Rattle.buffer_core.specs.declared.Direction.{Direction}
use Rattle.buffer_core.specs.declared.Look.TheVariants.{Fail}
use Rattle.buffer_core.specs.Answers.{Low}
use Rattle.buffer_core.specs.declared.Walk.{Walk}
use Rattle.buffer_core.specs.declared.Walk.TheVariants.{Hit, Ended, Failed}
use Rattle.buffer_core.specs.Edition.{Edition, RowRead, bad, good}
use Rattle.buffer_core.specs.Spills.{Sources, sources, head_ok}
use Rattle.buffer_core.specs.Pop.{Popping, popping, Lists, lists, lists_ok, pop_ok, merge_of, merged, unspill_of, pop_core, pop_of}
use Rattle.buffer_core.specs.Flip.{check_row, Effect, refuse, row_checked, lead_at, look_at, search_in, lead_of, look_of, after_walk, after_search, in_rows, head_first, in_order, spends, flip_effect, done_by, flipping, flip_core, flip_ok, flip_of}
use Rattle.buffer_core.specs.Page.{paging, page_over, page_core, page_of}
use Rattle.buffer_core.specs.Tally.{tally_over, tally_core, tally_of}
use Rattle.spill_places.specs.Inspection.{spills_ok, inspect_row}
use Rattle.working_set.specs.Part.{absent, held, held_by, held_in, PartOf, lacks}
use Rattle.working_set.specs.Reads.{search_reads, head_reads, low_reads, rows_reads, flip_core_reads, flip_reads, pop_reads, tally_core_reads, tally_of_reads, page_of_reads}
use Rattle.working_set.specs.Laws.{Outcome, FlipLaw, PopLaw, TallyLaw, PageLaw, InspectLaw}
use Rattle.working_set.proofs.Outcomes.{none, stuck, past, told, then_read}
use Rattle.working_set.proofs.Places.{reads_alike, reads_12, stages_alike, absent_held}
use Rattle.working_set.proofs.Searches.{sought, Stands, walked, gathered}

-- ---- a test that comes out alike on both sides
pub by_test : {A : Type 0} (m : ℕ → Bool) (t : Bool) (z : A) (a b c : A) (qs rs : List ℕ) → Outcome m qs rs (a ≡ b) (a ≡ z)
    → Outcome m (cond t [] qs) (cond t [] rs) (cond t c a ≡ cond t c b) (cond t c a ≡ z)
by_test m true z a b c qs rs o = none m refl
by_test m false z a b c qs rs o = o

pub unless_test : {A : Type 0} (m : ℕ → Bool) (t : Bool) (z : A) (a b c : A) (qs rs : List ℕ) → Outcome m qs rs (a ≡ b) (a ≡ z)
    → Outcome m (cond t qs []) (cond t rs []) (cond t a c ≡ cond t b c) (cond t a c ≡ z)
unless_test m true z a b c qs rs o = o
unless_test m false z a b c qs rs o = none m refl

module _ (E : Edition) (parent staged : List ℕ) (s : ℕ) (work : List ℕ) (w : ℕ) (table : List ℕ) (t : ℕ)
    (part : PartOf (held_in E.size w work) (held_in E.size t table)) where
  abbrev W : Sources
  W = sources parent staged s work w

  abbrev T : Sources
  T = sources parent staged s table t

  abbrev m : ℕ → Bool
  m n = lacks E Box W n

  pub checked_alike : (n : ℕ) → m n ≡ false → row_checked E W n ≡ row_checked E T n
  checked_alike n h = ap check_row (reads_alike E parent staged s work w table t part Box n h)

  pub checked_12 : (n : ℕ) → m n ≡ true → row_checked E W n ≡ bad 12
  checked_12 n h = ap check_row (reads_12 E parent staged s work w table t part Box n h)

  lead_alike : (n : ℕ) → m n ≡ false → lead_at E W n ≡ lead_at E T n
  lead_alike n h = ap lead_of (checked_alike n h)

  lead_12 : (n : ℕ) → m n ≡ true → lead_at E W n ≡ Err 12
  lead_12 n h = ap lead_of (checked_12 n h)

  look_alike : (target : ℕ) (d : Bool) (n : ℕ) → m n ≡ false → look_at E W target d n ≡ look_at E T target d n
  look_alike target d n h = ap (λ (x : RowRead). look_of x target d) (checked_alike n h)

  look_12 : (target : ℕ) (d : Bool) (n : ℕ) → m n ≡ true → look_at E W target d n ≡ Fail 12
  look_12 target d n h = ap (λ (x : RowRead). look_of x target d) (checked_12 n h)

  -- ---- a spend or an unspend
  after_walk_alike : (capacity : ℕ) (x y : Walk) → x ≡ y → Stands m y → after_walk E W capacity x ≡ after_walk E T capacity y
  after_walk_alike capacity x (Hit n i) e k = rw e (stages_alike E parent staged s work w table t part capacity n i k)
  after_walk_alike capacity x (Ended seen) e k = rw e
  after_walk_alike capacity x (Failed code) e k = rw e

  low_done : (capacity target : ℕ) (d seen : Bool) (x : Low)
      → Outcome m (low_reads E W target d x) (low_reads E T target d x)
      (after_search E W capacity target d seen x ≡ after_search E T capacity target d seen x) (after_search E W capacity target d seen x ≡ refuse 12)
  low_done capacity target d seen (Ok low) =
      told m (λ a. after_walk_alike capacity _ _ a.0 a.1) (λ e. ap (after_walk E W capacity) e)
      (walked m (look_at E W target d) (look_at E T target d) (look_alike target d) (look_12 target d) low seen)
  low_done capacity target d seen (Err code) = none m refl

  rows_done : (capacity target : ℕ) (d : Bool) (spills : ℕ) (seen : Bool)
      → Outcome m (rows_reads E W target d spills) (rows_reads E T target d spills)
      (in_rows E W capacity target d spills seen ≡ in_rows E T capacity target d spills seen) (in_rows E W capacity target d spills seen ≡ refuse 12)
  unfolding rows_reads in_rows
  rows_done capacity target d spills seen =
      then_read m (search_reads (lead_at E W) target (spills - 0) 0 spills) (search_reads (lead_at E T) target (spills - 0) 0 spills)
      (low_reads E W target d (search_in (lead_at E W) target 0 spills)) (low_reads E T target d (search_in (lead_at E T) target 0 spills))
      (sought m (lead_at E W) (lead_at E T) lead_alike lead_12 target (spills - 0) 0 spills)
      (λ e. rw e (low_done capacity target d seen (search_in (lead_at E T) target 0 spills)))
      (λ e. ap (after_search E W capacity target d seen) e)

  order_done : (p : Position) (qs rs : List ℕ) (f g : Bool → Effect) → ((seen : Bool) → Outcome m qs rs (f seen ≡ g seen) (f seen ≡ refuse 12))
      → Outcome m (head_reads p qs) (head_reads p rs) (head_first p f ≡ head_first p g) (head_first p f ≡ refuse 12)
  order_done (At i) qs rs f g r = none m refl
  order_done Seen qs rs f g r = r true
  order_done Absent qs rs f g r = r false

  effect_done : (capacity : ℕ) (d : Direction) (target spills : ℤ) (zs : List ℤ)
      → Outcome m (flip_core_reads E W d target spills zs) (flip_core_reads E T d target spills zs)
      (flip_effect E W capacity d target spills zs ≡ flip_effect E T capacity d target spills zs) (flip_effect E W capacity d target spills zs ≡ refuse 12)
  unfolding flip_core_reads flip_effect in_order
  effect_done capacity d target spills zs =
      by_test m (leb 9223372036854775808 (nat_abs target)) (refuse 12) _ _ (refuse 9) _ _
      (unless_test m (order_ok zs) (refuse 12) _ _ (refuse 10) _ _
      (by_test m (is_negative spills) (refuse 12) _ _ (refuse 11) _ _
      (order_done (position (spends d) (nat_abs target) zs 0 false) _ _
      (λ seen. in_rows E W capacity (nat_abs target) (spends d) (nat_abs spills) seen) (λ seen. in_rows E T capacity (nat_abs target) (spends d) (nat_abs spills) seen)
      (λ seen. rows_done capacity (nat_abs target) (spends d) (nat_abs spills) seen))))

  -- ---- the tally
  tally_done : (spills : ℤ) (zs : List ℤ)
      → Outcome m (tally_core_reads E W spills zs) (tally_core_reads E T spills zs)
      (tally_core E W spills zs ≡ tally_core E T spills zs) (tally_core E W spills zs ≡ Err 12)
  unfolding tally_core_reads tally_core
  tally_done spills zs =
      unless_test m (order_ok zs) (Err 12) _ _ (Err 10) _ _
      (by_test m (is_negative spills) (Err 12) _ _ (Err 11) _ _
      (told m (λ e. ap (λ (x : RowRead). tally_over x zs) e) (λ e. ap (λ (x : RowRead). tally_over x zs) e)
      (gathered m (row_checked E W) (row_checked E T) checked_alike checked_12 0 (nat_abs spills))))

  -- ---- the page
  page_done : (spills : ℤ) (zs : List ℤ) (offset n : ℕ) (out : List ℤ)
      → Outcome m (cond (ltb page_places n) [] (tally_core_reads E W spills zs)) (cond (ltb page_places n) [] (tally_core_reads E T spills zs))
      (page_core E W spills zs offset n out ≡ page_core E T spills zs offset n out) (page_core E W spills zs offset n out ≡ paging (Err 12) out)
  unfolding tally_core_reads page_core
  page_done spills zs offset n out =
      by_test m (ltb page_places n) (paging (Err 12) out) _ _ (paging (Err 33) out) _ _
      (unless_test m (order_ok zs) (paging (Err 12) out) _ _ (paging (Err 10) out) _ _
      (by_test m (is_negative spills) (paging (Err 12) out) _ _ (paging (Err 11) out) _ _
      (told m (λ e. ap (λ (x : RowRead). page_over x zs offset n out) e) (λ e. ap (λ (x : RowRead). page_over x zs offset n out) e)
      (gathered m (row_checked E W) (row_checked E T) checked_alike checked_12 0 (nat_abs spills)))))

-- a row that was read is merged back alike, whatever the table
merge_alike : (E : Edition) (x : RowRead) (key : List ℕ) (spills : ℕ) (c : ListCounts) (staged : List ℕ) (wc : ListCounts) (work : List ℕ) (tc : ListCounts) (table : List ℕ) (e : ListCounts) (deleted : List ℕ) (head : List ℤ)
    → merge_of E x key spills (lists c staged wc work e deleted) head ≡ merge_of E x key spills (lists c staged tc table e deleted) head
unfolding merge_of merged
merge_alike E (bad code) key spills c staged wc work tc table e deleted head = refl
merge_alike E (good zs) key spills c staged wc work tc table e deleted head = refl

merge_12 : (E : Edition) (x : RowRead) (key : List ℕ) (spills : ℕ) (b : Lists) (head : List ℤ) → x ≡ bad 12
    → merge_of E x key spills b head ≡ popping (Err 12) head b.staged b.deleted
unfolding merge_of
merge_12 E x key spills b head e = rw e

module _ (E : Edition) where
  pub flip_law : FlipLaw E
  unfolding flip_reads flip_of flip_ok flip_core
  flip_law d parent h target c staged wc work tc table head k =
      rw (k.work_ok, k.table_ok)
      (unless_test (lacks E Box (sources parent staged c.count work wc.count)) (head_ok h head && (records_ok E.size E.limit c staged && true))
      (flipping (Err 12) head staged) _ _ (flipping (Err 25) head staged) _ _
      (told _ (λ e. ap (λ (x : Effect). done_by E x c head staged) e) (λ e. ap (λ (x : Effect). done_by E x c head staged) e)
      (effect_done E parent staged c.count work wc.count table tc.count k.part c.capacity d target h.spills (take h.len head))))

  pub tally_law : TallyLaw E
  unfolding tally_of_reads tally_of flip_ok
  tally_law parent h c staged wc work tc table head k =
      rw (k.work_ok, k.table_ok)
      (unless_test (lacks E Box (sources parent staged c.count work wc.count)) (head_ok h head && (records_ok E.size E.limit c staged && true))
      (Err 12) _ _ (Err 25) _ _
      (tally_done E parent staged c.count work wc.count table tc.count k.part h.spills (take h.len head)))

  pub page_law : PageLaw E
  unfolding page_of_reads page_of flip_ok
  page_law parent h c staged wc work tc table head offset n out k =
      rw (k.work_ok, k.table_ok)
      (unless_test (lacks E Box (sources parent staged c.count work wc.count)) ((head_ok h head && (records_ok E.size E.limit c staged && true)) && leb page_places (length out))
      (paging (Err 12) out) _ _ (paging (Err 25) out) _ _
      (page_done E parent staged c.count work wc.count table tc.count k.part h.spills (take h.len head) offset n out))

  pub pop_law : PopLaw E
  unfolding pop_reads pop_of pop_ok lists_ok pop_core unspill_of
  pop_law kind parent h c staged wc work tc table e deleted head k =
      rw (k.work_ok, k.table_ok)
      (unless_test m (head_ok h head && (records_ok E.size E.limit c staged && (true && keys_ok e deleted))) refused _ _ (popping (Err 25) head staged deleted) _ _
      (by_test m (is_negative h.spills) refused _ _ (popping (Err 11) head staged deleted) _ _
      (by_test m (ltb 0 h.len) refused _ _ _ _ _
      (by_test m (eqb (nat_abs h.spills) 0) refused _ _ (popping (Err 19) head staged deleted) _ _
      (by_read (m (nat_abs h.spills - 1)) refl)))))
    where
      m : ℕ → Bool
      m n = lacks E kind (sources parent staged c.count work wc.count) n

      refused : Popping
      refused = popping (Err 12) head staged deleted

      by_read : (t : Bool) → lacks E kind (sources parent staged c.count work wc.count) (nat_abs h.spills - 1) ≡ t
          → Outcome (lacks E kind (sources parent staged c.count work wc.count)) ((nat_abs h.spills - 1) ∷ []) ((nat_abs h.spills - 1) ∷ [])
          (unspill_of E kind parent (nat_abs h.spills - 1) (lists c staged wc work e deleted) head ≡ unspill_of E kind parent (nat_abs h.spills - 1) (lists c staged tc table e deleted) head)
          (unspill_of E kind parent (nat_abs h.spills - 1) (lists c staged wc work e deleted) head ≡ popping (Err 12) head staged deleted)
      by_read true q =
          stuck _ (nat_abs h.spills - 1) [] [] q
          (merge_12 E _ _ _ (lists c staged wc work e deleted) head (reads_12 E parent staged c.count work wc.count table tc.count k.part kind (nat_abs h.spills - 1) q))
      by_read false q =
          past _ (nat_abs h.spills - 1) [] [] q (none _
          (ap (λ (x : RowRead). merge_of E x (E.key kind parent (pos (nat_abs h.spills - 1))) (nat_abs h.spills - 1) (lists c staged wc work e deleted) head)
          (reads_alike E parent staged c.count work wc.count table tc.count k.part kind (nat_abs h.spills - 1) q)
          ∙ merge_alike E _ _ _ c staged wc work tc table e deleted head))

  -- ---- inspection
  shown_alike : (size : ℕ) (staged work table : List ℕ) (f g l : Option ℕ)
      → ((row : List ℕ) → held_by size work g ≡ held row → held_by size table l ≡ held row)
      → (held_by size staged f ≡ absent → held_by size work g ≡ absent → ⊥)
      → placed_row size staged work (place_of f g) ≡ placed_row size staged table (place_of f l)
  shown_alike size staged work table (Some i) g l p n = refl
  shown_alike size staged work table None (Some i) (Some j) p n = let q = p (row_at size i work) refl in cc
  shown_alike size staged work table None (Some i) None p n = absurd (absent_held refl (p (row_at size i work) refl))
  shown_alike size staged work table None None l p n = absurd (n refl refl)

  pub inspect_law : InspectLaw E
  unfolding inspect_row spills_ok held_in
  inspect_law c staged wc work tc table key k n =
      rw (k.work_ok, k.table_ok)
      (ap (λ (x : List ℕ). cond (records_ok E.size E.limit c staged && true) x [])
      (shown_alike E.size staged work table (find_key key (keys E.size c.count staged)) (find_key key (keys E.size wc.count work)) (find_key key (keys E.size tc.count table))
      (k.part key) n))
