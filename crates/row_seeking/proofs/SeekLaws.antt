-- Laws of looking for the row that is missing: a row that is missing reads as 12, so one that was read is there; and one law for each way out of a loop.
use Prim.Native.Nat.{ℕ, zero, suc, ◌+◌, ◌-◌, ◌/◌, ◌<◌, ◌≤◌}
use mathlib.Core.Path.{◌≡◌, refl, sym, ap, ◌∙◌}
use mathlib.Core.Bool.{Bool, true, false, cond}
use mathlib.Core.List.{List, [], ◌∷◌, ◌++◌}
use native.Mathlib.Omega.{arith}
use native.Mathlib.Nat.{div-lt_self}
use borrow.Author.Tests.{ltb-true, lt-ltb, le-ltb, le-leb, lt-leb}
use lib.Dec.{ltb}
use lib.IntN.{ℤ, pos}
use Rattle.index_types.specs.declared.RowEdition.{RowEdition}
use Rattle.records.specs.declared.Place.{Place}
use Rattle.records.specs.declared.Place.TheVariants as place
use Rattle.records.specs.Find.{locate_key}
use Rattle.segment_id.specs.declared.Kind.{Kind}
use Rattle.segment_id.specs.declared.Kind.TheVariants.{Box}
use Rattle.segment_id.specs.Key.{row_key}
use Rattle.buffer_core.specs.Answers.{Lead}
use Rattle.buffer_core.specs.declared.Look.{Look}
use Rattle.buffer_core.specs.declared.Look.TheVariants.{Take, Stop, Next, Fail}
use Rattle.buffer_core.specs.Edition.{Edition, RowRead, bad, good, edition_of, record_size}
use Rattle.buffer_core.specs.Spills.{Sources, sources, place_at, read_placed, spill_read}
use Rattle.buffer_core.specs.Flip.{check_row, lead_of, look_of, middle, row_checked, lead_at, look_at, search_in}
use Rattle.flip_search.proofs.SearchLaws.{search_step, search_end}
use Rattle.working_set.specs.Part.{is_missing, lacks}
use Rattle.working_set.specs.Reads.{Need, nothing, need, first_missing, half_reads, search_reads, walk_reads, row_reads, up_reads, low_reads}
use Rattle.std.specs.Prelude.{Option, Some, None, Ok, Err}
use Rattle.row_seeking.specs.Seeking.{told, among}
use Rattle.row_seeking.specs.Internal.{reads_between}

nope : {A : Type 0} → ◌≡◌ {A = ℕ} 0 1 → A
nope z = let e : ⊥ = omega arith in absurd e

-- ---- the place of a row

module _ (v : RowEdition) (kind : Kind) (parent staged : List ℕ) (m : ℕ) (table : List ℕ) (t number : ℕ) (key : List ℕ) (named_by : key ≡ row_key parent kind (pos number))
    (p : Place) (e : p ≡ locate_key (record_size v) key m staged t table) where
  abbrev at_place : Place → Option ℕ
  at_place q = told (cond (is_missing q) (need number) nothing)

  by_place : (r : Option ℕ) → r ≡ at_place p → r ≡ among (edition_of v) kind (sources parent staged m table t) (number ∷ [])
  unfolding place_at first_missing
  by_place r q = q ∙ ap at_place (e ∙ ap (λ (k : List ℕ). locate_key (record_size v) k m staged t table) named_by)

  pub asked_staged : (i : ℕ) → p ≡ place.Staged i → None ≡ among (edition_of v) kind (sources parent staged m table t) (number ∷ [])
  asked_staged i d = by_place None (rw d)

  pub asked_table : (i : ℕ) → p ≡ place.Table i → None ≡ among (edition_of v) kind (sources parent staged m table t) (number ∷ [])
  asked_table i d = by_place None (rw d)

  pub asked_missing : p ≡ place.Missing → Some number ≡ among (edition_of v) kind (sources parent staged m table t) (number ∷ [])
  asked_missing d = by_place (Some number) (rw d)

-- ---- a row that is missing reads as 12

lacks_12 : (E : Edition) (kind : Kind) (w : Sources) (n : ℕ) → lacks E kind w n ≡ true → spill_read E kind w n ≡ bad 12
unfolding spill_read
lacks_12 E kind w n = of_place (place_at E kind w n)
  where
    of_place : (p : Place) → is_missing p ≡ true → read_placed E kind w n p ≡ bad 12
    of_place (place.Staged i) e = nope (cc)
    of_place (place.Table i) e = nope (cc)
    of_place place.Missing e = refl

module _ (E : Edition) (w : Sources) where
  abbrev m : ℕ → Bool
  m n = lacks E Box w n

  abbrev f : ℕ → RowRead
  f n = row_checked E w n

  present : (n : ℕ) (zs : List ℤ) → f n ≡ good zs → m n ≡ false
  present n zs e = by_test (m n) refl
    where
      by_test : (b : Bool) → m n ≡ b → b ≡ false
      by_test false q = refl
      by_test true q = let z : bad 12 ≡ good zs = sym (ap check_row (lacks_12 E Box w n q)) ∙ e in nope (cc)

  -- ---- from spill 0 up

  pub up_turn : (n k x : ℕ) → lead_at E w n ≡ Ok x → first_missing m (up_reads f n (suc k)) ≡ first_missing m (up_reads f (n + 1) k)
  unfolding first_missing up_reads
  up_turn n k x e = by_row (f n) refl e
    where
      by_row : (y : RowRead) → f n ≡ y → lead_of y ≡ Ok x → cond (m n) (need n) (first_missing m (row_reads y (up_reads f (n + 1) k))) ≡ first_missing m (up_reads f (n + 1) k)
      by_row (good zs) q l = rw (present n zs q)
      by_row (bad c) q l = nope (cc)

  pub up_stop : (n k c : ℕ) → lead_at E w n ≡ Err c → first_missing m (up_reads f n (suc k)) ≡ first_missing m (n ∷ [])
  unfolding first_missing up_reads
  up_stop n k c e = by_row (f n) e
    where
      by_row : (y : RowRead) → lead_of y ≡ Err c → cond (m n) (need n) (first_missing m (row_reads y (up_reads f (n + 1) k))) ≡ cond (m n) (need n) nothing
      by_row (good zs) l = nope (cc)
      by_row (bad c) l = refl

  -- ---- the walk

  module _ (target : ℕ) (d : Bool) where
    abbrev g : ℕ → Look
    g n = look_at E w target d n

    shown : (n : ℕ) (l : Look) → g n ≡ l → ((c : ℕ) → l ≡ Fail c → ⊥) → m n ≡ false
    shown n l e h = by_row (f n) refl e
      where
        by_row : (y : RowRead) → f n ≡ y → look_of y target d ≡ l → m n ≡ false
        by_row (good zs) q k = present n zs q
        by_row (bad c) q k = absurd (h c (sym k))

    pub walk_turn : (n : ℕ) (s : Bool) → g n ≡ Next s → first_missing m (walk_reads g (suc n)) ≡ first_missing m (walk_reads g n)
    unfolding first_missing walk_reads
    walk_turn n s e = rw (shown n (Next s) e (λ c z. nope (cc)), e)

    pub walk_taken : (n i : ℕ) → g n ≡ Take i → first_missing m (walk_reads g (suc n)) ≡ nothing
    unfolding first_missing walk_reads
    walk_taken n i e = rw (shown n (Take i) e (λ c z. nope (cc)), e)

    pub walk_stopped : (n : ℕ) (s : Bool) → g n ≡ Stop s → first_missing m (walk_reads g (suc n)) ≡ nothing
    unfolding first_missing walk_reads
    walk_stopped n s e = rw (shown n (Stop s) e (λ c z. nope (cc)), e)

    pub walk_failed : (n c : ℕ) → g n ≡ Fail c → first_missing m (walk_reads g (suc n)) ≡ first_missing m (n ∷ [])
    unfolding first_missing walk_reads
    walk_failed n c e = rw e

-- ---- the halving

half_less : (low high : ℕ) → low < high → (high - low) / 2 < high - low
half_less low high h = div-lt_self (omega arith) (omega arith)

fuel_by : (f : ℕ → Lead) (t k m low high : ℕ) → high - low ≤ suc k → high - low ≤ suc m
    → ((l u : ℕ) → u - l ≤ k → u - l ≤ m → search_reads f t k l u ≡ search_reads f t m l u)
    → (b : Bool) → ltb low high ≡ b → search_reads f t (suc k) low high ≡ search_reads f t (suc m) low high
unfolding search_reads
fuel_by f t k m low high h g ih true e =
    let l : low < high = ltb-true low high e in
    let s = half_less low high l in
    rw (ih (middle low high + 1) high (omega arith) (omega arith), ih low (middle low high) (omega arith) (omega arith))
fuel_by f t k m low high h g ih false e = rw e

same_fuel : (f : ℕ → Lead) (t k m low high : ℕ) → high - low ≤ k → high - low ≤ m → search_reads f t k low high ≡ search_reads f t m low high
unfolding search_reads
same_fuel f t zero zero low high h g = refl
same_fuel f t zero (suc m) low high h g = rw (le-ltb low high (omega arith))
same_fuel f t (suc k) zero low high h g = rw (le-ltb low high (omega arith))
same_fuel f t (suc k) (suc m) low high h g = fuel_by f t k m low high h g (λ l u p q. same_fuel f t k m l u p q) (ltb low high) refl

one_step : (f : ℕ → Lead) (t k low high : ℕ) → low < high
    → search_reads f t (suc k) low high ≡ middle low high ∷ half_reads (f (middle low high)) t (search_reads f t k (middle low high + 1) high) (search_reads f t k low (middle low high))
unfolding search_reads
one_step f t k low high h = rw (lt-ltb low high h)

abbrev reads_in : (ℕ → Lead) → (t low high : ℕ) → List ℕ
reads_in f t low high = search_reads f t (high - low) low high

reads_step : (f : ℕ → Lead) (t low high : ℕ) → low < high
    → reads_in f t low high ≡ middle low high ∷ half_reads (f (middle low high)) t (reads_in f t (middle low high + 1) high) (reads_in f t low (middle low high))
reads_step f t low high h =
    let s = half_less low high h in
    let k : ℕ = high - low - 1 in
    same_fuel f t (high - low) (suc k) low high (omega arith) (omega arith) ∙ one_step f t k low high h
    ∙ rw (
      same_fuel f t k (high - (middle low high + 1)) (middle low high + 1) high (omega arith) (omega arith),
      same_fuel f t k (middle low high - low) low (middle low high) (omega arith) (omega arith),
    )

module _ (E : Edition) (w : Sources) (target : ℕ) (d : Bool) (low high : ℕ) where
  abbrev lead : ℕ → Lead
  lead n = lead_at E w n

  abbrev missing : List ℕ → Need
  missing l = first_missing (lacks E Box w) l

  read_there : (n x : ℕ) → lead n ≡ Ok x → lacks E Box w n ≡ false
  read_there n x e = by_row (row_checked E w n) refl e
    where
      by_row : (y : RowRead) → row_checked E w n ≡ y → lead_of y ≡ Ok x → lacks E Box w n ≡ false
      by_row (good zs) q l = present E w n zs q
      by_row (bad c) q l = nope (cc)

  module _ (h : low < high) where
    pub between_up : (x : ℕ) → lead (middle low high) ≡ Ok x → x ≤ target → missing (reads_between E w target d low high) ≡ missing (reads_between E w target d (middle low high + 1) high)
    unfolding reads_between first_missing
    between_up x e l = rw (reads_step lead target low high h, search_step lead target low high h, read_there (middle low high) x e, e, le-leb x target l)

    pub between_down : (x : ℕ) → lead (middle low high) ≡ Ok x → target < x → missing (reads_between E w target d low high) ≡ missing (reads_between E w target d low (middle low high))
    unfolding reads_between first_missing
    between_down x e l = rw (reads_step lead target low high h, search_step lead target low high h, read_there (middle low high) x e, e, lt-leb x target l)

    pub between_bad : (c : ℕ) → lead (middle low high) ≡ Err c → missing (reads_between E w target d low high) ≡ missing (middle low high ∷ [])
    unfolding reads_between first_missing
    between_bad c e = rw (reads_step lead target low high h, search_step lead target low high h, e)

  pub between_end : high ≤ low → reads_between E w target d low high ≡ walk_reads (look_at E w target d) low
  unfolding reads_between search_reads
  between_end h = let e : high - low ≡ 0 = omega arith in ap (λ (k : ℕ). search_reads lead target k low high ++ low_reads E w target d (search_in lead target low high)) e ∙ ap (low_reads E w target d) (sym (search_end lead target low high h))

-- ---- as the loops cite them: r is what a local holds of the row, s of the row's look

module _ (E : Edition) (w : Sources) (n spills : ℕ) where
  abbrev upward : ℕ → ℕ → Option ℕ
  upward a k = among E Box w (up_reads (row_checked E w) a k)

  one_more : n < spills → spills - n ≡ suc (spills - (n + 1))
  one_more h = omega arith

  module _ (h : n < spills) (r : Lead) (e : r ≡ lead_at E w n) where
    pub up_goes : (x : ℕ) → r ≡ Ok x → upward n (spills - n) ≡ upward (n + 1) (spills - (n + 1))
    up_goes x q = ap (upward n) (one_more h) ∙ ap told (up_turn E w n (spills - (n + 1)) x (sym e ∙ q))

    pub up_asks : (c : ℕ) → r ≡ Err c → among E Box w (n ∷ []) ≡ upward n (spills - n)
    up_asks c q = sym (ap (upward n) (one_more h) ∙ ap told (up_stop E w n (spills - (n + 1)) c (sym e ∙ q)))

  pub up_ends : spills ≤ n → None ≡ upward n (spills - n)
  unfolding up_reads first_missing
  up_ends h = let e : spills - n ≡ 0 = omega arith in rw e

module _ (E : Edition) (w : Sources) (target : ℕ) (d : Bool) (low : ℕ) where
  abbrev downward : ℕ → Option ℕ
  downward k = among E Box w (walk_reads (look_at E w target d) k)

  module _ (h : 0 < low) (r : Look) (e : r ≡ look_at E w target d (low - 1)) where
    above : downward low ≡ downward (suc (low - 1))
    above = let q : low ≡ suc (low - 1) = omega arith in ap downward q

    pub down_goes : (s : Bool) → r ≡ Next s → downward low ≡ downward (low - 1)
    down_goes s q = above ∙ ap told (walk_turn E w target d (low - 1) s (sym e ∙ q))

    pub down_takes : (i : ℕ) → r ≡ Take i → None ≡ downward low
    down_takes i q = sym (above ∙ ap told (walk_taken E w target d (low - 1) i (sym e ∙ q)))

    pub down_stops : (s : Bool) → r ≡ Stop s → None ≡ downward low
    down_stops s q = sym (above ∙ ap told (walk_stopped E w target d (low - 1) s (sym e ∙ q)))

    pub down_asks : (c : ℕ) → r ≡ Fail c → among E Box w ((low - 1) ∷ []) ≡ downward low
    down_asks c q = sym (above ∙ ap told (walk_failed E w target d (low - 1) c (sym e ∙ q)))

  pub down_ends : low ≤ 0 → None ≡ downward low
  unfolding walk_reads first_missing
  down_ends h = let e : low ≡ 0 = omega arith in rw e

module _ (E : Edition) (w : Sources) (target : ℕ) (d : Bool) (low high : ℕ) where
  abbrev inside : ℕ → ℕ → Option ℕ
  inside a b = among E Box w (reads_between E w target d a b)

  module _ (h : low < high) (r : Lead) (e : r ≡ lead_at E w (middle low high)) where
    pub inside_up : (x : ℕ) → r ≡ Ok x → x ≤ target → inside low high ≡ inside (middle low high + 1) high
    inside_up x q l = ap told (between_up E w target d low high h x (sym e ∙ q) l)

    pub inside_down : (x : ℕ) → r ≡ Ok x → target < x → inside low high ≡ inside low (middle low high)
    inside_down x q l = ap told (between_down E w target d low high h x (sym e ∙ q) l)

    pub inside_asks : (c : ℕ) → r ≡ Err c → among E Box w (middle low high ∷ []) ≡ inside low high
    inside_asks c q = sym (ap told (between_bad E w target d low high h c (sym e ∙ q)))

  pub inside_ends : high ≤ low → among E Box w (walk_reads (look_at E w target d) low) ≡ inside low high
  inside_ends h = sym (ap (among E Box w) (between_end E w target d low high h))
