-- Which spill numbers a call reads, in the order in which it reads them, and the first of them whose row is missing: the one that the call refuses 12 for,
-- and that is to be fetched. Each definition follows that of its call (`buffer_core`, Pop, Flip and Tally) and says what is read instead of what is answered.
use Rattle.std.specs.Prelude.{ℕ, zero, suc, ◌+◌, ◌-◌, Bool, false, cond, ◌&&◌, ◌⊎◌, ◌≡◌, List, [], ◌∷◌, ◌++◌, eqb, ltb, leb, ℤ, nat_abs, take, length, Ok, Err}
use Rattle.entries.specs.Unspent.{page_places}
use Rattle.signed.specs.Sign.{is_negative}
use Rattle.entries.specs.Order.{order_ok}
use Rattle.entries.specs.Flip.{position}
use Rattle.entries.specs.declared.Position.{Position}
use Rattle.entries.specs.declared.Position.TheVariants.{At, Seen, Absent}
use Rattle.index_types.specs.declared.ListCounts.{ListCounts}
use Rattle.index_types.specs.declared.HeadCounts.{HeadCounts}
use Rattle.buffer_core.specs.declared.Direction.{Direction}
use Rattle.buffer_core.specs.Answers.{Lead}
use Rattle.buffer_core.specs.Answers.{Low}
use Rattle.buffer_core.specs.declared.Look.{Look}
use Rattle.buffer_core.specs.declared.Look.TheVariants.{Take, Stop, Next, Fail}
use Rattle.buffer_core.specs.Edition.{Edition, RowRead, bad, good}
use Rattle.buffer_core.specs.Spills.{Sources, sources}
use Rattle.buffer_core.specs.Pop.{Lists, pop_ok}
use Rattle.buffer_core.specs.Flip.{middle, search_in, lead_at, look_at, row_checked, spends, flip_ok}

-- ---- the first that is missing
pub data Need : Type 0 where
  nothing : Need
  need : ℕ → Need

unfoldable pub first_missing : (missing : ℕ → Bool) → List ℕ → Need
first_missing m [] = nothing
first_missing m (n ∷ ns) = cond (m n) (need n) (first_missing m ns)

abbrev pub In : ℕ → List ℕ → Type 0
In n [] = ⊥
In n (x ∷ xs) = (x ≡ n) ⊎ In n xs

-- how many of them are missing
unfoldable pub missing_of : (missing : ℕ → Bool) → List ℕ → ℕ
missing_of m [] = 0
missing_of m (n ∷ ns) = cond (m n) (suc (missing_of m ns)) (missing_of m ns)

-- ---- the halving
abbrev pub half_reads : Lead → (target : ℕ) → (upper lower : List ℕ) → List ℕ
half_reads (Ok x) target upper lower = cond (leb x target) upper lower
half_reads (Err code) target upper lower = []

unfoldable pub search_reads : (ℕ → Lead) → (target : ℕ) → ℕ → (low high : ℕ) → List ℕ
search_reads f target zero low high = []
search_reads f target (suc k) low high =
    cond (ltb low high)
    (middle low high ∷ half_reads (f (middle low high)) target (search_reads f target k (middle low high + 1) high) (search_reads f target k low (middle low high)))
    []

-- ---- the walk
abbrev pub look_reads : Look → List ℕ → List ℕ
look_reads (Take i) rest = []
look_reads (Stop s) rest = []
look_reads (Next s) rest = rest
look_reads (Fail code) rest = []

unfoldable pub walk_reads : (ℕ → Look) → ℕ → List ℕ
walk_reads f zero = []
walk_reads f (suc n) = n ∷ look_reads (f n) (walk_reads f n)

-- ---- the rows from spill 0 up
abbrev pub row_reads : RowRead → List ℕ → List ℕ
row_reads (bad code) rest = []
row_reads (good zs) rest = rest

unfoldable pub up_reads : (ℕ → RowRead) → (n k : ℕ) → List ℕ
up_reads f n zero = []
up_reads f n (suc k) = n ∷ row_reads (f n) (up_reads f (n + 1) k)

abbrev pub head_reads : Position → List ℕ → List ℕ
head_reads (At i) rows = []
head_reads Seen rows = rows
head_reads Absent rows = rows

module _ (E : Edition) where
  abbrev pub low_reads : Sources → (target : ℕ) → (spend : Bool) → Low → List ℕ
  low_reads w target d (Ok low) = walk_reads (look_at E w target d) low
  low_reads w target d (Err code) = []

  unfoldable pub rows_reads : Sources → (target : ℕ) → (spend : Bool) → (spills : ℕ) → List ℕ
  rows_reads w target d spills =
      search_reads (lead_at E w) target (spills - 0) 0 spills ++ low_reads w target d (search_in (lead_at E w) target 0 spills)

  unfoldable pub flip_core_reads : Sources → Direction → (target spills : ℤ) → List ℤ → List ℕ
  flip_core_reads w d target spills zs =
      cond (leb 9223372036854775808 (nat_abs target)) []
      (cond (order_ok zs)
      (cond (is_negative spills) []
      (head_reads (position (spends d) (nat_abs target) zs 0 false) (rows_reads w (nat_abs target) (spends d) (nat_abs spills))))
      [])

  -- the spill numbers that a spend or an unspend reads
  unfoldable pub flip_reads : Direction → (parent : List ℕ) → HeadCounts → ℤ → ListCounts → (staged : List ℕ) → ListCounts → (table : List ℕ) → List ℤ → List ℕ
  flip_reads d parent h target c staged e table head =
      cond (flip_ok E h c staged e table head)
      (flip_core_reads (sources parent staged c.count table e.count) d target h.spills (take h.len head)) []

  -- the spill number that a pop reads
  unfoldable pub pop_reads : HeadCounts → Lists → List ℤ → List ℕ
  pop_reads h b head =
      cond (pop_ok E h b head)
      (cond (is_negative h.spills) []
      (cond (ltb 0 h.len) []
      (cond (eqb (nat_abs h.spills) 0) []
      ((nat_abs h.spills - 1) ∷ []))))
      []

  unfoldable pub tally_core_reads : Sources → (spills : ℤ) → List ℤ → List ℕ
  tally_core_reads w spills zs = cond (order_ok zs) (cond (is_negative spills) [] (up_reads (row_checked E w) 0 (nat_abs spills))) []

  -- the spill numbers that a tally reads
  unfoldable pub tally_of_reads : (parent : List ℕ) → HeadCounts → ListCounts → (staged : List ℕ) → ListCounts → (table : List ℕ) → List ℤ → List ℕ
  tally_of_reads parent h c staged e table head =
      cond (flip_ok E h c staged e table head)
      (tally_core_reads (sources parent staged c.count table e.count) h.spills (take h.len head)) []

  -- the spill numbers that a page reads: those of a tally, where its length and its list pass
  unfoldable pub page_of_reads : (parent : List ℕ) → HeadCounts → ListCounts → (staged : List ℕ) → ListCounts → (table : List ℕ) → List ℤ → (n : ℕ) → List ℤ → List ℕ
  page_of_reads parent h c staged e table head n out =
      cond (flip_ok E h c staged e table head && leb page_places (length out))
      (cond (ltb page_places n) [] (tally_core_reads (sources parent staged c.count table e.count) h.spills (take h.len head))) []
