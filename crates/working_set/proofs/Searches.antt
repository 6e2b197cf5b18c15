-- The halving, the walk and the rows from spill 0 up, over rows of which some are missing: as over all rows, or 12 at the first that is missing.
use Prim.Native.Nat.{ℕ, zero, suc, ◌+◌, ◌-◌, ◌≤◌}
use native.Mathlib.Omega.{arith}
use lib.ListN.{length}
use borrow.Author.Tests.{ltb-true}
use mathlib.Core.Path.{◌≡◌, refl, ap}
use mathlib.Core.Bool.{Bool, true, false, cond, ◌||◌}
use mathlib.Core.List.{List, [], ◌∷◌}
use lib.Dec.{ltb, leb}
use Rattle.std.specs.Prelude.{Ok, Err}
use Rattle.buffer_core.specs.Answers.{Lead}
use Rattle.buffer_core.specs.Answers.{Low}
use Rattle.buffer_core.specs.declared.Look.{Look}
use Rattle.buffer_core.specs.declared.Look.TheVariants.{Take, Stop, Next, Fail}
use Rattle.buffer_core.specs.declared.Walk.{Walk}
use Rattle.buffer_core.specs.declared.Walk.TheVariants.{Hit, Ended, Failed}
use Rattle.buffer_core.specs.Edition.{RowRead, bad, good}
use Rattle.buffer_core.specs.Flip.{half, middle, search_by, walk_by, walk_from}
use Rattle.buffer_core.specs.Rows.{then_more, then_rows, rows_up}
use Rattle.working_set.specs.Reads.{half_reads, search_reads, look_reads, walk_reads, row_reads, up_reads}
use Rattle.working_set.specs.Laws.{Outcome, pow2, HalvingLaw}
use Rattle.working_set.proofs.Outcomes.{none, stuck, past, told}

-- ---- the halving
module _ (m : ℕ → Bool) where
  abbrev Halved : (qs rs : List ℕ) (a b : Low) → Type 0
  Halved qs rs a b = Outcome m qs rs (a ≡ b) (a ≡ Err 12)

  by_half : (t : Bool) (u v l k : List ℕ) (a b c d : Low) → Halved u v a b → Halved l k c d → Halved (cond t u l) (cond t v k) (cond t a c) (cond t b d)
  by_half true u v l k a b c d x y = x
  by_half false u v l k a b c d x y = y

  by_lead : (x : Lead) (target : ℕ) (u v l k : List ℕ) (a b c d : Low) → Halved u v a b → Halved l k c d
      → Halved (half_reads x target u l) (half_reads x target v k) (half x target a c) (half x target b d)
  by_lead (Ok x) target u v l k a b c d p q = by_half (leb x target) u v l k a b c d p q
  by_lead (Err code) target u v l k a b c d p q = none m refl

  by_row : (n : ℕ) (x y : Lead) (target : ℕ) (u v l k : List ℕ) (a b c d : Low) → (t : Bool) → m n ≡ t → (m n ≡ false → x ≡ y) → (m n ≡ true → x ≡ Err 12)
      → Halved u v a b → Halved l k c d → Halved (n ∷ half_reads x target u l) (n ∷ half_reads y target v k) (half x target a c) (half y target b d)
  by_row n x y target u v l k a b c d true e alike gone p q = stuck m n (half_reads x target u l) (half_reads y target v k) e (rw (gone e))
  by_row n x y target u v l k a b c d false e alike gone p q =
      let h = alike e in
      rw h (past m n (half_reads y target u l) (half_reads y target v k) e (by_lead y target u v l k a b c d p q))

  by_range : (t : Bool) (u v : List ℕ) (a b c : Low) → Halved u v a b → Halved (cond t u []) (cond t v []) (cond t a c) (cond t b c)
  by_range true u v a b c x = x
  by_range false u v a b c x = none m refl

  module _ (f g : ℕ → Lead) (alike : (n : ℕ) → m n ≡ false → f n ≡ g n) (gone : (n : ℕ) → m n ≡ true → f n ≡ Err 12) (target : ℕ) where
    pub sought : (k low high : ℕ)
        → Outcome m (search_reads f target k low high) (search_reads g target k low high)
        (search_by f target k low high ≡ search_by g target k low high) (search_by f target k low high ≡ Err 12)
    unfolding search_reads search_by
    sought zero low high = none m refl
    sought (suc k) low high =
        let n : ℕ = middle low high in
        by_range (ltb low high) _ _ _ _ (Ok low)
        (by_row n (f n) (g n) target _ _ _ _ _ _ _ _ (m n) refl (alike n) (gone n) (sought k (n + 1) high) (sought k low n))

-- ---- how much the halving reads
half_length : (x : Lead) (target j : ℕ) (u l : List ℕ) → length u ≤ j → length l ≤ j → length (half_reads x target u l) ≤ j
half_length (Ok x) target j u l a b = by_leb (leb x target)
  where
    by_leb : (t : Bool) → length (cond t u l) ≤ j
    by_leb true = a
    by_leb false = b
half_length (Err code) target j u l a b = omega arith

pub halving_law : HalvingLaw
unfolding search_reads pow2
halving_law f target zero low high j h = omega arith
halving_law f target (suc k) low high zero h = by_range (ltb low high) refl
  where
    by_range : (t : Bool) → ltb low high ≡ t
        → length (cond t (middle low high ∷ half_reads (f (middle low high)) target (search_reads f target k (middle low high + 1) high) (search_reads f target k low (middle low high))) []) ≤ 0
    by_range true e = absurd (omega (arith, ltb-true low high e))
    by_range false e = omega arith
halving_law f target (suc k) low high (suc j) h =
    by_range (ltb low high) refl (λ e. halving_law f target k (middle low high + 1) high j (omega (arith, ltb-true low high e))) (λ e. halving_law f target k low (middle low high) j (omega (arith, ltb-true low high e)))
  where
    by_range : (t : Bool) → ltb low high ≡ t
        → (ltb low high ≡ true → length (search_reads f target k (middle low high + 1) high) ≤ j)
        → (ltb low high ≡ true → length (search_reads f target k low (middle low high)) ≤ j)
        → length (cond t (middle low high ∷ half_reads (f (middle low high)) target (search_reads f target k (middle low high + 1) high) (search_reads f target k low (middle low high))) []) ≤ suc j
    by_range true e a b = omega (arith, half_length (f (middle low high)) target j (search_reads f target k (middle low high + 1) high) (search_reads f target k low (middle low high)) (a e) (b e))
    by_range false e a b = omega arith

-- ---- the walk
abbrev pub Stands : (ℕ → Bool) → Walk → Type 0
Stands m (Hit n i) = m n ≡ false
Stands m (Ended seen) = Unit {0}
Stands m (Failed code) = Unit {0}

module _ (m : ℕ → Bool) where
  abbrev Walked : (qs rs : List ℕ) (a b : Walk) → Type 0
  Walked qs rs a b = Outcome m qs rs ((a ≡ b) × Stands m b) (a ≡ Failed 12)

  by_look : (x : Look) (n : ℕ) (seen : Bool) (u v : List ℕ) (f g : Bool → Walk) → m n ≡ false → ((s : Bool) → Walked u v (f s) (g s))
      → Walked (look_reads x u) (look_reads x v) (walk_by x n seen f) (walk_by x n seen g)
  by_look (Take i) n seen u v f g e r = none m (refl, e)
  by_look (Stop s) n seen u v f g e r = none m (refl, tt)
  by_look (Next s) n seen u v f g e r = r (seen || s)
  by_look (Fail code) n seen u v f g e r = none m (refl, tt)

  by_step : (x y : Look) (n : ℕ) (seen : Bool) (u v : List ℕ) (f g : Bool → Walk) → (t : Bool) → m n ≡ t → (m n ≡ false → x ≡ y) → (m n ≡ true → x ≡ Fail 12)
      → ((s : Bool) → Walked u v (f s) (g s)) → Walked (n ∷ look_reads x u) (n ∷ look_reads y v) (walk_by x n seen f) (walk_by y n seen g)
  by_step x y n seen u v f g true e alike gone r = stuck m n (look_reads x u) (look_reads y v) e (rw (gone e))
  by_step x y n seen u v f g false e alike gone r =
      let h = alike e in
      rw h (past m n (look_reads y u) (look_reads y v) e (by_look y n seen u v f g e r))

  module _ (f g : ℕ → Look) (alike : (n : ℕ) → m n ≡ false → f n ≡ g n) (gone : (n : ℕ) → m n ≡ true → f n ≡ Fail 12) where
    pub walked : (n : ℕ) (seen : Bool)
        → Outcome m (walk_reads f n) (walk_reads g n) ((walk_from f n seen ≡ walk_from g n seen) × Stands m (walk_from g n seen)) (walk_from f n seen ≡ Failed 12)
    unfolding walk_reads walk_from
    walked zero seen = none m (refl, tt)
    walked (suc n) seen =
        by_step (f n) (g n) n seen (walk_reads f n) (walk_reads g n) (λ s. walk_from f n s) (λ s. walk_from g n s) (m n) refl (alike n) (gone n) (λ s. walked n s)

-- ---- the rows from spill 0 up
module _ (m : ℕ → Bool) where
  abbrev Gathered : (qs rs : List ℕ) (a b : RowRead) → Type 0
  Gathered qs rs a b = Outcome m qs rs (a ≡ b) (a ≡ bad 12)

  by_read : (x : RowRead) (qs rs : List ℕ) (a b : RowRead) → Gathered qs rs a b → Gathered (row_reads x qs) (row_reads x rs) (then_rows x a) (then_rows x b)
  by_read (bad code) qs rs a b r = none m refl
  by_read (good zs) qs rs a b r = told m (λ e. ap (then_more zs) e) (λ e. ap (then_more zs) e) r

  by_one : (x y : RowRead) (n : ℕ) (qs rs : List ℕ) (a b : RowRead) → (t : Bool) → m n ≡ t → (m n ≡ false → x ≡ y) → (m n ≡ true → x ≡ bad 12)
      → Gathered qs rs a b → Gathered (n ∷ row_reads x qs) (n ∷ row_reads y rs) (then_rows x a) (then_rows y b)
  by_one x y n qs rs a b true e alike gone r = stuck m n (row_reads x qs) (row_reads y rs) e (rw (gone e))
  by_one x y n qs rs a b false e alike gone r =
      let h = alike e in
      rw h (past m n (row_reads y qs) (row_reads y rs) e (by_read y qs rs a b r))

  module _ (f g : ℕ → RowRead) (alike : (n : ℕ) → m n ≡ false → f n ≡ g n) (gone : (n : ℕ) → m n ≡ true → f n ≡ bad 12) where
    pub gathered : (n k : ℕ) → Outcome m (up_reads f n k) (up_reads g n k) (rows_up f n k ≡ rows_up g n k) (rows_up f n k ≡ bad 12)
    unfolding up_reads rows_up
    gathered n zero = none m refl
    gathered n (suc k) =
        by_one (f n) (g n) n (up_reads f (n + 1) k) (up_reads g (n + 1) k) (rows_up f (n + 1) k) (rows_up g (n + 1) k) (m n) refl (alike n) (gone n) (gathered (n + 1) k)
