-- A row that a call reads is one of its parent's spills, so the number of a missing one fits 31 bits.
use Prim.Native.Nat.{ℕ, zero, suc, ◌+◌, ◌-◌, ◌<◌, ◌≤◌}
use mathlib.Core.Path.{◌≡◌, refl, sym, ap, ◌∙◌}
use mathlib.Core.Logic.{inl, inr}
use mathlib.Core.Bool.{Bool, true, false, cond, ◌&&◌}
use mathlib.Core.List.{List, [], ◌∷◌, ◌++◌}
use native.Mathlib.Omega.{arith}
use borrow.Author.Tests.{ltb-true}
use lib.Dec.{eqb, ltb, leb}
use lib.IntN.{ℤ, pos, negsuc, nat_abs}
use lib.ListN.{length, take}
use lib.Signed.{mag}
use mir.Syntax.{w32}
use mir.Val.{SFits}
use Rattle.signed.specs.Sign.{is_negative}
use Rattle.entries.specs.Order.{order_ok}
use Rattle.entries.specs.Unspent.{page_places}
use Rattle.entries.specs.Flip.{position}
use Rattle.entries.specs.declared.Position.{Position}
use Rattle.entries.specs.declared.Position.TheVariants.{At, Seen, Absent}
use Rattle.index_types.specs.declared.ListCounts.{ListCounts}
use Rattle.index_types.specs.declared.HeadCounts.{HeadCounts}
use Rattle.std.specs.Prelude.{Option, Ok, Err}
use Rattle.segment_id.specs.declared.Kind.{Kind}
use Rattle.segment_id.specs.declared.Kind.TheVariants.{Box}
use Rattle.buffer_core.specs.declared.Direction.{Direction}
use Rattle.buffer_core.specs.Answers.{Lead}
use Rattle.buffer_core.specs.Answers.{Low}
use Rattle.buffer_core.specs.declared.Look.{Look}
use Rattle.buffer_core.specs.declared.Look.TheVariants.{Take, Stop, Next, Fail}
use Rattle.buffer_core.specs.Edition.{Edition, RowRead, bad, good}
use Rattle.buffer_core.specs.Spills.{Sources, sources}
use Rattle.buffer_core.specs.Pop.{Lists, pop_ok}
use Rattle.buffer_core.specs.Flip.{middle, search_in, lead_at, look_at, row_checked, spends, flip_ok}
use Rattle.flip_search.proofs.SearchLaws.{middle_below, search_most}
use Rattle.working_set.specs.Reads.{Need, nothing, need, first_missing, half_reads, search_reads, look_reads, walk_reads, row_reads, up_reads, head_reads, low_reads, rows_reads, flip_core_reads, flip_reads, pop_reads, tally_core_reads, tally_of_reads, page_of_reads}
use Rattle.working_set.specs.Part.{lacks}
use Rattle.row_seeking.specs.Seeking.{told, among}
use Rattle.missing_outs.specs.Internal.{Numbered}

-- every number of a list is below a bound
pub data Below (b : ℕ) : List ℕ → Type 0 where
  none : Below b []
  more : {n : ℕ} {ns : List ℕ} → n < b → Below b ns → Below b (n ∷ ns)

pub wider : (a b : ℕ) (ns : List ℕ) → a ≤ b → Below a ns → Below b ns
wider a b [] h none = none
wider a b (n ∷ ns) h (more q t) = more {n = n} (omega arith) (wider a b ns h t)

both : (b : ℕ) (ns ms : List ℕ) → Below b ns → Below b ms → Below b (ns ++ ms)
both b [] ms none q = q
both b (n ∷ ns) ms (more p t) q = more p (both b ns ms t q)

-- where a test leaves nothing to read
pub on_true : (b : ℕ) (t : Bool) (ns : List ℕ) → Below b ns → Below b (cond t ns [])
on_true b true ns h = h
on_true b false ns h = none

pub on_false : (b : ℕ) (t : Bool) (ns : List ℕ) → Below b ns → Below b (cond t [] ns)
on_false b true ns h = none
on_false b false ns h = h

-- ---- the halving, the walk, the rows from spill 0 up
half_below : (b : ℕ) (x : Lead) (target : ℕ) (u l : List ℕ) → Below b u → Below b l → Below b (half_reads x target u l)
half_below b (Ok x) target u l p q = by_test (leb x target)
  where
    by_test : (t : Bool) → Below b (cond t u l)
    by_test true = p
    by_test false = q
half_below b (Err code) target u l p q = none

search_below : (f : ℕ → Lead) (target k low high : ℕ) → Below high (search_reads f target k low high)
unfolding search_reads
search_below f target zero low high = none
search_below f target (suc k) low high = by_test (ltb low high) refl (search_below f target k (middle low high + 1) high) (search_below f target k low (middle low high))
  where
    by_test : (t : Bool) → ltb low high ≡ t → Below high (search_reads f target k (middle low high + 1) high) → Below (middle low high) (search_reads f target k low (middle low high))
        → Below high (cond t (middle low high ∷ half_reads (f (middle low high)) target (search_reads f target k (middle low high + 1) high) (search_reads f target k low (middle low high))) [])
    by_test true e p q =
        let m = middle_below low high (ltb-true low high e) in
        more m (half_below high (f (middle low high)) target _ _ p (wider (middle low high) high _ (omega arith) q))
    by_test false e p q = none

pub walk_below : (f : ℕ → Look) (n : ℕ) → Below n (walk_reads f n)
unfolding walk_reads
walk_below f zero = none
walk_below f (suc n) = more {n = n} (omega arith) (by_look (f n) (wider n (suc n) (walk_reads f n) (omega arith) (walk_below f n)))
  where
    by_look : (x : Look) → Below (suc n) (walk_reads f n) → Below (suc n) (look_reads x (walk_reads f n))
    by_look (Take i) h = none
    by_look (Stop s) h = none
    by_look (Next s) h = h
    by_look (Fail code) h = none

up_below : (f : ℕ → RowRead) (n k : ℕ) → Below (n + k) (up_reads f n k)
unfolding up_reads
up_below f n zero = none
up_below f n (suc k) = more {n = n} (omega arith) (by_row (f n) (wider (n + 1 + k) (n + suc k) _ (omega arith) (up_below f (n + 1) k)))
  where
    by_row : (x : RowRead) → Below (n + suc k) (up_reads f (n + 1) k) → Below (n + suc k) (row_reads x (up_reads f (n + 1) k))
    by_row (bad code) h = none
    by_row (good zs) h = h

-- ---- the calls
pub head_below : (b : ℕ) (p : Position) (ns : List ℕ) → Below b ns → Below b (head_reads p ns)
head_below b (At i) ns h = none
head_below b Seen ns h = h
head_below b Absent ns h = h

module _ (E : Edition) where
  low_below : (w : Sources) (target : ℕ) (d : Bool) (b : ℕ) (x : Low) → ((l : ℕ) → x ≡ Ok l → l ≤ b) → Below b (low_reads E w target d x)
  low_below w target d b (Ok low) h = wider low b _ (h low refl) (walk_below (look_at E w target d) low)
  low_below w target d b (Err code) h = none

  rows_below : (w : Sources) (target : ℕ) (d : Bool) (spills : ℕ) → Below spills (rows_reads E w target d spills)
  unfolding rows_reads
  rows_below w target d spills =
      both spills _ _ (search_below (lead_at E w) target (spills - 0) 0 spills)
      (low_below w target d spills (search_in (lead_at E w) target 0 spills) (λ l e. search_most (lead_at E w) target 0 spills l _ (omega arith) refl e))

  tally_below : (w : Sources) (spills : ℤ) (zs : List ℤ) → Below (nat_abs spills) (tally_core_reads E w spills zs)
  unfolding tally_core_reads
  tally_below w spills zs =
      on_true _ (order_ok zs) _ (on_false _ (is_negative spills) _ (wider (0 + nat_abs spills) (nat_abs spills) _ (omega arith) (up_below (row_checked E w) 0 (nat_abs spills))))

  module _ (parent : List ℕ) (h : HeadCounts) (c : ListCounts) (staged : List ℕ) (e : ListCounts) (table : List ℕ) (head : List ℤ) where
    pub flip_reads_below : (d : Direction) (target : ℤ) → Below (nat_abs h.spills) (flip_reads E d parent h target c staged e table head)
    unfolding flip_reads flip_core_reads
    flip_reads_below d target =
        on_true _ (flip_ok E h c staged e table head) _
        (on_false _ (leb 9223372036854775808 (nat_abs target)) _
        (on_true _ (order_ok (take h.len head)) _
        (on_false _ (is_negative h.spills) _
        (head_below _ (position (spends d) (nat_abs target) (take h.len head) 0 false) _
        (rows_below (sources parent staged c.count table e.count) (nat_abs target) (spends d) (nat_abs h.spills))))))

    pub tally_reads_below : Below (nat_abs h.spills) (tally_of_reads E parent h c staged e table head)
    unfolding tally_of_reads
    tally_reads_below = on_true _ (flip_ok E h c staged e table head) _ (tally_below (sources parent staged c.count table e.count) h.spills (take h.len head))

    pub page_reads_below : (n : ℕ) (out : List ℤ) → Below (nat_abs h.spills) (page_of_reads E parent h c staged e table head n out)
    unfolding page_of_reads
    page_reads_below n out =
        on_true _ (flip_ok E h c staged e table head && leb page_places (length out)) _
        (on_false _ (ltb page_places n) _ (tally_below (sources parent staged c.count table e.count) h.spills (take h.len head)))

  pub pop_reads_below : (h : HeadCounts) (b : Lists) (head : List ℤ) → Below (nat_abs h.spills) (pop_reads E h b head)
  unfolding pop_reads
  pop_reads_below h b head =
      on_true _ (pop_ok E h b head) _
      (on_false _ (is_negative h.spills) _
      (on_false _ (ltb 0 h.len) _
      (by_count (eqb (nat_abs h.spills) 0) refl)))
    where
      by_count : (t : Bool) → eqb (nat_abs h.spills) 0 ≡ t → Below (nat_abs h.spills) (cond t [] ((nat_abs h.spills - 1) ∷ []))
      by_count true q = none
      by_count false q = more (by_size (nat_abs h.spills) q) none
        where
          by_size : (k : ℕ) → eqb k 0 ≡ false → k - 1 < k
          by_size zero x = let z : ◌≡◌ {A = ℕ} 0 1 = cc in absurd (omega arith)
          by_size (suc k) x = omega arith

-- ---- the first that is missing
first_below : (m : ℕ → Bool) (b : ℕ) (ns : List ℕ) → Below b ns → (n : ℕ) → first_missing m ns ≡ need n → n < b
unfolding first_missing
first_below m b [] none n e = let z : ◌≡◌ {A = ℕ} 0 1 = cc in absurd (omega arith)
first_below m b (k ∷ ns) (more p t) n e = by_test (m k) e (first_below m b ns t n)
  where
    by_test : (t : Bool) → cond t (need k) (first_missing m ns) ≡ need n → (first_missing m ns ≡ need n → n < b) → n < b
    by_test true q r = let s : k ≡ n = cc in omega arith
    by_test false q r = r q

-- 32 signed bits hold no absolute value above 2^31
within : (z : ℤ) → SFits w32 z → nat_abs z ≤ 2147483648
within (pos n) f = let m : mag (pos n) < 2147483648 = f.sfits in omega arith
within (negsuc n) f = let m : mag (negsuc n) < 2147483648 = f.sfits in omega arith

pub numbered : (E : Edition) (kind : Kind) (w : Sources) (reads : List ℕ) (spills : ℤ) → SFits w32 spills → Below (nat_abs spills) reads → (x : Option ℕ) → x ≡ among E kind w reads → Numbered x
numbered E kind w reads spills f h x e = by_need (first_missing (lacks E kind w) reads) refl x e
  where
    by_need : (y : Need) → first_missing (lacks E kind w) reads ≡ y → (x : Option ℕ) → x ≡ told y → Numbered x
    by_need nothing q x e = rw e tt
    by_need (need n) q x e = let l = first_below (lacks E kind w) (nat_abs spills) reads h n q in let k = within spills f in rw e (omega arith)
