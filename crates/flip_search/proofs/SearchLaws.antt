-- Laws of the halving: a row's first number, that the bound on the calls does not matter, one law for each way out, and that the answer stays within the spills.
use mathlib.Core.Path.{◌≡◌, refl, sym, ap, ◌∙◌}
use mathlib.Core.Bool.{Bool, true, false, cond}
use mathlib.Core.List.{List}
use Prim.Native.Nat.{ℕ, zero, suc, ◌+◌, ◌-◌, ◌/◌, ◌<◌, ◌≤◌}
use native.Mathlib.Omega.{arith}
use native.Mathlib.Nat.{div-lt_self}
use borrow.Author.Tests.{ltb-true, lt-ltb, le-ltb, le-leb, lt-leb}
use lib.Dec.{ltb, leb}
use lib.IntN.{ℤ, pos, nat_abs}
use lib.ListN.{get_or}
use Rattle.std.specs.Prelude.{Ok, Err}
use Rattle.buffer_core.specs.Answers.{Lead}
use Rattle.buffer_core.specs.Answers.{Low}
use Rattle.buffer_core.specs.Edition.{RowRead}
use Rattle.buffer_core.specs.Flip.{lead_of, half, middle, search_by, search_in}
use Rattle.spill_rows.specs.Answers.{Read}
use Rattle.spill_rows.specs.Internal.{CheckedInto}
use Rattle.spill_rows.proofs.CheckedLaws.{nope, faulty}

-- ---- the first of a row; x is the checked row

module _ (x : RowRead) (r : Read) (out : List ℤ) (s : CheckedInto x r out) where
  -- z and m are what locals hold of the first number
  pub lead_good : r ≡ (Ok tt) → (z : ℤ) (m : ℕ) → z ≡ get_or out 0 (pos 0) → m ≡ nat_abs z → Ok m ≡ lead_of x
  lead_good e z m p q = rw (s.numbers e) (ap Ok (q ∙ ap nat_abs p))

  pub lead_bad : (code : ℕ) → r ≡ Err code → Err code ≡ lead_of x
  lead_bad code e = rw (faulty x r out s code e)

-- ---- the middle

half_less : (low high : ℕ) → low < high → (high - low) / 2 < high - low
half_less low high h = div-lt_self (omega arith) (omega arith)

pub middle_below : (low high : ℕ) → low < high → middle low high < high
middle_below low high h = omega (arith, half_less low high h)

pub falls_up : (low high t : ℕ) → high - low ≡ t → low < high → high - (middle low high + 1) < t
falls_up low high t e h = omega (arith, half_less low high h)

pub falls_down : (low high t : ℕ) → high - low ≡ t → low < high → middle low high - low < t
falls_down low high t e h = omega (arith, half_less low high h)

-- ---- the bound on the calls does not matter

fuel_by : (f : ℕ → Lead) (t k m low high : ℕ) → high - low ≤ suc k → high - low ≤ suc m
    → ((l u : ℕ) → u - l ≤ k → u - l ≤ m → search_by f t k l u ≡ search_by f t m l u)
    → (b : Bool) → ltb low high ≡ b → search_by f t (suc k) low high ≡ search_by f t (suc m) low high
unfolding search_by
fuel_by f t k m low high h g ih true e =
    let l : low < high = ltb-true low high e in
    let s = half_less low high l in
    rw (ih (middle low high + 1) high (omega arith) (omega arith), ih low (middle low high) (omega arith) (omega arith))
fuel_by f t k m low high h g ih false e = rw e

same_fuel : (f : ℕ → Lead) (t k m low high : ℕ) → high - low ≤ k → high - low ≤ m → search_by f t k low high ≡ search_by f t m low high
unfolding search_by
same_fuel f t zero zero low high h g = refl
same_fuel f t zero (suc m) low high h g = rw (le-ltb low high (omega arith))
same_fuel f t (suc k) zero low high h g = rw (le-ltb low high (omega arith))
same_fuel f t (suc k) (suc m) low high h g = fuel_by f t k m low high h g (λ l u p q. same_fuel f t k m l u p q) (ltb low high) refl

one_step : (f : ℕ → Lead) (t k low high : ℕ) → low < high
    → search_by f t (suc k) low high ≡ half (f (middle low high)) t (search_by f t k (middle low high + 1) high) (search_by f t k low (middle low high))
unfolding search_by
one_step f t k low high h = rw (lt-ltb low high h)

pub search_step : (f : ℕ → Lead) (t low high : ℕ) → low < high
    → search_in f t low high ≡ half (f (middle low high)) t (search_in f t (middle low high + 1) high) (search_in f t low (middle low high))
search_step f t low high h =
    let s = half_less low high h in
    let k : ℕ = high - low - 1 in
    same_fuel f t (high - low) (suc k) low high (omega arith) (omega arith) ∙ one_step f t k low high h
    ∙ rw (
      same_fuel f t k (high - (middle low high + 1)) (middle low high + 1) high (omega arith) (omega arith),
      same_fuel f t k (middle low high - low) low (middle low high) (omega arith) (omega arith),
    )

-- ---- each way out of the halving

pub search_end : (f : ℕ → Lead) (t low high : ℕ) → high ≤ low → Ok low ≡ search_in f t low high
unfolding search_by
search_end f t low high h = let e : high - low ≡ 0 = omega arith in rw e

module _ (f : ℕ → Lead) (t low high : ℕ) (h : low < high) (r : Lead) (e : r ≡ f (middle low high)) where
  pub search_bad : (c : ℕ) → r ≡ Err c → Err c ≡ search_in f t low high
  search_bad c q = sym (search_step f t low high h ∙ rw (sym e ∙ q))

  pub search_up : (x : ℕ) (s : Low) → r ≡ Ok x → x ≤ t → s ≡ search_in f t (middle low high + 1) high → s ≡ search_in f t low high
  search_up x s q l es = es ∙ sym (search_step f t low high h ∙ rw (sym e ∙ q, le-leb x t l))

  pub search_down : (x : ℕ) (s : Low) → r ≡ Ok x → t < x → s ≡ search_in f t low (middle low high) → s ≡ search_in f t low high
  search_down x s q l es = es ∙ sym (search_step f t low high h ∙ rw (sym e ∙ q, lt-leb x t l))

-- ---- the answer is at most high

pick_bound : (b : Bool) (x y : Low) (l high : ℕ) → (x ≡ Ok l → l ≤ high) → (y ≡ Ok l → l ≤ high) → cond b x y ≡ Ok l → l ≤ high
pick_bound true x y l high p q e = p e
pick_bound false x y l high p q e = q e

half_bound : (r : Lead) (t : ℕ) (x y : Low) (l high : ℕ) → (x ≡ Ok l → l ≤ high) → (y ≡ Ok l → l ≤ high) → half r t x y ≡ Ok l → l ≤ high
half_bound (Ok a) t x y l high p q e = pick_bound (leb a t) x y l high p q e
half_bound (Err c) t x y l high p q e = nope (cc)

bound_by : (f : ℕ → Lead) (t k low high l : ℕ) → low ≤ high → ((a b : ℕ) → a ≤ b → search_by f t k a b ≡ Ok l → l ≤ b)
    → (b : Bool) → ltb low high ≡ b → search_by f t (suc k) low high ≡ Ok l → l ≤ high
unfolding search_by
bound_by f t k low high l g ih true e q =
    let h : low < high = ltb-true low high e in
    let s = half_less low high h in
    half_bound (f (middle low high)) t (search_by f t k (middle low high + 1) high) (search_by f t k low (middle low high)) l high
    (λ p. ih (middle low high + 1) high (omega arith) p) (λ p. omega (arith, ih low (middle low high) (omega arith) p)) (rw e at q)
bound_by f t k low high l g ih false e q = let m : low ≡ l = cc (rw e at q) in omega arith

search_bound : (f : ℕ → Lead) (t k low high l : ℕ) → low ≤ high → search_by f t k low high ≡ Ok l → l ≤ high
unfolding search_by
search_bound f t zero low high l g e = let m : low ≡ l = cc in omega arith
search_bound f t (suc k) low high l g e = bound_by f t k low high l g (λ a b p q. search_bound f t k a b l p q) (ltb low high) refl e

pub search_most : (f : ℕ → Lead) (t low high l : ℕ) (s : Low) → low ≤ high → s ≡ search_in f t low high → s ≡ Ok l → l ≤ high
search_most f t low high l s g e h = search_bound f t (high - low) low high l g (sym e ∙ h)
