-- The figure is the only number that is nearest to the amount, and even where two are equally near.
use Prim.Native.Nat.{ℕ, zero, suc, ◌+◌, ◌*◌, ◌-◌, ◌/◌, ◌%◌, ◌≤◌, ◌<◌}
use mathlib.Core.Path.{◌≡◌, refl, sym, ap, subst, ◌∙◌}
use mathlib.Core.Logic.{⊎_elim}
use mathlib.Core.Bool.{Bool, true, false, cond}
use native.Mathlib.Omega.{arith}
use lib.Dec.{ltb}
use lib.IntN.{ℤ, pos, negsuc, nat_abs, neg_ℤ, ◌+ℤ◌, ◌-ℤ◌, ◌*ℤ◌, neg_ℤ-neg_ℤ, ℤ_discrete}
use borrow.Author.Tests.{lt-ltb, ltb-true, ltb-false}
use Rattle.signed.proofs.SignedLaws.{natAbs_neg}
use Rattle.statement.specs.Statement.{milli, rounded, milli_ergs}
use Rattle.statement.proofs.FigureLaws.{rounded_is}

-- how far a figure is from an amount, in nanoErgs
unfoldable pub far : (amount figure : ℤ) → ℕ
far z f = nat_abs (z -ℤ f *ℤ pos milli)

-- no figure is nearer; and where another is as near, this one is even
pub record Nearest (z f : ℤ) : Type 0 where
  pub least : (g : ℤ) → far z f ≤ far z g
  pub even : (g : ℤ) → far z g ≡ far z f → (g ≡ f → ⊥) → nat_abs f % 2 ≡ 0

-- ---- how far, by sizes
dist : ℕ → ℕ → ℕ
dist a b = (a - b) + (b - a)

difference : (a b : ℕ) → nat_abs (pos a -ℤ pos b) ≡ dist a b
unfolding dist
difference a zero = omega arith
difference a (suc b) = by_test (ltb a (suc b)) refl
  where
    by_test : (t : Bool) → ltb a (suc b) ≡ t → nat_abs (cond t (negsuc (suc b - suc a)) (pos (a - suc b))) ≡ (a - suc b) + (suc b - a)
    by_test true q = let l = ltb-true a (suc b) q in omega arith
    by_test false q = let l = ltb-false a (suc b) q in omega arith

both_below : (n x : ℕ) → nat_abs (negsuc n -ℤ pos x) ≡ suc n + x
both_below n zero = let l : 0 < suc n = omega arith in rw (lt-ltb 0 (suc n) l) (omega arith)
both_below n (suc x) = omega arith

from_below : (n x : ℕ) → nat_abs (negsuc n +ℤ pos x) ≡ dist (suc n) x
unfolding dist
from_below n x = by_test (ltb x (suc n)) refl
  where
    by_test : (t : Bool) → ltb x (suc n) ≡ t → nat_abs (cond t (negsuc (suc n - suc x)) (pos (x - suc n))) ≡ (suc n - x) + (x - suc n)
    by_test true q = let l = ltb-true x (suc n) q in omega arith
    by_test false q = let l = ltb-false x (suc n) q in omega arith

far_same : (n k : ℕ) → far (pos n) (pos k) ≡ dist n (k * milli)
unfolding far
far_same n k = difference n (k * milli)

far_apart : (n k : ℕ) → far (pos n) (negsuc k) ≡ n + suc k * milli
unfolding far
far_apart n k = rw (neg_ℤ-neg_ℤ (pos (suc k * milli)))

-- an amount below zero is as far from a figure as its negative from the negative figure
turned : (n : ℕ) (g : ℤ) → far (negsuc n) g ≡ far (pos (suc n)) (neg_ℤ g)
unfolding far dist
turned n (pos zero) = both_below n 0
turned n (pos (suc k)) = both_below n (suc k * milli) ∙ sym (far_apart (suc n) k)
turned n (negsuc k) = ap (λ (w : ℤ). nat_abs (negsuc n +ℤ w)) (neg_ℤ-neg_ℤ (pos (suc k * milli))) ∙ from_below n (suc k * milli) ∙ sym (far_same (suc n) (suc k))

-- ---- sizes: no multiple is nearer, and one that is as near is even only if it is the figure
least_size : (n k : ℕ) → dist n (rounded n * milli) ≤ dist n (k * milli)
unfolding dist
least_size n k = let r = rounded_is n in omega arith

close : (n : ℕ) → dist n (rounded n * milli) ≤ 500000
unfolding dist
close n = let r = rounded_is n in omega arith

at_half : (n k : ℕ) → n ≡ k * milli + 500000 → rounded n ≡ k + k % 2
at_half n k e = let r = rounded_is n in let q : n / 1000000 ≡ k = omega arith in omega (arith, rw q at r)

only_size : (n k : ℕ) → dist n (k * milli) ≡ dist n (rounded n * milli) → (k ≡ rounded n → ⊥) → (rounded n % 2 ≡ 0) × (k % 2 ≡ 1)
unfolding dist
only_size n k e apart = by_test (ltb k (rounded n)) refl
  where
    by_test : (t : Bool) → ltb k (rounded n) ≡ t → (rounded n % 2 ≡ 0) × (k % 2 ≡ 1)
    by_test true q =
        let l = ltb-true k (rounded n) q in
        let next : rounded n ≡ k + 1 = omega (arith, close n) in
        let middle : n ≡ k * milli + 500000 = omega arith in
        let r = at_half n k middle in
        (omega arith, omega arith)
    by_test false q =
        let l = ltb-false k (rounded n) q in
        let next : k ≡ rounded n + 1 = omega (arith, close n) in
        let middle : n ≡ rounded n * milli + 500000 = omega arith in
        let r = at_half n (rounded n) middle in
        (omega arith, omega arith)

-- ---- amounts of 0 or more
least_above : (n : ℕ) (g : ℤ) → far (pos n) (pos (rounded n)) ≤ far (pos n) g
unfolding dist
least_above n (pos k) = rw (far_same n (rounded n), far_same n k) (least_size n k)
least_above n (negsuc k) = rw (far_same n (rounded n), far_apart n k) (omega (arith, least_size n 0))

even_above : (n : ℕ) (g : ℤ) → far (pos n) g ≡ far (pos n) (pos (rounded n)) → (g ≡ pos (rounded n) → ⊥) → (rounded n % 2 ≡ 0) × (nat_abs g % 2 ≡ 1)
unfolding dist
even_above n (pos k) e apart = only_size n k (sym (far_same n k) ∙ e ∙ far_same n (rounded n)) (λ q. apart (ap pos q))
even_above n (negsuc k) e apart =
    let q : n + suc k * milli ≡ dist n (rounded n * milli) = sym (far_apart n k) ∙ e ∙ far_same n (rounded n) in
    absurd (omega (arith, least_size n 0))

-- ---- amounts of both signs
size_of_figure : (k : ℕ) → nat_abs (neg_ℤ (pos k)) ≡ k
size_of_figure zero = refl
size_of_figure (suc k) = refl

turned_figure : (n : ℕ) → far (negsuc n) (neg_ℤ (pos (rounded (suc n)))) ≡ far (pos (suc n)) (pos (rounded (suc n)))
turned_figure n = turned n (neg_ℤ (pos (rounded (suc n)))) ∙ ap (far (pos (suc n))) (neg_ℤ-neg_ℤ (pos (rounded (suc n))))

-- no figure is nearer than that of the statement
pub least : (z g : ℤ) → far z (milli_ergs z) ≤ far z g
unfolding milli_ergs
least (pos n) g = least_above n g
least (negsuc n) g = rw (turned_figure n, turned n g) (least_above (suc n) (neg_ℤ g))

-- one that is as near is odd, and that of the statement even
pub even : (z g : ℤ) → far z g ≡ far z (milli_ergs z) → (g ≡ milli_ergs z → ⊥) → (nat_abs (milli_ergs z) % 2 ≡ 0) × (nat_abs g % 2 ≡ 1)
unfolding milli_ergs
even (pos n) g e apart = even_above n g e apart
even (negsuc n) g e apart =
    let other : neg_ℤ g ≡ pos (rounded (suc n)) → ⊥ = λ q. apart (sym (neg_ℤ-neg_ℤ g) ∙ ap neg_ℤ q) in
    let r = even_above (suc n) (neg_ℤ g) (sym (turned n g) ∙ e ∙ turned_figure n) other in
    rw (size_of_figure (rounded (suc n)), ← (natAbs_neg g)) r

pub nearest : (z : ℤ) → Nearest z (milli_ergs z)
nearest z = record { least = least z; even = λ g e apart. (even z g e apart).0 }

-- "the even neighbour": no other number is nearest so
pub only : (z f : ℤ) → Nearest z f → f ≡ milli_ergs z
only z f h = by_case (ℤ_discrete f (milli_ergs z))
  where
    by_case : Dec (f ≡ milli_ergs z) → f ≡ milli_ergs z
    by_case (yes p) = p
    by_case (no apart) =
        let same : far z f ≡ far z (milli_ergs z) = omega (arith, h.least (milli_ergs z), least z f) in
        let odd = (even z f same apart).1 in
        let evens = h.even (milli_ergs z) (sym same) (λ q. apart (sym q)) in
        absurd (omega arith)
