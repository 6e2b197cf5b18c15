-- A loop over records: i of n are passed, and the rest begins at a position. Products for omega, and what is found.
use Prim.Native.Nat.{ℕ, zero, suc, ◌+◌, ◌*◌, ◌-◌, ◌/◌, ◌≤◌, ◌<◌}
use mathlib.Core.Path.{◌≡◌, refl, sym, ap, ◌∙◌}
use mathlib.Core.List.{List, [], ◌∷◌}
use mathlib.Core.Bool.{Bool, true, false, cond, not, ◌&&◌}
use native.Mathlib.Omega.{arith}
use native.Mathlib.Nat.{suc-mul, mul-le-mul_right, le_refl, le-div_iff_mul-le}
use native.Mathlib.Numerals.{add-one}
use lib.Dec.{leb}
use lib.ListN.{length, get_or, take, drop, length-drop}
use lib.Seq.{drop-drop, take-take, take_all}
use borrow.Author.Tests.{le-leb, lt-leb, leb-true, leb-false}
use Rattle.stores.specs.Equal.{same_bytes}
use Rattle.stores.proofs.StoreLaws.{part_at}
use Rattle.std.specs.Prelude.{Option, Some, None}
use Rattle.records.specs.Records.{records, keys}
use Rattle.records.specs.Find.{find_from, find_key, is_found, distinct}
use Rattle.records.specs.Checks.{lengths_ok}

-- ---- products

left_suc : (n i : ℕ) → i < n → n - i ≡ suc (n - (i + 1))
left_suc n i h = omega arith

pub left_all : (n : ℕ) → n - 0 ≡ n
left_all n = omega arith

-- what is left is one record and the rest
pub left_mul : (size n i : ℕ) → i < n → (n - i) * size ≡ (n - (i + 1)) * size + size
left_mul size n i h = rw left_suc (suc-mul (n - (i + 1)) size)

pub last_mul : (size n : ℕ) → 0 < n → (n - 1) * size + size ≡ n * size
last_mul size n h = let e : n ≡ suc (n - 1) = omega arith in sym (ap (λ (k : ℕ). k * size) e ∙ suc-mul (n - 1) size)

-- a record below n lies within n records
pub below_mul : (size n i : ℕ) → i < n → i * size + size ≤ n * size
below_mul size n i h = rw (← suc-mul) (mul-le-mul_right size h)

pub size_mul : (size i : ℕ) → suc i * size ≡ size + i * size
size_mul size i = suc-mul i size ∙ omega arith

step_mul : (size i : ℕ) → (i + 1) * size ≡ i * size + size
step_mul size i = ap (λ (k : ℕ). k * size) (add-one i) ∙ suc-mul i size

-- a capacity is compared by a quotient, for a product could wrap
pub leb_div : (size capacity len : ℕ) → 0 < size → leb capacity (len / size) ≡ leb (capacity * size) len
leb_div size capacity len h = by_test (leb (capacity * size) len) refl
  where
    below : len < capacity * size → (u : Bool) → leb capacity (len / size) ≡ u → len / size < capacity
    below g true u = let m = (le-div_iff_mul-le h).0 (leb-true capacity (len / size) u) in absurd (omega arith)
    below g false u = leb-false capacity (len / size) u

    by_test : (t : Bool) → leb (capacity * size) len ≡ t → leb capacity (len / size) ≡ t
    by_test true t = le-leb capacity (len / size) ((le-div_iff_mul-le h).1 (leb-true (capacity * size) len t))
    by_test false t = lt-leb capacity (len / size) (below (leb-false (capacity * size) len t) (leb capacity (len / size)) refl)

-- ---- a turn, and the end

pub records_step : (size n i at : ℕ) (l : List ℕ) → i < n
    → records size (n - i) (drop at l) ≡ take size (drop at l) ∷ records size (n - (i + 1)) (drop (at + size) l)
unfolding records
records_step size n i at l h = rw (left_suc, drop-drop)

pub records_past : (size n i : ℕ) (l : List ℕ) → n ≤ i → records size (n - i) l ≡ []
unfolding records
records_past size n i l h = let e : n - i ≡ 0 = omega arith in rw e

pub keys_step : (size n i at : ℕ) (l : List ℕ) → 32 ≤ size → i < n
    → keys size (n - i) (drop at l) ≡ take 32 (drop at l) ∷ keys size (n - (i + 1)) (drop (at + size) l)
keys_step size n i at l h k = rw (records_step, take-take)

pub keys_past : (size n i : ℕ) (l : List ℕ) → n ≤ i → keys size (n - i) l ≡ []
keys_past size n i l h = rw records_past

pub find_step : (key : List ℕ) (size n i : ℕ) (l : List ℕ) → 32 ≤ size → i < n
    → find_from key i (keys size (n - i) (drop (i * size) l))
    ≡ cond (same_bytes (take 32 (drop (i * size) l)) key) (Some i) (find_from key (i + 1) (keys size (n - (i + 1)) (drop ((i + 1) * size) l)))
unfolding find_from
find_step key size n i l k h = rw (step_mul, records_step, take-take, add-one i)

pub find_past : (key : List ℕ) (size n i j : ℕ) (l : List ℕ) → n ≤ i → find_from key j (keys size (n - i) l) ≡ None
unfolding find_from
find_past key size n i j l h = rw records_past

pub distinct_step : (size n i : ℕ) (l : List ℕ) → 32 ≤ size → i < n
    → distinct (keys size (n - i) (drop (i * size) l))
    ≡ not (is_found (find_key (take 32 (drop (i * size) l)) (keys size (n - (i + 1)) (drop ((i + 1) * size) l))))
    && distinct (keys size (n - (i + 1)) (drop ((i + 1) * size) l))
unfolding distinct
distinct_step size n i l k h = rw (step_mul, records_step, take-take)

pub distinct_past : (size n i : ℕ) (l : List ℕ) → n ≤ i → distinct (keys size (n - i) l) ≡ true
unfolding distinct
distinct_past size n i l h = rw records_past

pub lengths_step : (limit size n i : ℕ) (l : List ℕ) → 34 ≤ size → i < n
    → lengths_ok limit (records size (n - i) (drop (i * size) l))
    ≡ leb (get_or l (i * size + 32) 0 * 256 + get_or l (i * size + 33) 0) limit
    && lengths_ok limit (records size (n - (i + 1)) (drop ((i + 1) * size) l))
unfolding lengths_ok
lengths_step limit size n i l h k =
    rw step_mul (ap (lengths_ok limit) (records_step size n i (i * size) l k)
    ∙ rw (part_at (i * size) size 32 l 0 (omega arith), part_at (i * size) size 33 l 0 (omega arith)))

pub lengths_past : (limit size n i : ℕ) (l : List ℕ) → n ≤ i → lengths_ok limit (records size (n - i) l) ≡ true
unfolding lengths_ok
lengths_past limit size n i l h = ap (lengths_ok limit) (records_past size n i l h)

-- the rest of a list, as a part of it
pub rest_part : (n : ℕ) (l : List ℕ) → take (length l - n) (drop n l) ≡ drop n l
rest_part n l = take_all (length l - n) (drop n l) (rw length-drop (le_refl (length l - n)))

-- ---- what is found stands in the list

pub length_records : (size n : ℕ) (l : List ℕ) → length (records size n l) ≡ n
unfolding records
length_records size zero l = refl
length_records size (suc n) l = ap suc (length_records size n (drop size l))

pub length_keys : (size n : ℕ) (l : List ℕ) → length (keys size n l) ≡ n
unfolding records
length_keys size zero l = refl
length_keys size (suc n) l = ap suc (length_keys size n (drop size l))

pub found_below : (key : List ℕ) (i : ℕ) (ks : List (List ℕ)) (j : ℕ) → find_from key i ks ≡ Some j → j < i + length ks
unfolding find_from
found_below key i [] j h = let z : ◌≡◌ {A = ℕ} 0 1 = cc in omega arith
found_below key i (k ∷ ks) j h = by_test (found_below key (suc i) ks j) (same_bytes k key) h
  where
    by_test : (find_from key (suc i) ks ≡ Some j → j < suc i + length ks) → (t : Bool) → cond t (Some i) (find_from key (suc i) ks) ≡ Some j
        → j < i + suc (length ks)
    by_test rest true h = let e : i ≡ j = cc in omega arith
    by_test rest false h = omega (arith, rest h)

pub found_in : (key : List ℕ) (size n : ℕ) (l : List ℕ) (k : ℕ) (f : Option ℕ) → f ≡ find_key key (keys size n l) → f ≡ Some k → k < n
found_in key size n l k f e h = omega (arith, found_below key 0 (keys size n l) k (sym e ∙ h), length_keys size n l)
