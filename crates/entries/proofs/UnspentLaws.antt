-- Laws of the unspent numbers: those of two lists together, and that a page is shorter only at the end and pages one after the other are the whole list.
use Prim.Native.Nat.{ℕ, zero, suc, ◌+◌, ◌*◌, ◌≤◌}
use mathlib.Core.Path.{◌≡◌, refl, sym, ap, ◌∙◌}
use mathlib.Core.Bool.{Bool, true, false, cond}
use mathlib.Core.List.{List, [], ◌∷◌, ◌++◌, reverse, reverse-append}
use native.Mathlib.Omega.{arith}
use lib.IntN.{ℤ}
use lib.ListN.{length, take, drop, length-drop}
use lib.Seq.{length-take-le, take_all, take-add, drop-drop}
use Rattle.entries.specs.Tally.{is_above}
use Rattle.entries.specs.Unspent.{only_above, unspent_newest_first, stretch, page_places}

only_append : (a b : List ℤ) → only_above (a ++ b) ≡ only_above a ++ only_above b
unfolding only_above
only_append [] b = refl
only_append (z ∷ a) b = by_test (is_above z) (only_append a b)
  where
    by_test : (t : Bool) → only_above (a ++ b) ≡ only_above a ++ only_above b
        → cond t (z ∷ only_above (a ++ b)) (only_above (a ++ b)) ≡ cond t (z ∷ only_above a) (only_above a) ++ only_above b
    by_test true e = ap (λ (l : List ℤ). z ∷ l) e
    by_test false e = e

-- what is behind is newer
pub newest_append : (a b : List ℤ) → unspent_newest_first (a ++ b) ≡ unspent_newest_first b ++ unspent_newest_first a
unfolding unspent_newest_first
newest_append a b = ap reverse (only_append a b) ∙ reverse-append (only_above a) (only_above b)

pub newest_none : unspent_newest_first [] ≡ []
unfolding unspent_newest_first only_above
newest_none = refl

pub newest_one : (z : ℤ) → unspent_newest_first (z ∷ []) ≡ cond (is_above z) (z ∷ []) []
unfolding unspent_newest_first only_above
newest_one z = by_test (is_above z)
  where
    by_test : (t : Bool) → reverse (cond t (z ∷ []) []) ≡ cond t (z ∷ []) []
    by_test true = refl
    by_test false = refl

-- document 02, U2: "shorter only at its end"
pub stretch_full : (offset n : ℕ) (zs : List ℤ) → offset + n ≤ length zs → length (stretch offset n zs) ≡ n
stretch_full offset n zs h = length-take-le n (drop offset zs) (rw length-drop (omega arith))

-- k pages from an offset on, one after the other
abbrev pub pages : (k offset : ℕ) → List ℤ → List ℤ
pages zero offset zs = []
pages (suc k) offset zs = stretch offset page_places zs ++ pages k (offset + page_places) zs

pages_are : (k offset : ℕ) (zs : List ℤ) → pages k offset zs ≡ take (k * page_places) (drop offset zs)
pages_are zero offset zs = refl
pages_are (suc k) offset zs =
    let e : suc k * 64 ≡ 64 + k * 64 = omega arith in
    ap (λ (l : List ℤ). stretch offset 64 zs ++ l) (pages_are k (offset + 64) zs ∙ ap (take (k * 64)) (sym (drop-drop 64 offset zs)))
    ∙ sym (take-add 64 (k * 64) (drop offset zs)) ∙ ap (λ (n : ℕ). take n (drop offset zs)) (sym e)

-- pages of 64 one after the other are the whole list
pub pages_whole : (k : ℕ) (zs : List ℤ) → length zs ≤ k * page_places → pages k 0 zs ≡ zs
pages_whole k zs h = pages_are k 0 zs ∙ take_all (k * 64) zs h
