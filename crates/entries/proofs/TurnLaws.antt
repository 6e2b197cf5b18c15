-- One turn of each loop over the first n numbers of a list: the definition on what is left from i, by the test on the ith.
use mathlib.Core.Path.{◌≡◌, refl, sym, ap, ◌∙◌, subst}
use mathlib.Core.Bool.{Bool, true, false, ◌&&◌, cond}
use mathlib.Core.List.{List, [], ◌∷◌, map}
use Prim.Native.Nat.{ℕ, zero, suc, ◌<◌, ◌≤◌, ◌+◌}
use native.Mathlib.Numerals.{add-one}
use native.Mathlib.Omega.{arith}
use lib.IntN.{ℤ, pos, nat_abs}
use lib.Dec.{leb, ltb, eqb}
use lib.ListN.{length, get_or}
use lib.Seq.{slice, slice-cons, slice_empty}
use Rattle.entries.specs.Order.{ordered}
use Rattle.signed.specs.Sign.{wanted}
use Rattle.entries.specs.Tally.{one_if, how_many}
use Rattle.entries.specs.Flip.{position}
use Rattle.entries.specs.declared.Position.TheVariants.{At, Seen, Absent}

module _ (xs : List ℤ) (n i : ℕ) (h : i < n) (k : n ≤ length xs) where
  pub next : slice i n xs ≡ get_or xs i (pos 0) ∷ slice (i + 1) n xs
  next = rw add-one (slice-cons i n xs (pos 0) h k)

  pub order_step : (lo a : ℕ) → a ≡ nat_abs (get_or xs i (pos 0))
      → ordered lo (map nat_abs (slice i n xs)) ≡ leb lo a && (ltb a 9223372036854775808 && ordered a (map nat_abs (slice (i + 1) n xs)))
  order_step lo a e =
      ap (λ (l : List ℤ). ordered lo (map nat_abs l)) next
      ∙ ap (λ (b : ℕ). leb lo b && (ltb b 9223372036854775808 && ordered b (map nat_abs (slice (i + 1) n xs)))) (sym e)

  -- a turn of the search: a and w are the entry's absolute value and whether its sign is wanted
  pub position_step : (d : Bool) (t : ℕ) (seen : Bool) (a : ℕ) → a ≡ nat_abs (get_or xs i (pos 0))
      → position d t (slice i n xs) i seen
      ≡ cond (eqb a t) (cond (wanted d (get_or xs i (pos 0))) (At i) (position d t (slice (i + 1) n xs) (i + 1) true)) (position d t (slice (i + 1) n xs) (i + 1) seen)
  position_step d t seen a e =
      ap (λ (l : List ℤ). position d t l i seen) next
      ∙ ap (λ (b : ℕ). cond (eqb b t) (cond (wanted d (get_or xs i (pos 0))) (At i) (position d t (slice (i + 1) n xs) (i + 1) true)) (position d t (slice (i + 1) n xs) (i + 1) seen)) (sym e)

  -- a turn of a count
  pub count_step : (test : ℤ → Bool) → how_many test (slice i n xs) ≡ one_if (test (get_or xs i (pos 0))) + how_many test (slice (i + 1) n xs)
  unfolding how_many
  count_step test = ap (how_many test) next

pub count_empty : (test : ℤ → Bool) (n : ℕ) (xs : List ℤ) → how_many test (slice n n xs) ≡ 0
unfolding how_many
count_empty test n xs = ap (how_many test) (slice_empty n xs)
