-- Laws of the figures: they add up to the number of entries, and those of two lists together are the sums.
use Prim.Native.Nat.{ℕ, zero, suc, ◌+◌, ◌≤◌}
use mathlib.Core.Path.{◌≡◌, refl}
use mathlib.Core.Bool.{Bool, true, false}
use mathlib.Core.List.{List, [], ◌∷◌, ◌++◌}
use native.Mathlib.Omega.{arith}
use lib.IntN.{ℤ, pos, negsuc, nat_abs}
use lib.ListN.{length}
use Rattle.signed.specs.Sign.{is_negative}
use Rattle.index_types.specs.declared.Tally.{Tally}
use Rattle.entries.specs.Tally.{is_zero, is_above, one_if, how_many, figures, plus}

-- an entry is above 0, below 0 or equal to 0
one_of_three : (z : ℤ) → one_if (is_above z) + one_if (is_negative z) + one_if (is_zero z) ≡ 1
one_of_three (pos zero) = refl
one_of_three (pos (suc n)) = refl
one_of_three (negsuc n) = refl

pub one_most : (n : ℕ) (b : Bool) → n ≡ one_if b → n ≤ 1
one_most n true e = omega arith
one_most n false e = omega arith

-- what sign and size tell
pub not_above : (z : ℤ) → is_negative z ≡ true → 0 ≡ one_if (is_above z)
not_above (pos n) e = let z : ◌≡◌ {A = ℕ} 0 1 = cc in absurd (omega arith)
not_above (negsuc n) e = refl

pub zero_not_above : (z : ℤ) → nat_abs z ≡ 0 → 0 ≡ one_if (is_above z)
zero_not_above (pos zero) e = refl
zero_not_above (pos (suc n)) e = absurd (omega arith)
zero_not_above (negsuc n) e = refl

pub above : (z : ℤ) → is_negative z ≡ false → (nat_abs z ≡ 0 → ⊥) → 1 ≡ one_if (is_above z)
above (pos zero) e h = absurd (h refl)
above (pos (suc n)) e h = refl
above (negsuc n) e h = let z : ◌≡◌ {A = ℕ} 0 1 = cc in absurd (omega arith)

-- document 02, U4: "The three add up to the number of entries"
pub adds_up : (zs : List ℤ) → how_many is_above zs + how_many is_negative zs + how_many is_zero zs ≡ length zs
unfolding how_many
adds_up [] = refl
adds_up (z ∷ zs) = omega (arith, one_of_three z, adds_up zs)

-- "For entries 0, 3 and -4 .. it now gives 1, 1 and 1 unknown"
pub one_of_each : figures (pos 0 ∷ pos 3 ∷ negsuc 3 ∷ []) ≡ record { unspent = 1; spent = 1; unknown = 1 }
unfolding how_many
one_of_each = refl

pub tally_is : {u u' s s' z z' : ℕ} → u ≡ u' → s ≡ s' → z ≡ z'
    → ◌≡◌ {A = Tally} (record { unspent = u; spent = s; unknown = z }) (record { unspent = u'; spent = s'; unknown = z' })
tally_is p q r = λ i. record { unspent = p i; spent = q i; unknown = r i }

many_append : (test : ℤ → Bool) (a b : List ℤ) → how_many test (a ++ b) ≡ how_many test a + how_many test b
unfolding how_many
many_append test [] b = omega arith
many_append test (z ∷ a) b = omega (arith, many_append test a b)

pub figures_append : (a b : List ℤ) → figures (a ++ b) ≡ plus (figures a) (figures b)
figures_append a b = tally_is (many_append is_above a b) (many_append is_negative a b) (many_append is_zero a b)

pub plus_none : (t : Tally) → plus t (figures []) ≡ t
unfolding how_many
plus_none t = tally_is (omega arith) (omega arith) (omega arith)

pub plus_comm : (a b : Tally) → plus a b ≡ plus b a
plus_comm a b = tally_is (omega arith) (omega arith) (omega arith)

pub plus_assoc : (a b c : Tally) → plus (plus a b) c ≡ plus a (plus b c)
plus_assoc a b c = tally_is (omega arith) (omega arith) (omega arith)
