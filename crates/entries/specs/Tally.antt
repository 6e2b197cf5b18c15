-- The figures of a tally. Document 02, U4: "a third figure, unknown, for entries equal to 0; unspent counts only entries above 0". Document 01: "spent the
-- negative ones".
use Rattle.std.specs.Prelude.{Bool, true, false, not, ◌&&◌, List, [], ◌∷◌, ℕ, zero, suc, ◌+◌, ℤ, pos, negsuc}
use Rattle.signed.specs.Sign.{is_negative}
use Rattle.index_types.specs.declared.Tally.{Tally}

abbrev pub is_zero : ℤ → Bool
is_zero (pos zero) = true
is_zero (pos (suc n)) = false
is_zero (negsuc n) = false

abbrev pub is_above : ℤ → Bool
is_above z = not (is_negative z) && not (is_zero z)

abbrev pub one_if : Bool → ℕ
one_if true = 1
one_if false = 0

-- how many entries pass a test
unfoldable pub how_many : (ℤ → Bool) → List ℤ → ℕ
how_many test [] = 0
how_many test (z ∷ zs) = one_if (test z) + how_many test zs

abbrev pub figures : List ℤ → Tally
figures zs = record { unspent = how_many is_above zs; spent = how_many is_negative zs; unknown = how_many is_zero zs }

-- the sums of two lists' figures
abbrev pub plus : Tally → Tally → Tally
plus a b = record { unspent = a.unspent + b.unspent; spent = a.spent + b.spent; unknown = a.unknown + b.unknown }
