-- Small lists, computed: which of several copies a spend takes, and which an unspend. Document 01: "its first entry of the wanted sign is negated".
use mathlib.Core.Path.{◌≡◌, refl}
use mathlib.Core.Bool.{Bool, true, false}
use mathlib.Core.List.{List, [], ◌∷◌}
use Prim.Native.Nat.{ℕ}
use lib.IntN.{ℤ, pos, negsuc}
use Rattle.index_types.specs.declared.Tally.{Tally}
use Rattle.entries.specs.Flip.{position, flipped_at}
use Rattle.entries.specs.Tally.{how_many, figures}
use Rattle.entries.specs.declared.Position.{Position}
use Rattle.entries.specs.declared.Position.TheVariants.{At}

-- the place taken for a target, the list then, and its figures
abbrev taken : (spend : Bool) (t : ℕ) → List ℤ → Position × List ℤ × Tally
taken d t zs = let p = position d t zs 0 false in (p, flipped_at p zs, figures (flipped_at p zs))

pub first_copy_taken : taken true 5 (pos 5 ∷ pos 5 ∷ pos 7 ∷ []) ≡ (At 0, negsuc 4 ∷ pos 5 ∷ pos 7 ∷ [], record { unspent = 2; spent = 1; unknown = 0 })
unfolding how_many
first_copy_taken = refl

pub first_spent_copy_taken : taken false 5 (pos 5 ∷ negsuc 4 ∷ negsuc 4 ∷ []) ≡ (At 1, pos 5 ∷ pos 5 ∷ negsuc 4 ∷ [], record { unspent = 2; spent = 1; unknown = 0 })
unfolding how_many
first_spent_copy_taken = refl
