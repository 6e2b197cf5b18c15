-- The exports of spends, unspends and tallies tell what the call left.
use Prim.Native.Nat.{ℕ}
use mathlib.Core.Path.{◌≡◌, ◌∙◌, ap}
use mathlib.Core.List.{List}
use lib.IntN.{ℤ}
use Rattle.index_types.specs.Answers.{Flipped}
use Rattle.index_types.specs.Answers.{Tallied}
use Rattle.buffer_core.specs.Flip.{Flipping, flipping}
use Rattle.ergo_index_outs.specs.Outs.{flip_by, tally_out, tally_export}
use Rattle.ergo_index_flips.specs.Flips.{flip_export}

-- r, head and staged are what the public call left
pub flip_told : (r : Flipped) (head : List ℤ) (staged : List ℕ) (o : Flipping) → flipping r head staged ≡ o → (count : ℕ) → flip_by r count head staged ≡ flip_export count o
flip_told r head staged o e count = ap (λ (f : Flipping). flip_export count f) e

-- r is what the public call answered
pub tally_told : (u s z : ℕ) (r o : Tallied) → r ≡ o → (code u' s' z' : ℕ) → tally_out code u' s' z' ≡ tally_export u s z r → tally_out code u' s' z' ≡ tally_export u s z o
tally_told u s z r o e code u' s' z' f = f ∙ ap (λ (t : Tallied). tally_export u s z t) e
