-- The test vectors of document 01 for coded numbers, and three more for reading, computed by the definitions: one table, in one theorem.
use mathlib.Core.Path.{◌≡◌, refl}
use mathlib.Core.List.{List, [], ◌∷◌, map}
use Prim.Native.Nat.{ℕ}
use lib.IntN.{ℤ, pos, negsuc}
use Rattle.std.specs.Prelude.{Err}
use Rattle.vlq_core.specs.Zigzag.{zig}
use Rattle.vlq_core.specs.Groups.{groups, enc}
use Rattle.vlq_core.specs.Reading.{dec, read_any, read_at}

-- 0, 63, 64, -64, -65, -2^63, then a padded 0, a cut number and 2^32 at 32 bits
pub vectors :
    (map (λ (z : ℤ). enc (zig z)) (pos 0 ∷ pos 63 ∷ pos 64 ∷ negsuc 63 ∷ negsuc 64 ∷ negsuc 9223372036854775807 ∷ [])
    ≡ (0 ∷ []) ∷ (0x7e ∷ []) ∷ (0x80 ∷ 1 ∷ []) ∷ (0x7f ∷ []) ∷ (0x81 ∷ 1 ∷ []) ∷ (0xff ∷ 0xff ∷ 0xff ∷ 0xff ∷ 0xff ∷ 0xff ∷ 0xff ∷ 0xff ∷ 0xff ∷ 1 ∷ []) ∷ [])
    × (map (λ (l : List ℕ). read_at 32 l 0) ((0x80 ∷ 0x80 ∷ 0 ∷ []) ∷ (0x80 ∷ []) ∷ (0x80 ∷ 0x80 ∷ 0x80 ∷ 0x80 ∷ 0x10 ∷ []) ∷ []) ≡ Err 34 ∷ Err 1 ∷ Err 2 ∷ [])
unfolding enc groups read_at read_any dec
vectors = (refl, refl)
