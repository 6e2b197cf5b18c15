-- The id at a place is the part of 32 bytes at that place, and two ids whose first bytes differ differ.
use native.Mathlib.Omega.{arith}
use Prim.Native.Nat.{ℕ, zero, suc, ◌*◌, ◌<◌}
use mathlib.Core.Path.{◌≡◌, refl, ap, ◌∙◌}
use mathlib.Core.Bool.{Bool, false, ◌&&◌}
use mathlib.Core.List.{List, [], ◌∷◌}
use lib.ListN.{get_or, take, drop}
use lib.Seq.{drop-drop}
use borrow.Author.Tests.{ne_eqb}
use Rattle.std.specs.Simd.{first_chunks}
use Rattle.stores.specs.Equal.{same_bytes}
use Rattle.balance_tokens.specs.Tokens.{id_at}

part_at : (k i : ℕ) (ids : List ℕ) → i < k → get_or (first_chunks 32 k ids) i [] ≡ id_at ids i
part_at zero i ids h = absurd (omega arith)
part_at (suc k) zero ids h = refl
part_at (suc k) (suc i) ids h = part_at k i (drop 32 ids) (omega arith) ∙ ap (take 32) (drop-drop (i * 32) 32 ids ∙ ap (λ (m : ℕ). drop m ids) (omega arith))

pub id_in : (parts : List (List ℕ)) (k i : ℕ) (ids : List ℕ) → parts ≡ first_chunks 32 k ids → i < k → get_or parts i [] ≡ id_at ids i
id_in parts k i ids e h = ap (λ (p : List (List ℕ)). get_or p i []) e ∙ part_at k i ids h

pub same_first : (x y : List ℕ) → (get_or x 0 0 ≡ get_or y 0 0 → ⊥) → same_bytes x y ≡ false
unfolding same_bytes
same_first [] [] h = absurd (h refl)
same_first [] (y ∷ ys) h = refl
same_first (x ∷ xs) [] h = refl
same_first (x ∷ xs) (y ∷ ys) h = ap (λ (t : Bool). t && same_bytes xs ys) (ne_eqb x y h)
