-- Both editions have the laws that the theorem asks of an edition: what was written under a spill's key is read back under it.
use mathlib.Core.Path.{◌≡◌, refl}
use mathlib.Core.List.Memᴰ
use mathlib.Core.List.{List, [], ◌∷◌}
use Prim.Native.Nat.{ℕ, ◌+◌, ◌≤◌, ◌<◌}
use native.Mathlib.Omega.{arith}
use lib.IntN.{ℤ, pos, negsuc, nat_abs}
use lib.ListN.{length}
use mir.Syntax.{w64}
use mir.Val.{SFits}
use Rattle.segment_id.proofs.KeyLaws.{row_key_length}
use Rattle.segment_core.proofs.BackLaws.{All64}
use Rattle.index_types.specs.declared.RowEdition.{RowEdition}
use Rattle.index_types.specs.declared.RowEdition.TheVariants.{One, Two}
use Rattle.buffer_core.specs.Edition.{edition_of, record_size}
use Rattle.buffer_core.proofs.SizeLaws.{sizes}
use Rattle.buffer_core.proofs.UnderLaws.{decode_few}
use Rattle.buffer_core.proofs.BackLaws.{spill_short, spill_back, redo_short, redo_back}
use Rattle.ledger.specs.Ledger.{Parent}
use Rattle.history.specs.EditionLaws.{Small, EditionLaws}

fits : (z : ℤ) → nat_abs z < 9223372036854775808 → SFits w64 z
fits (pos n) h = record { sfits = h }
fits (negsuc n) h = record { sfits = omega arith }

pub all_fit : (l : List ℤ) → Small l → All64 l
all_fit [] h = tt
all_fit (z ∷ l) h = (fits z (h z (Memᴰ.head refl)), all_fit l (λ x m. h x (Memᴰ.tail m)))

short_in : (v : RowEdition) → record_size v < 65536
short_in One = omega arith
short_in Two = omega arith

pub edition_laws : (v : RowEdition) (ids : Parent → List ℕ) → ((p : Parent) → length (ids p) ≡ 32) → EditionLaws (edition_of v) ids
edition_laws v ids long = record {
  wide = omega (arith, sizes v);
  short = short_in v;
  key_length = λ k p n. row_key_length p k n;
  encode_length = λ k p n l u h s. spill_short v (ids p) (long p) n (omega arith) l h (all_fit l s) k;
  decode_encode = λ k p n l u h s. spill_back v (ids p) (long p) n (omega arith) l h (all_fit l s) k;
  redo_length = λ p n row l new u e h s. redo_short v (ids p) (long p) n (omega arith) row l new h (all_fit new s) e;
  redo_decode = λ p n row l new u e h s. redo_back v (ids p) (long p) n (omega arith) row l new h (all_fit new s) e;
  decode_few = λ k p n row l e. decode_few v k (ids p) (pos n) row l e;
}
