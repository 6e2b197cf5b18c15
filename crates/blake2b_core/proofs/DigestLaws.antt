-- Laws of digests that callers cite: their lengths.
use Prim.Native.Nat.{ℕ}
use mathlib.Core.Path.{◌≡◌}
use mathlib.Core.List.{List}
use lib.ListN.{length}
use Rattle.blake2b_spec.specs.Blake2b.{blake2b, blake2b256}
use Rattle.blake2b_spec.proofs.TabulateLaws.{length_tabulate}

-- a digest has the length that was asked for
pub digest_length : (nn : ℕ) (s : List ℕ) → length (blake2b nn s) ≡ nn
unfolding blake2b
digest_length nn s = length_tabulate _ nn

pub digest256_length : (s : List ℕ) → length (blake2b256 s) ≡ 32
unfolding blake2b256
digest256_length s = digest_length 32 s
