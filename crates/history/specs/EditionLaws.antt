-- What the fork-undo theorem asks of an edition of the rows: sizes that fit, keys of 32 bytes, and that what was written under a spill's key is read back
-- under it, for the parents' ids in use and every spill number. Both editions have it (proofs/Editions.antt).
use Rattle.std.specs.Prelude.{◌≡◌, ℕ, ◌+◌, ◌≤◌, ◌<◌, ℤ, pos, nat_abs, length}
use mathlib.Core.List.{List, Memᴰ}
use Rattle.index_types.specs.Limits.{segment_threshold}
use Rattle.segment_id.specs.declared.Kind.{Kind}
use Rattle.segment_id.specs.declared.Kind.TheVariants.{Box}
use Rattle.buffer_core.specs.Edition.{Edition, good}
use Rattle.ledger.specs.Ledger.{Parent}

-- every number but -2^63
abbrev pub Small : List ℤ → Type 0
Small l = (x : ℤ) → Memᴰ x l → nat_abs x < 9223372036854775808

pub record EditionLaws (E : Edition) (ids : Parent → List ℕ) : Type 0 where
  pub wide : 34 + E.limit ≤ E.size
  pub short : E.size < 65536
  pub key_length : (k : Kind) (p : List ℕ) (n : ℤ) → length (E.key k p n) ≡ 32
  pub encode_length : (k : Kind) (p : Parent) (n : ℕ) (l : List ℤ) → n < 2147483647 → length l ≤ segment_threshold → Small l → length (E.encode k (ids p) (pos n) l) ≤ E.limit
  pub decode_encode : (k : Kind) (p : Parent) (n : ℕ) (l : List ℤ) → n < 2147483647 → length l ≤ segment_threshold → Small l → E.decode k (ids p) (pos n) (E.encode k (ids p) (pos n) l) ≡ good l
  pub redo_length : (p : Parent) (n : ℕ) (row : List ℕ) (l new : List ℤ) → n < 2147483647 → E.decode Box (ids p) (pos n) row ≡ good l → length new ≤ segment_threshold → Small new
      → length (E.with_boxes (ids p) (pos n) row new) ≤ E.limit
  pub redo_decode : (p : Parent) (n : ℕ) (row : List ℕ) (l new : List ℤ) → n < 2147483647 → E.decode Box (ids p) (pos n) row ≡ good l → length new ≤ segment_threshold → Small new
      → E.decode Box (ids p) (pos n) (E.with_boxes (ids p) (pos n) row new) ≡ good new
  pub decode_few : (k : Kind) (p : Parent) (n : ℕ) (row : List ℕ) (l : List ℤ) → E.decode k (ids p) (pos n) row ≡ good l → length l ≤ segment_threshold
