-- Laws of the undo entry: its length, one law for each way out of encoding and decoding, and that an encoding is decoded to its entry.
use Prim.Native.Nat.{ℕ, ◌+◌, ◌≤◌, ◌<◌}
use mathlib.Core.Path.{◌≡◌, ap, ◌∙◌}
use mathlib.Core.Bool.{Bool, true, false}
use mathlib.Core.List.{List, ◌∷◌, ◌++◌}
use native.Mathlib.Omega.{arith}
use lib.ListN.{length, get_or, take, drop, length-append}
use borrow.Author.Tests.{ne_eqb, lt-ltb, le-ltb, le-leb, lt-leb}
use Rattle.stores.specs.Stores.{write, Put}
use Rattle.stores.proofs.StoreLaws.{sets_write}
use Rattle.big_endian.specs.BigEndian.{eight_bytes, value_at}
use Rattle.big_endian.proofs.ByteLaws.{length_eight}
use Rattle.undo_entries.specs.Entry.{encoding, encoded, encoded_of, no_header, accepted, refused_with, numbers_of, decoded_of}
use Rattle.undo_entries.specs.declared.UndoEntry.{UndoEntry}
use Rattle.std.specs.Prelude.{Ok, Err}

pub length_numbers : (m n : ℕ) → length (eight_bytes m ++ eight_bytes n) ≡ 16
length_numbers m n = omega (arith, length-append (eight_bytes m) (eight_bytes n), length_eight m, length_eight n)

-- ---- writing
pub encoding_known : (e : UndoEntry) → e.known ≡ true → encoding e ≡ 1 ∷ (e.header ++ (eight_bytes e.txs ++ eight_bytes e.boxes))
unfolding encoding
encoding_known e h = rw h

pub encoding_first : (e : UndoEntry) → e.known ≡ false → encoding e ≡ 0 ∷ (eight_bytes e.txs ++ eight_bytes e.boxes)
unfolding encoding
encoding_first e h = rw h

pub length_known : (e : UndoEntry) → e.known ≡ true → length e.header ≡ 32 → length (encoding e) ≡ 49
length_known e h k =
    let n = length_numbers e.txs e.boxes in
    let a = length-append e.header (eight_bytes e.txs ++ eight_bytes e.boxes) in
    ap length (encoding_known e h) ∙ omega arith

pub length_first : (e : UndoEntry) → e.known ≡ false → length (encoding e) ≡ 17
length_first e h = let n = length_numbers e.txs e.boxes in ap length (encoding_first e h) ∙ omega arith

module _ (e : UndoEntry) (l : List ℕ) where
  pub encode_short : length l < length (encoding e) → encoded (Err 32) l ≡ encoded_of e l
  unfolding encoded_of
  encode_short h = rw (lt-leb _ _ h)

  pub encode_done : (bs : List ℕ) → bs ≡ encoding e → length (encoding e) ≤ length l → (r : ℕ) (l' : List ℕ) → Put bs l 0 r l' → encoded (Ok r) l' ≡ encoded_of e l
  unfolding encoded_of
  encode_done bs q h r l' p =
      let w : l' ≡ write 0 (encoding e) l = p.1 ∙ sets_write bs l 0 (rw q (omega arith)) ∙ ap (λ (b : List ℕ). write 0 b l) q in
      let n : r ≡ length (encoding e) = p.0 ∙ rw q (omega arith) in
      rw (le-leb _ _ h, w, n)

-- ---- reading
module _ (known : Bool) (header s : List ℕ) (at : ℕ) where
  pub numbers_cut : length s < at + 16 → refused_with 29 ≡ numbers_of known header s at
  unfolding numbers_of
  numbers_cut h = rw (lt-ltb _ _ h)

  module _ (h : at + 16 ≤ length s) where
    pub numbers_over : at + 16 < length s → refused_with 30 ≡ numbers_of known header s at
    unfolding numbers_of
    numbers_over k = rw (le-ltb _ _ h, lt-ltb _ _ k)

    pub numbers_read : length s ≤ at + 16 → (m n : ℕ) → m ≡ value_at s at → n ≡ value_at s (at + 8)
        → accepted (record { known = known; header = header; txs = m; boxes = n }) ≡ numbers_of known header s at
    unfolding numbers_of
    numbers_read k m n p q = rw (le-ltb _ _ h, le-ltb _ _ k, p, q)

module _ (s : List ℕ) where
  pub decode_empty : length s ≡ 0 → refused_with 26 ≡ decoded_of s
  unfolding decoded_of
  decode_empty h = rw h

  module _ (some : length s ≡ 0 → ⊥) where
    pub decode_first : get_or s 0 0 ≡ 0 → numbers_of false no_header s 1 ≡ decoded_of s
    unfolding decoded_of
    decode_first h = rw (ne_eqb _ _ some, h)

    module _ (other : get_or s 0 0 ≡ 0 → ⊥) where
      pub decode_tag : (get_or s 0 0 ≡ 1 → ⊥) → refused_with 28 ≡ decoded_of s
      unfolding decoded_of
      decode_tag h = rw (ne_eqb _ _ some, ne_eqb _ _ other, ne_eqb _ _ h)

      pub decode_cut : get_or s 0 0 ≡ 1 → length s < 33 → refused_with 27 ≡ decoded_of s
      unfolding decoded_of
      decode_cut h k = rw (ne_eqb _ _ some, h, lt-ltb _ _ k)

      pub decode_known : get_or s 0 0 ≡ 1 → 33 ≤ length s → (header : List ℕ) → header ≡ take 32 (drop 1 s) → numbers_of true header s 33 ≡ decoded_of s
      unfolding decoded_of
      decode_known h k header e = rw (ne_eqb _ _ some, h, le-ltb _ _ k, e)
