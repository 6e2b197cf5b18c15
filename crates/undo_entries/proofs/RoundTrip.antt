-- An encoding is decoded to its entry, so that no two entries share bytes.
use Prim.Native.Nat.{ℕ, ◌+◌, ◌<◌}
use mathlib.Core.Path.{◌≡◌, refl, sym, ap, ◌∙◌}
use mathlib.Core.Bool.{Bool, true, false, cond}
use mathlib.Core.List.{List, [], ◌∷◌, ◌++◌, append_assoc, append-nil}
use native.Mathlib.Omega.{arith}
use lib.ListN.{length, take, drop, length-append}
use lib.Seq.{take_at}
use Rattle.big_endian.specs.BigEndian.{eight_bytes, value_at}
use Rattle.big_endian.proofs.ByteLaws.{length_eight, value_at_back}
use Rattle.undo_entries.specs.Entry.{encoding, no_header, accepted, numbers_of, decoded_of}
use Rattle.undo_entries.specs.declared.UndoEntry.{UndoEntry}
use Rattle.undo_entries.specs.declared.Decoded.{Decoded}
use Rattle.undo_entries.proofs.EntryLaws.{length_numbers, encoding_known, encoding_first, numbers_read, decode_first, decode_known}

-- an entry as the code makes it: 32 header bytes, zero where no header is known, and numbers of 64 bits
pub record Tidy (e : UndoEntry) : Type 0 where
  pub id_in : length e.header ≡ 32
  pub plain : e.known ≡ false → e.header ≡ no_header
  pub txs_in : e.txs < 18446744073709551616
  pub boxes_in : e.boxes < 18446744073709551616

-- the numbers behind a front of `at` bytes are read back
module _ (known : Bool) (header front : List ℕ) (at m n : ℕ) (e : length front ≡ at) (hm : m < 18446744073709551616) (hn : n < 18446744073709551616) where
  numbers_back : numbers_of known header (front ++ (eight_bytes m ++ eight_bytes n)) at ≡ accepted (record { known = known; header = header; txs = m; boxes = n })
  numbers_back =
      let s : List ℕ = front ++ (eight_bytes m ++ eight_bytes n) in
      let long : length s ≡ at + 16 = omega (arith, length-append front (eight_bytes m ++ eight_bytes n), length_numbers m n) in
      let first : value_at s at ≡ m = value_at_back m front (eight_bytes n) at e hm in
      let two : s ≡ (front ++ eight_bytes m) ++ (eight_bytes n ++ []) = sym (append_assoc front (eight_bytes m) (eight_bytes n)) ∙ ap (λ (l : List ℕ). (front ++ eight_bytes m) ++ l) (sym (append-nil (eight_bytes n))) in
      let k : length (front ++ eight_bytes m) ≡ at + 8 = omega (arith, length-append front (eight_bytes m), length_eight m) in
      let second : value_at s (at + 8) ≡ n = ap (λ (l : List ℕ). value_at l (at + 8)) two ∙ value_at_back n (front ++ eight_bytes m) [] (at + 8) k hn in
      sym (numbers_read known header s at (omega arith) (omega arith) m n (sym first) (sym second))

-- decode of an encoding is the entry
pub decode_back : (e : UndoEntry) → Tidy e → decoded_of (encoding e) ≡ accepted e
decode_back e t = by_known e.known refl
  where
    by_known : (b : Bool) → e.known ≡ b → decoded_of (encoding e) ≡ accepted e
    by_known true h =
        let front : List ℕ = 1 ∷ e.header in
        let s : List ℕ = front ++ (eight_bytes e.txs ++ eight_bytes e.boxes) in
        let long : length s ≡ 49 = omega (arith, length-append front (eight_bytes e.txs ++ eight_bytes e.boxes), length_numbers e.txs e.boxes, t.id_in) in
        let id : e.header ≡ take 32 (drop 1 s) = sym (take_at e.header (eight_bytes e.txs ++ eight_bytes e.boxes) 32 t.id_in) in
        let in_front : length front ≡ 33 = omega (arith, t.id_in) in
        ap decoded_of (encoding_known e h)
        ∙ sym (decode_known s (λ q. omega arith) (λ q. omega arith) refl (omega arith) e.header id)
        ∙ numbers_back true e.header front 33 e.txs e.boxes in_front t.txs_in t.boxes_in
        ∙ ap (λ (b : Bool). accepted (record { known = b; header = e.header; txs = e.txs; boxes = e.boxes })) (sym h)
    by_known false h =
        let front : List ℕ = 0 ∷ [] in
        let s : List ℕ = front ++ (eight_bytes e.txs ++ eight_bytes e.boxes) in
        let long : length s ≡ 17 = omega (arith, length-append front (eight_bytes e.txs ++ eight_bytes e.boxes), length_numbers e.txs e.boxes) in
        ap decoded_of (encoding_first e h)
        ∙ sym (decode_first s (λ q. omega arith) refl)
        ∙ numbers_back false no_header front 1 e.txs e.boxes refl t.txs_in t.boxes_in
        ∙ (λ i. accepted (record { known = sym h i; header = sym (t.plain h) i; txs = e.txs; boxes = e.boxes }))

abbrev entry_in : Decoded → UndoEntry
entry_in d = d.entry

-- no two entries share bytes
pub entries_apart : (d e : UndoEntry) → Tidy d → Tidy e → encoding d ≡ encoding e → d ≡ e
entries_apart d e s t q = ap entry_in (sym (decode_back d s) ∙ ap decoded_of q ∙ decode_back e t)

-- an entry with the header's places zero where no header is known: what encoding it and decoding the bytes gives, whatever the places held
abbrev pub tidied : UndoEntry → UndoEntry
tidied e = record { known = e.known; header = cond e.known e.header no_header; txs = e.txs; boxes = e.boxes }

pub decode_tidied : (e : UndoEntry) → length e.header ≡ 32 → e.txs < 18446744073709551616 → e.boxes < 18446744073709551616
    → decoded_of (encoding e) ≡ accepted (tidied e)
unfolding encoding
decode_tidied e long m n = by_known e.known refl
  where
    by_known : (b : Bool) → e.known ≡ b → decoded_of (encoding e) ≡ accepted (tidied e)
    by_known true h =
        decode_back e (record { id_in = long; plain = λ q. (let z : ◌≡◌ {A = ℕ} 0 1 = cc in absurd (omega arith)); txs_in = m; boxes_in = n }) ∙ rw h
    by_known false h = ap decoded_of same ∙ decode_back (tidied e) (record { id_in = zeros; plain = λ q. rw h; txs_in = m; boxes_in = n })
      where
        zeros : length (tidied e).header ≡ 32
        zeros = rw h

        same : encoding e ≡ encoding (tidied e)
        same = rw h
