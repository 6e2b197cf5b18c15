-- The undo entry of document 01 ("Beside the spend"): "tag 00, or 01 and 32 bytes; then two 8-byte numbers, high byte first: 17 or 49 bytes."
use Rattle.std.specs.Prelude.{ℕ, ◌+◌, Bool, true, false, cond, List, [], ◌∷◌, ◌++◌, eqb, leb, ltb, length, get_or, take, drop, replicate, Ok, Err}
use Rattle.stores.specs.Stores.{write}
use Rattle.big_endian.specs.BigEndian.{eight_bytes, value_at}
use Rattle.undo_entries.specs.declared.UndoEntry.{UndoEntry}
use Rattle.undo_entries.specs.Answers.{Encoded}
use Rattle.undo_entries.specs.declared.Decoded.{Decoded}

-- the tag, and the header's id where there is one
abbrev pub tagged : UndoEntry → List ℕ
tagged entry = cond entry.known (1 ∷ entry.header) (0 ∷ [])

-- an entry's bytes: the number of transactions stands before that of boxes
unfoldable pub encoding : UndoEntry → List ℕ
encoding entry = tagged entry ++ (eight_bytes entry.txs ++ eight_bytes entry.boxes)

-- ---- writing: the answer, and the output at exit
pub record Encoding : Type 0 where
  pub answer : Encoded
  pub out : List ℕ

abbrev pub encoded : Encoded → List ℕ → Encoding
encoded answer out = record { answer = answer; out = out }

-- at the front of the output; 32 where it is too short
unfoldable pub encoded_of : UndoEntry → List ℕ → Encoding
encoded_of entry l =
    cond (leb (length (encoding entry)) (length l))
    (encoded (Ok (length (encoding entry))) (write 0 (encoding entry) l))
    (encoded (Err 32) l)

-- ---- reading
abbrev pub no_header : List ℕ
no_header = replicate 32 0

abbrev pub no_entry : UndoEntry
no_entry = record { known = false; header = no_header; txs = 0; boxes = 0 }

abbrev pub accepted : UndoEntry → Decoded
accepted entry = record { answer = Ok tt; entry = entry }

-- a refusal gives the empty entry
abbrev pub refused_with : ℕ → Decoded
refused_with code = record { answer = Err code; entry = no_entry }

-- "29 numbers cut; 30 bytes left over"
unfoldable pub numbers_of : Bool → (header bytes : List ℕ) → ℕ → Decoded
numbers_of known header s at =
    cond (ltb (length s) (at + 16)) (refused_with 29)
    (cond (ltb (at + 16) (length s)) (refused_with 30)
    (accepted (record { known = known; header = header; txs = value_at s at; boxes = value_at s (at + 8) })))

-- "26 empty; 28 tag; 27 id cut", then the numbers
unfoldable pub decoded_of : List ℕ → Decoded
decoded_of s =
    cond (eqb (length s) 0) (refused_with 26)
    (cond (eqb (get_or s 0 0) 0) (numbers_of false no_header s 1)
    (cond (eqb (get_or s 0 0) 1)
    (cond (ltb (length s) 33) (refused_with 27) (numbers_of true (take 32 (drop 1 s)) s 33))
    (refused_with 28)))
