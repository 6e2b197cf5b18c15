-- The starred lines of document 01, "Trial values", as one table: "Starred ones are proved together as one table theorem".
-- Each is a value of the definition that the public call's contract cites: coded numbers as `put_i64` writes them, rows as `write_segment` does, spends
-- and unspends as `flip_box_segment_entry` and `unflip_box_segment_entry` do.
use Rattle.std.specs.Prelude.{◌≡◌, List, [], ◌∷◌, ℕ, ℤ, pos, negsuc, length, replicate, Ok, Err}
use Rattle.index_types.specs.declared.ListCounts.{ListCounts}
use Rattle.vlq_core.specs.Zigzag.{zig}
use Rattle.vlq_core.specs.Groups.{enc}
use Rattle.vlq_core.specs.Writing.{Written, written}
use Rattle.segment_core.specs.Loading.{padded}
use Rattle.segment.specs.Calls.{write_of}
use Rattle.buffer_core.specs.declared.Direction.{Direction}
use Rattle.buffer_core.specs.declared.Direction.TheVariants.{Spend, Unspend}
use Rattle.buffer_core.specs.Edition.{edition_1}
use Rattle.buffer_core.specs.Flip.{Flipping, flipping, flip_of}

-- the bytes of a coded number
abbrev pub coded : ℤ → List ℕ
coded n = enc (zig n)

-- a row of the transactions ts and the boxes bs, with box spill count b and tx spill count t, written to the front of an output of n zeros
abbrev pub row_written : (ts bs : List ℤ) (b t : ℤ) → ℕ → Written
row_written ts bs b t n = write_of ts (length ts) bs (length bs) b t (replicate n 0) 0

-- a spend or an unspend in a head of n numbers: no spills, no staged spills, no rows in the table
abbrev pub no_records : ListCounts
no_records = record { count = 0; capacity = 0 }

abbrev pub flipped_in : Direction → (parent : List ℕ) → ℕ → (target : ℤ) → List ℤ → Flipping
flipped_in d parent n target head = flip_of edition_1 d parent (record { len = n; spills = pos 0 }) target no_records [] no_records [] head

-- it is accepted, or refused, and the head holds the numbers zs, which zeros follow to 512
abbrev pub accepted : List ℤ → Flipping
accepted zs = flipping (Ok no_records) (padded zs) []

abbrev pub refused : ℕ → List ℤ → Flipping
refused code zs = flipping (Err code) (padded zs) []

pub record TestVectors : Type 0 where
  -- "0 is 00"
  pub coded_0 : coded (pos 0) ≡ 0x00 ∷ []
  -- "63 is 7E"
  pub coded_63 : coded (pos 63) ≡ 0x7e ∷ []
  -- "64 is 80 01"
  pub coded_64 : coded (pos 64) ≡ 0x80 ∷ 0x01 ∷ []
  -- "-64 is 7F"
  pub coded_minus_64 : coded (negsuc 63) ≡ 0x7f ∷ []
  -- "-65 is 81 01"
  pub coded_minus_65 : coded (negsuc 64) ≡ 0x81 ∷ 0x01 ∷ []
  -- "-2^63 is nine FF, then 01"
  pub coded_minimum : coded (negsuc 9223372036854775807) ≡ 0xff ∷ 0xff ∷ 0xff ∷ 0xff ∷ 0xff ∷ 0xff ∷ 0xff ∷ 0xff ∷ 0xff ∷ 0x01 ∷ []
  -- "Row with txs [1], boxes [-1], counts 0 and 1: 02 02 02 01 00 02"
  pub row : row_written (pos 1 ∷ []) (negsuc 0 ∷ []) (pos 0) (pos 1) 6 ≡ written (Ok 6) (0x02 ∷ 0x02 ∷ 0x02 ∷ 0x01 ∷ 0x00 ∷ 0x02 ∷ [])
  -- "Empty: 00 00 00 00"
  pub row_empty : row_written [] [] (pos 0) (pos 0) 4 ≡ written (Ok 4) (0x00 ∷ 0x00 ∷ 0x00 ∷ 0x00 ∷ [])
  -- "[5, 5] spent once: [-5, 5]"
  pub spent_once : (parent : List ℕ) → flipped_in Spend parent 2 (pos 5) (padded (pos 5 ∷ pos 5 ∷ [])) ≡ accepted (negsuc 4 ∷ pos 5 ∷ [])
  -- "twice, then unspent: [5, -5]"
  pub spent_twice_unspent : (parent : List ℕ) →
      let once = flipped_in Spend parent 2 (pos 5) (padded (pos 5 ∷ pos 5 ∷ [])) in
      let twice = flipped_in Spend parent 2 (pos 5) once.head in
      (twice ≡ accepted (negsuc 4 ∷ negsuc 4 ∷ [])) × (flipped_in Unspend parent 2 (pos 5) twice.head ≡ accepted (pos 5 ∷ negsuc 4 ∷ []))
  -- "Spending 5 in [-5]: 14"
  pub no_copy_left : (parent : List ℕ) → flipped_in Spend parent 1 (pos 5) (padded (negsuc 4 ∷ [])) ≡ refused 14 (negsuc 4 ∷ [])
  -- "in [4]: 15"
  pub not_seen : (parent : List ℕ) → flipped_in Spend parent 1 (pos 5) (padded (pos 4 ∷ [])) ≡ refused 15 (pos 4 ∷ [])
  -- "Spending 0 in [0]: accepted"
  pub zero_spent : (parent : List ℕ) → flipped_in Spend parent 1 (pos 0) (padded (pos 0 ∷ [])) ≡ accepted (pos 0 ∷ [])
