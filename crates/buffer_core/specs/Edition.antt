-- The editions of the spill rows: how long records and rows may be, under which key a spill stands, and how its numbers are written and read.
-- Every definition of the buffer's calls takes the edition as an argument. Document 02, U7: "Edition 2 of the row writes them out: the parent's 32 bytes,
-- a kind byte (1 box, 2 transaction), the spill number as a 32-bit coded number, then the old body. Its rows may have 10,292 bytes and its records grow
-- alike". "35 when the written parent, kind or number differs from those behind the key, tested after the row is decoded and before 13 or 20."
use Rattle.std.specs.Prelude.{ℕ, Bool, true, cond, ◌&&◌, List, [], ◌∷◌, ◌++◌, leb, eqb, ℤ, pos, length, take, get_or, Ok, Err}
use Rattle.stores.specs.Equal.{same_bytes}
use Rattle.vlq_core.specs.Zigzag.{zig}
use Rattle.vlq_core.specs.Groups.{enc}
use Rattle.vlq_core.specs.Answers.{Got}
use Rattle.vlq_core.specs.Reading.{read_at}
use Rattle.segment_id.specs.Key.{row_key}
use Rattle.segment_id.specs.declared.Kind.{Kind}
use Rattle.segment_id.specs.declared.Kind.TheVariants.{Box, Tx}
use Rattle.segment_core.specs.Row.{row_bytes, row_limit}
use Rattle.segment_core.specs.Reading.{Seg, seg, no_seg, segment_at, ended}
use Rattle.index_types.specs.declared.RowEdition.{RowEdition}
use Rattle.index_types.specs.declared.RowEdition.TheVariants.{One, Two}

-- what reading a row gives: its numbers of a kind, or a refusal
pub data RowRead : Type 0 where
  bad : ℕ → RowRead
  good : List ℤ → RowRead

pub record Edition : Type 0 where
  -- the bytes of a record, and of the longest row
  pub size : ℕ
  pub limit : ℕ
  -- the key of a parent's spill
  pub key : Kind → (parent : List ℕ) → ℤ → List ℕ
  -- the row of a spill's numbers, and the numbers of a kind that a row under the spill's key holds
  pub encode : Kind → (parent : List ℕ) → ℤ → List ℤ → List ℕ
  pub decode : Kind → (parent : List ℕ) → ℤ → List ℕ → RowRead
  -- the row of a box spill with other boxes: what else it holds stays
  pub with_boxes : (parent : List ℕ) → ℤ → List ℕ → List ℤ → List ℕ

-- ---- sizes

-- "10,254 bytes"; "Its rows may have 10,292 bytes"
abbrev pub row_limit_of : RowEdition → ℕ
row_limit_of One = row_limit
row_limit_of Two = 10292

-- "A record has 32 key bytes, a 2-byte length (high byte first)" and the longest row
abbrev pub record_size : RowEdition → ℕ
record_size One = 10288
record_size Two = 10326

-- where a header's spill number stands, and the most bytes of a header: the parent's 32, the kind byte, and the 5 of the longest number
abbrev pub number_at : ℕ
number_at = 33

abbrev pub header_limit : ℕ
header_limit = 38

-- ---- what a row says of itself

abbrev pub kind_byte : Kind → ℕ
kind_byte Box = 1
kind_byte Tx = 2

abbrev pub header : RowEdition → Kind → (parent : List ℕ) → ℤ → List ℕ
header One kind parent n = []
header Two kind parent n = parent ++ (kind_byte kind ∷ enc (zig n))

-- the coded spill number that a row writes and where its body begins; a header that is cut gives 1
abbrev pub body_at : RowEdition → List ℕ → Got
body_at One s = Ok (0, 0)
body_at Two s = read_at 32 s number_at

-- whether the row s, which writes the coded number c, is of the spill that it should be of
abbrev pub says : RowEdition → Kind → (parent : List ℕ) → ℤ → List ℕ → ℕ → Bool
says One kind parent n s c = true
says Two kind parent n s c = same_bytes (take 32 s) parent && (eqb (get_or s 32 0) (kind_byte kind) && eqb c (zig n))

-- ---- reading and writing

-- a spill's row holds the numbers of its kind, no others, and spill counts of 0
abbrev pub spill_bytes : Kind → List ℤ → List ℕ
spill_bytes Box zs = row_bytes [] zs (pos 0) (pos 0)
spill_bytes Tx zs = row_bytes zs [] (pos 0) (pos 0)

abbrev pub numbers_of : Kind → Seg → RowRead
numbers_of Box (seg ts bs b t n) = good bs
numbers_of Tx (seg ts bs b t n) = good ts
numbers_of kind (no_seg r) = bad r

-- 35 once the row is decoded
abbrev pub named : Bool → Seg → Seg
named is (seg ts bs b t n) = cond is (seg ts bs b t n) (no_seg 35)
named is (no_seg r) = no_seg r

abbrev pub body_then : (ℕ → ℕ → Seg) → Got → Seg
body_then f (Ok (c, n)) = f c n
body_then f (Err r) = no_seg r

-- the row s under the key of a spill: 25, the header's and the body's refusals, 8, 35
unfoldable pub row_under : RowEdition → Kind → (parent : List ℕ) → ℤ → List ℕ → Seg
row_under v kind parent n s =
    cond (leb (length s) (row_limit_of v))
    (body_then (λ c at. named (says v kind parent n s c) (ended true (length s) (segment_at s at))) (body_at v s))
    (no_seg 25)

-- the row with other boxes: the header, and what the segment holds beside its boxes
abbrev pub boxes_into : List ℕ → Seg → List ℕ → List ℤ → List ℕ
boxes_into front (seg ts bs b t n) s bs' = front ++ row_bytes ts bs' b t
boxes_into front (no_seg r) s bs' = s

unfoldable pub redo_under : RowEdition → (parent : List ℕ) → ℤ → List ℕ → List ℤ → List ℕ
redo_under v parent n s bs' = boxes_into (header v Box parent n) (row_under v Box parent n s) s bs'

-- an edition; its fields compute for any v, so that one proof serves both
abbrev pub edition_of : RowEdition → Edition
edition_of v = record {
  size = record_size v;
  limit = row_limit_of v;
  key = λ kind parent n. row_key parent kind n;
  encode = λ kind parent n zs. header v kind parent n ++ spill_bytes kind zs;
  decode = λ kind parent n row. numbers_of kind (row_under v kind parent n row);
  with_boxes = redo_under v;
}

-- edition 1, that of document 01
abbrev pub edition_1 : Edition
edition_1 = edition_of One
