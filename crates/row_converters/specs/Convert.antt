-- A row turned from one edition into the other (document 02, U7): "A converter takes an edition 1 row with its parent, kind and number and gives edition 2;
-- a second one, given the same three, goes back; both refuse as the readers do, then by 35 (also a kind not 1 or 2), then 32."
-- The kind is a byte, 1 box or 2 transaction, and the spill number any signed 32-bit one.
use Rattle.std.specs.Prelude.{ℕ, true, cond, List, ◌++◌, leb, ℤ, length, drop, Ok, Err}
use Rattle.vlq_core.specs.Answers.{Got}
use Rattle.vlq_core.specs.Writing.{Written, written, put_bytes}
use Rattle.index_types.specs.declared.RowEdition.{RowEdition}
use Rattle.segment_core.specs.Reading.{Seg, seg, no_seg, segment_at, ended}
use Rattle.buffer_core.specs.Edition.{row_limit_of, body_at, named}
use Rattle.row_fronts.specs.Fronts.{front, tells}

-- a row that was read goes to the front of the output, "then the old body"; 32 where it does not fit
abbrev pub put_row : (front body : List ℕ) → Seg → List ℕ → Written
put_row front body (seg ts bs b t n) out = put_bytes (front ++ body) out 0
put_row front body (no_seg r) out = written (Err r) out

abbrev pub start_then : (ℕ → ℕ → Written) → List ℕ → Got → Written
start_then f out (Ok (c, at)) = f c at
start_then f out (Err r) = written (Err r) out

-- the row s of edition v as one of edition w: 25, the header's and the body's refusals, 8, 35, 32
unfoldable pub convert : (v w : RowEdition) → (parent : List ℕ) → (kind : ℕ) → ℤ → (s out : List ℕ) → Written
convert v w parent k n s out =
    cond (leb (length s) (row_limit_of v))
    (start_then (λ c at. put_row (front w parent k n) (drop at s) (named (tells v parent k n s c) (ended true (length s) (segment_at s at))) out) out (body_at v s))
    (written (Err 25) out)
