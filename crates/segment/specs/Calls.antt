-- The calls on segment rows: `write_segment` and `read_persisted_segment` (document 01, "Segment row" and "Where a call is turned back").
-- 25 comes first: a list above 512, a row above its limit, a borrowed list shorter than stated. Then 32 for the writer, 1 to 6 and 8 for the reader.
use Rattle.std.specs.Prelude.{ℕ, Bool, cond, ◌&&◌, List, leb, ℤ, length, take, Err}
use Rattle.index_types.specs.Limits.{segment_threshold}
use Rattle.vlq_core.specs.Writing.{Written, written, put_bytes}
use Rattle.segment_core.specs.Row.{row_bytes}
use Rattle.segment_core.specs.Reading.{row_of, no_seg}
use Rattle.segment_core.specs.Loading.{Loading, load}

-- ---- writing

-- n numbers are within 512, and within a borrowed list of len
abbrev pub held : ℕ → ℕ → Bool
held n len = leb n segment_threshold && leb n len

-- the first n of ts and the first m of bs, with box spill count b and tx spill count t
unfoldable pub write_of : (ts : List ℤ) (n : ℕ) (bs : List ℤ) (m : ℕ) → ℤ → ℤ → List ℕ → ℕ → Written
write_of ts n bs m b t l at = cond (held n (length ts) && held m (length bs)) (put_bytes (row_bytes (take n ts) (take m bs) b t) l at) (written (Err 25) l)

-- ---- reading

-- the row s of at most `limit` bytes, read into the lists l and m
unfoldable pub read_of : ℕ → List ℕ → List ℤ → List ℤ → Loading
read_of limit s l m = load (cond (leb segment_threshold (length l) && leb segment_threshold (length m)) (row_of limit s) (no_seg 25)) l m
