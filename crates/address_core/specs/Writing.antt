-- Writing an address record (document 01, "Where a call is turned back"): 25 for a list above 512 or above what is borrowed and for a balance count above 128,
-- then 32 where the output is too short.
use Rattle.std.specs.Prelude.{ℕ, Bool, cond, ◌&&◌, List, leb, ℤ, length, take, Err}
use Rattle.index_types.specs.Limits.{token_limit}
use Rattle.vlq_core.specs.Writing.{Written, written, put_bytes}
use Rattle.segment_core.specs.Row.{row_bytes}
use Rattle.segment.specs.Calls.{held}
use Rattle.address_core.specs.Bytes.{address_bytes}

-- 25 unless: both lists are held, and the balance has at most 128 tokens
unfoldable pub buffers_ok : (n len m len' count : ℕ) → Bool
buffers_ok n len m len' count = (held n len && held m len') && leb count token_limit

-- the first n of ts and the first m of bs, with box spill count b and tx spill count t, behind the hash and the first k tokens of a balance
unfoldable pub write_address : (hash : List ℕ) (has : Bool) (nanos : ℤ) (ids : List ℕ) (amounts : List ℤ) (k : ℕ)
    (ts : List ℤ) (n : ℕ) (bs : List ℤ) (m : ℕ) (b t : ℤ) → List ℕ → ℕ → Written
write_address hash has nanos ids amounts k ts n bs m b t l at =
    cond (buffers_ok n (length ts) m (length bs) k)
    (put_bytes (address_bytes hash has nanos ids (take k amounts) (row_bytes (take n ts) (take m bs) b t)) l at)
    (written (Err 25) l)
