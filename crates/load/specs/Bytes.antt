-- Drawn calls as the runner reads them (document 01, "Call runner"): "one byte of kind, then a body. 1 append box, 2 append tx, 3 spend, 4 unspend: a parent byte
-- (0 or 1), 8 bytes of number. .. 7 flush: none. .. Numbers are signed, high byte first". That they are read so is a law (`load_runs`).
use Rattle.std.specs.Prelude.{ℕ, List, [], ◌∷◌, ◌++◌, ℤ, nat_abs}
use Rattle.big_endian.specs.BigEndian.{eight_bytes}
use Rattle.segment_id.specs.declared.Kind.{Kind}
use Rattle.segment_id.specs.declared.Kind.TheVariants.{Box, Tx}
use Rattle.buffer_core.specs.declared.Direction.{Direction}
use Rattle.buffer_core.specs.declared.Direction.TheVariants.{Spend, Unspend}
use Rattle.calls.specs.declared.Call.{Call}
use Rattle.calls.specs.declared.Call.TheVariants.{Append, Flip, Pop, Flush, Change, Bad, Cut, End}
use Rattle.load_core.specs.declared.Source.{Source}
use Rattle.load_core.specs.Draw.{calls_from}

abbrev pub append_byte : Kind → ℕ
append_byte Box = 1
append_byte Tx = 2

abbrev pub flip_byte : Direction → ℕ
flip_byte Spend = 3
flip_byte Unspend = 4

-- "All calls go to parent 0"; a drawn number is not negative
unfoldable pub numbered : ℕ → ℤ → List ℕ
numbered kind z = kind ∷ 0 ∷ eight_bytes (nat_abs z)

-- pops and changes are never drawn
abbrev pub call_bytes : Call → List ℕ
call_bytes (Append k p z) = numbered (append_byte k) z
call_bytes (Flip d p z) = numbered (flip_byte d) z
call_bytes Flush = 7 ∷ []
call_bytes (Pop k p) = []
call_bytes (Change a p n t v) = []
call_bytes Bad = []
call_bytes Cut = []
call_bytes End = []

unfoldable pub all_bytes : List Call → List ℕ
all_bytes [] = []
all_bytes (c ∷ cs) = call_bytes c ++ all_bytes cs

-- the bytes of the next n calls
abbrev pub load_bytes : ℕ → Source → List ℕ
load_bytes n g = all_bytes (calls_from n g)
