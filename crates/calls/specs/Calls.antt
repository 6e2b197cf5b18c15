-- The call at a position of the runner's input (document 01, "Beside the spend"): "standard input holds calls, one byte of kind, then a body. 1 append box,
-- 2 append tx, 3 spend, 4 unspend: a parent byte (0 or 1), 8 bytes of number. 5 pop box, 6 pop tx: parent. 7 flush: none. 8 credit, 9 debit: parent, 8 bytes
-- nanoErgs, a token byte, 8 bytes amount. Numbers are signed, high byte first".
use Rattle.std.specs.Prelude.{ℕ, ◌+◌, ◌-◌, ◌<◌, List, Bool, cond, ℤ, pos, negsuc, length, get_or, leb, ltb, eqb}
use Rattle.big_endian.specs.BigEndian.{value_at}
use Rattle.segment_id.specs.declared.Kind.TheVariants.{Box, Tx}
use Rattle.buffer_core.specs.declared.Direction.TheVariants.{Spend, Unspend}
use Rattle.calls.specs.declared.Call.{Call}
use Rattle.calls.specs.declared.Call.TheVariants.{Append, Flip, Pop, Flush, Change, Bad, Cut, End}

-- the signed number of 64 bits
abbrev pub signed_of : ℕ → ℤ
signed_of u = cond (ltb u 9223372036854775808) (pos u) (negsuc (18446744073709551615 - u))

unfoldable pub number_at : List ℕ → ℕ → ℤ
number_at s at = signed_of (value_at s at)

-- kinds 1 to 4
unfoldable pub with_number : (kind parent : ℕ) → ℤ → Call
with_number kind p n =
    cond (eqb kind 1) (Append Box p n) (cond (eqb kind 2) (Append Tx p n) (cond (eqb kind 3) (Flip Spend p n) (Flip Unspend p n)))

-- kinds 8 and 9, of which left bytes are there
unfoldable pub with_token : (adding : Bool) (parent : ℕ) → ℤ → (left : ℕ) → List ℕ → ℕ → Call
with_token adding p nanos left s at = cond (ltb left 19) Cut (Change adding p nanos (get_or s (at + 10) 0) (number_at s (at + 11)))

-- kinds that name one of the parents
unfoldable pub with_parent : (kind parent parents left : ℕ) → List ℕ → ℕ → Call
with_parent kind p parents left s at =
    cond (leb parents p) Bad
    (cond (eqb kind 5) (Pop Box p)
    (cond (eqb kind 6) (Pop Tx p)
    (cond (ltb left 10) Cut
    (cond (ltb kind 5) (with_number kind p (number_at s (at + 2)))
    (with_token (eqb kind 8) p (number_at s (at + 2)) left s at)))))

unfoldable pub of_kind : (kind parents left : ℕ) → List ℕ → ℕ → Call
of_kind kind parents left s at =
    cond (eqb kind 7) Flush
    (cond (eqb kind 0) Bad
    (cond (ltb 9 kind) Bad
    (cond (ltb left 2) Cut
    (with_parent kind (get_or s (at + 1) 0) parents left s at))))

-- "31 unknown kind, parent above 1, body cut": a call of parents below `parents`, `Bad`, `Cut`, or `End` behind the last byte
unfoldable pub call_at : (parents : ℕ) → List ℕ → ℕ → Call
call_at parents s at = cond (leb (length s) at) End (of_kind (get_or s at 0) parents (length s - at) s at)

-- the bytes of a call
abbrev pub size_of : Call → ℕ
size_of (Append k p n) = 10
size_of (Flip d p n) = 10
size_of (Pop k p) = 2
size_of Flush = 1
size_of (Change a p n t v) = 19
size_of Bad = 0
size_of Cut = 0
size_of End = 0

-- the call's parent is one of so many
abbrev pub Among : (parents : ℕ) → Call → Type 0
Among parents (Append k p n) = p < parents
Among parents (Flip d p n) = p < parents
Among parents (Pop k p) = p < parents
Among parents Flush = Unit {0}
Among parents (Change a p n t v) = p < parents
Among parents Bad = Unit {0}
Among parents Cut = Unit {0}
Among parents End = Unit {0}

-- how reading ends: 1 at the end of the bytes, 2 inside a call, refusal 31 at what is no call
abbrev pub end_of : Call → ℕ
end_of (Append k p n) = 0
end_of (Flip d p n) = 0
end_of (Pop k p) = 0
end_of Flush = 0
end_of (Change a p n t v) = 0
end_of Bad = 31
end_of Cut = 2
end_of End = 1
