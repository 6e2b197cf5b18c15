-- What a driver's function reads at a place of an input or of a journal: the item that stands there, with its tokens left in the bytes.
use Rattle.std.specs.Prelude.{ℕ, ◌+◌, ◌*◌, ◌-◌, ◌/◌, ◌≤◌, ◌<◌, ◌≡◌, Bool, true, false, cond, ◌&&◌, List, eqb, leb, ltb, ℤ, length}
use Rattle.segment_id.specs.declared.Kind.TheVariants.{Box, Tx}
use Rattle.ledger.specs.Calls.{append, spend, credit, debit, boxes, txs}
use Rattle.ledger.specs.Run.{call, flush}
use Rattle.driver_core.specs.Steps.{unspends, pops}
use Rattle.driver_core.specs.Bytes.{Item, is, takes, bad, cut, end, header_bytes, id_bytes, token_bytes, tokens_at, is_change, kind_at, parent_at, value_in, tokens_told, size_at}
use Rattle.driver_calls.specs.declared.Read.{Read}
use Rattle.driver_calls.specs.declared.Read.TheVariants.{Append, Spend, Unspend, Pop, Flush, Change, Bad, Cut, End}

-- the item that was read from s
abbrev pub item_of : List ℕ → Read → Item
item_of s (Append Box p n) = is (call (append (boxes p) n))
item_of s (Append Tx p n) = is (call (append (txs p) n))
item_of s (Spend p n) = is (call (spend p n))
item_of s (Unspend p n) = takes (unspends p n)
item_of s (Pop k p) = takes (pops k p)
item_of s Flush = is flush
item_of s (Change true p n t k) = is (call (credit p n (tokens_at s t (t + k * id_bytes) k)))
item_of s (Change false p n t k) = is (call (debit p n (tokens_at s t (t + k * id_bytes) k)))
item_of s Bad = bad
item_of s Cut = cut
item_of s End = end

-- kinds 4 to 6
abbrev pub taking_read : (kind parent : ℕ) → ℤ → Read
taking_read kind p n = cond (eqb kind 4) (Unspend p n) (cond (eqb kind 5) (Pop Box p) (cond (eqb kind 6) (Pop Tx p) Bad))

-- kinds 1 to 6
abbrev pub plain_read : (kind parent : ℕ) → ℤ → Read
plain_read kind p n = cond (eqb kind 1) (Append Box p n) (cond (eqb kind 2) (Append Tx p n) (cond (eqb kind 3) (Spend p n) (taking_read kind p n)))

-- a header at a place, as `headed` has it
unfoldable pub headed_read : (parents : ℕ) → List ℕ → (header room tokens : ℕ) → Read
headed_read parents s h room t =
    cond (eqb (kind_at s h) 7) (cond (eqb (tokens_told s h) 0) Flush Bad)
    (cond (leb parents (parent_at s h)) Bad
    (cond (is_change (kind_at s h)) (cond (ltb room (tokens_told s h)) Cut (Change (eqb (kind_at s h) 8) (parent_at s h) (value_in s h) t (tokens_told s h)))
    (cond (eqb (tokens_told s h) 0) (plain_read (kind_at s h) (parent_at s h) (value_in s h)) Bad)))

-- what stands at a place of an input
unfoldable pub read_at : (parents : ℕ) → List ℕ → ℕ → Read
read_at parents s at =
    cond (leb (length s) at) End (cond (ltb (length s - at) header_bytes) Cut
    (headed_read parents s at ((length s - at - header_bytes) / token_bytes) (at + header_bytes)))

-- the newest entry of a journal of which so many bytes are used
unfoldable pub newest_read : (parents : ℕ) → List ℕ → (used : ℕ) → Read
newest_read parents s used =
    cond (ltb used header_bytes) Bad
    (cond (ltb ((used - header_bytes) / token_bytes) (tokens_told s (used - header_bytes))) Bad
    (headed_read parents s (used - header_bytes) ((used - header_bytes) / token_bytes) (used - size_at s (used - header_bytes))))

-- how reading ends: 0 at what is made, 1 at the end of the bytes, 2 inside a call, refusal 31 at what is no call; an unspend or a pop is none beside a journal
abbrev pub end_of : (journaled : Bool) → Read → ℕ
end_of journaled (Append k p n) = 0
end_of journaled (Spend p n) = 0
end_of journaled (Unspend p n) = cond journaled 31 0
end_of journaled (Pop k p) = cond journaled 31 0
end_of journaled Flush = 0
end_of journaled (Change a p n t k) = 0
end_of journaled Bad = 31
end_of journaled Cut = 2
end_of journaled End = 1

-- a call, which an undo takes back
abbrev pub is_call : Read → Bool
is_call (Append k p n) = true
is_call (Spend p n) = true
is_call (Unspend p n) = false
is_call (Pop k p) = false
is_call Flush = false
is_call (Change a p n t k) = true
is_call Bad = false
is_call Cut = false
is_call End = false

-- it becomes an entry where it is accepted
abbrev pub is_entry : (journaled : Bool) → Read → Bool
is_entry journaled x = journaled && is_call x

-- ---- what was read of a header at a place: its parent is one of so many, its tokens stand in the bytes, and so does all of it
abbrev pub Sound : (parents : ℕ) → List ℕ → Read → Type 0
Sound parents s (Append k p n) = p < parents
Sound parents s (Spend p n) = p < parents
Sound parents s (Unspend p n) = p < parents
Sound parents s (Pop k p) = p < parents
Sound parents s Flush = Unit {0}
Sound parents s (Change a p n t k) = (p < parents) × (t + k * token_bytes ≤ length s)
Sound parents s Bad = Unit {0}
Sound parents s Cut = Unit {0}
Sound parents s End = Unit {0}
