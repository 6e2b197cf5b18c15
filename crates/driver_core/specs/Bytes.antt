-- The bytes of a driver's calls and of its journal ("parents by a 32-bit number, any number of them; .. any 32-byte ids and any number of tokens, none too").
--   a call       a header of 17 bytes: kind 1, parent 4, number 8, how many tokens 4; then for each token 32 bytes of id, then for each token 8 bytes of amount.
--                Numbers high byte first; parent and token count unsigned, number and amounts signed.
--   kinds        those of the runner: 1 append box, 2 append tx, 3 spend, 4 unspend, 5 pop box, 6 pop tx, 7 flush, 8 credit, 9 debit. The number is the appended
--                number, the target or nanoErgs. Kinds 1 to 7 have no tokens. Kinds 4 to 6 are made in a batch without a journal only: beside one, an undo makes them.
--   an entry     the tokens first, the header behind them: so a journal is read from its end, with no further length.
use Rattle.std.specs.Prelude.{ℕ, zero, suc, ◌+◌, ◌*◌, ◌-◌, ◌/◌, Bool, cond, ◌||◌, List, [], ◌∷◌, ◌++◌, eqb, leb, ltb, ℤ, length, get_or}
use borrow.Rule.Slice.PartMut.{mid_of}
use Rattle.stores.specs.Stores.{write}
use Rattle.big_endian.specs.BigEndian.{value_of}
use Rattle.segment_id.specs.declared.Kind.TheVariants.{Box, Tx}
use Rattle.calls.specs.Calls.{number_at}
use Rattle.ledger.specs.Calls.{Tokens, Call, append, spend, credit, debit, boxes, txs}
use Rattle.ledger.specs.Run.{Step, call, undo, flush}
use Rattle.driver_core.specs.Steps.{Taking, unspends, pops}

abbrev pub header_bytes : ℕ
header_bytes = 17

abbrev pub id_bytes : ℕ
id_bytes = 32

abbrev pub amount_bytes : ℕ
amount_bytes = 8

abbrev pub token_bytes : ℕ
token_bytes = 40

-- four bytes, unsigned
abbrev pub small_at : List ℕ → ℕ → ℕ
small_at s at = value_of 0 (mid_of at 4 s)

-- n tokens, their ids from a place on and their amounts from another
unfoldable pub tokens_at : List ℕ → (ids amounts n : ℕ) → Tokens
tokens_at s i a zero = []
tokens_at s i a (suc n) = (mid_of i id_bytes s, number_at s a) ∷ tokens_at s (i + id_bytes) (a + amount_bytes) n

-- what stands at a place: a call or a flush, an unspend or a pop, no call, the front of one, or nothing
pub data Item : Type 0 where
  is : Step → Item
  takes : Taking → Item
  bad cut end : Item

abbrev pub is_change : ℕ → Bool
is_change kind = eqb kind 8 || eqb kind 9

-- kinds 4 to 6
abbrev pub taking : (kind parent : ℕ) → ℤ → Item
taking kind p n = cond (eqb kind 4) (takes (unspends p n)) (cond (eqb kind 5) (takes (pops Box p)) (cond (eqb kind 6) (takes (pops Tx p)) bad))

-- kinds 1 to 6, without tokens
abbrev pub plain : (kind parent : ℕ) → ℤ → Item
plain kind p n =
    cond (eqb kind 1) (is (call (append (boxes p) n))) (cond (eqb kind 2) (is (call (append (txs p) n))) (cond (eqb kind 3) (is (call (spend p n))) (taking kind p n)))

-- kinds 8 and 9
abbrev pub with_tokens : (kind parent : ℕ) → ℤ → Tokens → Item
with_tokens kind p n ts = cond (eqb kind 8) (is (call (credit p n ts))) (is (call (debit p n ts)))

-- the parts of a header
abbrev pub kind_at : List ℕ → ℕ → ℕ
kind_at s h = get_or s h 0

abbrev pub parent_at : List ℕ → ℕ → ℕ
parent_at s h = small_at s (h + 1)

abbrev pub value_in : List ℕ → ℕ → ℤ
value_in s h = number_at s (h + 5)

abbrev pub tokens_told : List ℕ → ℕ → ℕ
tokens_told s h = small_at s (h + 13)

-- all tokens of the header, which begin at a place
abbrev pub tokens_of : List ℕ → (header at : ℕ) → Tokens
tokens_of s h t = tokens_at s t (t + tokens_told s h * id_bytes) (tokens_told s h)

-- a header at a place; `room`: how many tokens have room beside it; they begin at `tokens`. Less room than it says: `short`
abbrev pub headed : (parents : ℕ) → List ℕ → (header room tokens : ℕ) → (short : Item) → Item
headed parents s h room t short =
    cond (eqb (kind_at s h) 7) (cond (eqb (tokens_told s h) 0) (is flush) bad)
    (cond (leb parents (parent_at s h)) bad
    (cond (is_change (kind_at s h))
    (cond (ltb room (tokens_told s h)) short (with_tokens (kind_at s h) (parent_at s h) (value_in s h) (tokens_of s h t)))
    (cond (eqb (tokens_told s h) 0) (plain (kind_at s h) (parent_at s h) (value_in s h)) bad)))

-- the bytes of what stands at a place, or of the newest entry, whose header is at a place
abbrev pub size_at : List ℕ → ℕ → ℕ
size_at s h = header_bytes + tokens_told s h * token_bytes

-- "what is no call or cut: 31 told apart from calls made": parents are numbers below `parents`
unfoldable pub item_at : (parents : ℕ) → List ℕ → ℕ → Item
item_at parents s at =
    cond (leb (length s) at) end (cond (ltb (length s - at) header_bytes) cut
    (headed parents s at ((length s - at - header_bytes) / token_bytes) (at + header_bytes) cut))

abbrev pub item_then : Item → List Step → List Step
item_then (is t) ts = t ∷ ts
item_then (takes t) ts = []
item_then bad ts = []
item_then cut ts = []
item_then end ts = []

-- the steps of an input, up to where no call or flush stands
unfoldable pub items_at : (parents : ℕ) → List ℕ → ℕ → ℕ → List Step
items_at parents s zero at = []
items_at parents s (suc n) at = item_then (item_at parents s at) (items_at parents s n (at + size_at s at))

-- ---- the journal: the first `used` bytes are its entries, `count` of them, the newest last
pub record Journal : Type 0 where
  pub bytes : List ℕ
  pub used : ℕ
  pub count : ℕ

abbrev pub journal : List ℕ → (used count : ℕ) → Journal
journal l used count = record { bytes = l; used = used; count = count }

-- the call at a place of an input becomes the newest entry
abbrev pub entry_of : List ℕ → ℕ → List ℕ
entry_of s at = mid_of (at + header_bytes) (tokens_told s at * token_bytes) s ++ mid_of at header_bytes s

unfoldable pub pushed : List ℕ → ℕ → Journal → Journal
pushed s at j = journal (write j.used (entry_of s at) j.bytes) (j.used + size_at s at) (j.count + 1)

-- where the newest entry's header is
abbrev pub last_header : Journal → ℕ
last_header j = j.used - header_bytes

-- the newest entry, and the journal without it
unfoldable pub newest : (parents : ℕ) → Journal → Item
newest parents j =
    cond (ltb j.used header_bytes) bad
    (cond (ltb (last_header j / token_bytes) (tokens_told j.bytes (last_header j))) bad
    (headed parents j.bytes (last_header j) (last_header j / token_bytes) (j.used - size_at j.bytes (last_header j)) bad))

abbrev pub popped : Journal → Journal
popped j = journal j.bytes (j.used - size_at j.bytes (last_header j)) (j.count - 1)

abbrev pub call_then : Item → List Call → List Call
call_then (is (call a)) cs = a ∷ cs
call_then (is undo) cs = []
call_then (is flush) cs = []
call_then (takes t) cs = []
call_then bad cs = []
call_then cut cs = []
call_then end cs = []

-- the standing calls, the newest first; an entry that is no call ends them
unfoldable pub standing : (parents : ℕ) → ℕ → Journal → List Call
standing parents zero j = []
standing parents (suc n) j = call_then (newest parents j) (standing parents n (popped j))
