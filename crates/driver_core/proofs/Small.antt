-- Small inputs, computed: a credit of two tokens with different ids of 32 bytes and a spend, as they are read, journaled and taken off the journal again.
use mathlib.Core.Path.{◌≡◌, refl}
use mathlib.Core.List.{List, [], ◌∷◌, ◌++◌}
use Prim.Native.Nat.{ℕ, ◌+◌}
use lib.IntN.{pos, negsuc}
use lib.ListN.{take, replicate}
use Rattle.stores.specs.Stores.{write}
use Rattle.big_endian.specs.BigEndian.{value_of, value_at}
use Rattle.calls.specs.Calls.{number_at}
use Rattle.segment_id.specs.declared.Kind.TheVariants.{Box, Tx}
use Rattle.ledger.specs.Calls.{append, spend, credit, txs, Call}
use Rattle.ledger.specs.Run.{call, flush}
use Rattle.driver_core.specs.Steps.{unspends, pops}
use Rattle.driver_core.specs.Bytes.{is, takes, bad, cut, tokens_at, item_at, items_at, Journal, journal, pushed, newest, popped, standing}

-- the bytes of the two ids: 1 to 32, and 32 to 1
abbrev up : List ℕ
up = 1 ∷ 2 ∷ 3 ∷ 4 ∷ 5 ∷ 6 ∷ 7 ∷ 8 ∷ 9 ∷ 10 ∷ 11 ∷ 12 ∷ 13 ∷ 14 ∷ 15 ∷ 16 ∷ 17 ∷ 18 ∷ 19 ∷ 20 ∷ 21 ∷ 22 ∷ 23 ∷ 24 ∷ 25 ∷ 26 ∷ 27 ∷ 28 ∷ 29 ∷ 30 ∷ 31 ∷ 32 ∷ []

abbrev down : List ℕ
down = 32 ∷ 31 ∷ 30 ∷ 29 ∷ 28 ∷ 27 ∷ 26 ∷ 25 ∷ 24 ∷ 23 ∷ 22 ∷ 21 ∷ 20 ∷ 19 ∷ 18 ∷ 17 ∷ 16 ∷ 15 ∷ 14 ∷ 13 ∷ 12 ∷ 11 ∷ 10 ∷ 9 ∷ 8 ∷ 7 ∷ 6 ∷ 5 ∷ 4 ∷ 3 ∷ 2 ∷ 1 ∷ []

-- a credit of parent 1: 258 nanoErgs, 5 of the first token and -1 of the second
abbrev credit_bytes : List ℕ
credit_bytes = 8 ∷ 0 ∷ 0 ∷ 0 ∷ 1 ∷ 0 ∷ 0 ∷ 0 ∷ 0 ∷ 0 ∷ 0 ∷ 1 ∷ 2 ∷ 0 ∷ 0 ∷ 0 ∷ 2 ∷ (up ++ down ++ (0 ∷ 0 ∷ 0 ∷ 0 ∷ 0 ∷ 0 ∷ 0 ∷ 5 ∷ 255 ∷ 255 ∷ 255 ∷ 255 ∷ 255 ∷ 255 ∷ 255 ∷ 255 ∷ []))

-- a spend of box 7 of parent 0, an append of transaction 9 to parent 1, a flush
abbrev spend_bytes : List ℕ
spend_bytes = 3 ∷ 0 ∷ 0 ∷ 0 ∷ 0 ∷ 0 ∷ 0 ∷ 0 ∷ 0 ∷ 0 ∷ 0 ∷ 0 ∷ 7 ∷ 0 ∷ 0 ∷ 0 ∷ 0 ∷ []

abbrev append_bytes : List ℕ
append_bytes = 2 ∷ 0 ∷ 0 ∷ 0 ∷ 1 ∷ 0 ∷ 0 ∷ 0 ∷ 0 ∷ 0 ∷ 0 ∷ 0 ∷ 9 ∷ 0 ∷ 0 ∷ 0 ∷ 0 ∷ []

abbrev flush_bytes : List ℕ
flush_bytes = 7 ∷ replicate 16 0

abbrev batch : List ℕ
batch = credit_bytes ++ spend_bytes ++ append_bytes ++ flush_bytes

abbrev the_credit : Call
the_credit = credit 1 (pos 258) ((up, pos 5) ∷ (down, negsuc 0) ∷ [])

-- read as the calls and the flush that it spells
pub batch_read : items_at 2 batch 9 0 ≡ call the_credit ∷ call (spend 0 (pos 7)) ∷ call (append (txs 1) (pos 9)) ∷ flush ∷ []
unfolding items_at item_at tokens_at number_at value_at value_of
batch_read = refl

-- a parent that is not there, an unknown kind, tokens at a spend, a cut header and cut tokens
pub other_parent : item_at 1 batch 0 ≡ bad
unfolding item_at value_of
other_parent = refl

pub unknown_kind : item_at 2 (10 ∷ replicate 16 0) 0 ≡ bad
unfolding item_at value_of
unknown_kind = refl

-- kinds 4 to 6 of parent 0
pub takings : (item_at 2 (4 ∷ replicate 16 0) 0 ≡ takes (unspends 0 (pos 0))) × (item_at 2 (5 ∷ replicate 16 0) 0 ≡ takes (pops Box 0)) × (item_at 2 (6 ∷ replicate 16 0) 0 ≡ takes (pops Tx 0))
unfolding item_at number_at value_at value_of
takings = (refl, refl, refl)

pub header_cut : item_at 2 (take 16 batch) 0 ≡ cut
unfolding item_at
header_cut = refl

pub tokens_cut : item_at 2 (take 96 batch) 0 ≡ cut
unfolding item_at value_of
tokens_cut = refl

-- the journal of the first two calls: 114 of 120 bytes, the newest first
abbrev two_calls : Journal
two_calls = pushed batch 97 (pushed batch 0 (journal (replicate 120 0) 0 0))

pub journal_used : two_calls.used ≡ 114
unfolding pushed value_of
journal_used = refl

pub journal_read : standing 2 2 two_calls ≡ spend 0 (pos 7) ∷ the_credit ∷ []
unfolding standing newest pushed write tokens_at number_at value_at value_of
journal_read = refl

-- without the newest entry
pub journal_popped : standing 2 1 (popped two_calls) ≡ the_credit ∷ []
unfolding standing newest pushed write tokens_at number_at value_at value_of
journal_popped = refl
