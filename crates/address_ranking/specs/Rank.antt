-- How two addresses rank (document 02, U14). An address is borrowed with its own staged spills and table: "A negative count or a row that a pop would refuse
-- gets the pop's number, box side first, spill 0 up, the first address read wholly before the second. Turned away: 41 when a token id stands twice in either
-- balance, tested after 25."
use Rattle.std.specs.Prelude.{ℕ, Bool, cond, not, ◌&&◌, ◌||◌, List, leb, ℤ, take, Ok, Err}
use Rattle.index_types.specs.Limits.{token_limit}
use Rattle.index_types.specs.declared.RowEdition.{RowEdition}
use Rattle.records.specs.Records.{keys}
use Rattle.records.specs.Find.{distinct}
use Rattle.records.specs.Checks.{records_ok}
use Rattle.segment_id.specs.declared.Kind.TheVariants.{Box, Tx}
use Rattle.buffer_core.specs.Edition.{RowRead, bad, good, edition_of, record_size, row_limit_of}
use Rattle.buffer_core.specs.Spills.{Sources, sources, head_ok}
use Rattle.balance_laws.specs.Calls.{tokens_from}
use Rattle.address_order.specs.Order.{Held, none, some, Account, of_accounts}
use Rattle.side_order.specs.Side.{side_of, numbers_in}
use Rattle.index_types.specs.declared.AddressCounts.{AddressCounts}
use Rattle.index_types.specs.Answers.{Ranked}

-- an address as it is borrowed
pub record Address : Type 0 where
  pub edition : RowEdition
  pub counts : AddressCounts
  pub hash : List ℕ
  pub ids : List ℕ
  pub amounts : List ℤ
  pub boxes : List ℤ
  pub txs : List ℤ
  pub staged : List ℕ
  pub table : List ℕ

abbrev pub address_of : RowEdition → AddressCounts → (hash ids : List ℕ) → (amounts boxes txs : List ℤ) → (staged table : List ℕ) → Address
address_of edition counts hash ids amounts boxes txs staged table =
    record { edition = edition; counts = counts; hash = hash; ids = ids; amounts = amounts; boxes = boxes; txs = txs; staged = staged; table = table }

-- 25: the balance's count, where there is a balance, both heads, the staged spills and the table
unfoldable pub address_ok : RowEdition → AddressCounts → (boxes txs : List ℤ) → (staged table : List ℕ) → Bool
address_ok v c boxes txs staged table =
    (not c.held || leb c.tokens token_limit)
    && (head_ok c.boxes boxes
    && (head_ok c.txs txs && (records_ok (record_size v) (row_limit_of v) c.staged staged && records_ok (record_size v) (row_limit_of v) c.table table)))

-- 41
unfoldable pub id_twice : AddressCounts → (ids : List ℕ) → Bool
id_twice c ids = c.held && not (distinct (keys 32 c.tokens ids))

abbrev pub sources_in : Address → Sources
sources_in a = sources a.hash a.staged a.counts.staged.count a.table a.counts.table.count

abbrev pub box_side : Address → RowRead
box_side a = side_of (edition_of a.edition) Box (sources_in a) a.counts.boxes.spills (take a.counts.boxes.len a.boxes)

abbrev pub tx_side : Address → RowRead
tx_side a = side_of (edition_of a.edition) Tx (sources_in a) a.counts.txs.spills (take a.counts.txs.len a.txs)

-- a balance, or none
abbrev pub balance_of : (held : Bool) → (nanos : ℤ) → List ℕ → List ℤ → ℕ → Held
balance_of held nanos ids amounts n = cond held (some nanos (tokens_from ids amounts 0 n)) none

abbrev pub held_in : Address → Held
held_in a = balance_of a.counts.held a.counts.nanos a.ids a.amounts a.counts.tokens

-- what an address holds
abbrev pub account_in : Address → Account
account_in a = record { hash = a.hash; held = held_in a; boxes = numbers_in (box_side a); txs = numbers_in (tx_side a) }

-- a side's refusal, or on
abbrev pub unless_bad : RowRead → Ranked → Ranked
unless_bad (bad code) rest = Err code
unless_bad (good zs) rest = rest

abbrev pub passes : Address → Bool
passes a = address_ok a.edition a.counts a.boxes a.txs a.staged a.table

-- "the first address read wholly before the second"
unfoldable pub read_and_rank : Address → Address → Ranked
read_and_rank a b = unless_bad (box_side a) (unless_bad (tx_side a) (unless_bad (box_side b) (unless_bad (tx_side b) (Ok (of_accounts (account_in a) (account_in b))))))

unfoldable pub rank_of : Address → Address → Ranked
rank_of a b = cond (passes a && passes b) (cond (id_twice a.counts a.ids || id_twice b.counts b.ids) (Err 41) (read_and_rank a b)) (Err 25)
