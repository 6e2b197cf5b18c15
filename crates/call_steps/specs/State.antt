-- The state that the runner's calls work on: for each parent a block in each of four borrowed lists, and the three lists of spills.
--   ids        4128 bytes a parent: its id, then the ids of its 128 tokens
--   numbers    1153 numbers a parent: 512 places of its boxes, 512 of its transactions, 128 token amounts, nanoErgs
--   lengths    3 a parent: how many boxes and how many transactions stand in the heads, how many tokens are held
--   spills     2 a parent: the spill counts of boxes and of transactions
use Rattle.std.specs.Prelude.{ℕ, zero, suc, ◌+◌, ◌*◌, ◌/◌, ◌≤◌, ◌<◌, ◌≡◌, Bool, true, false, ◌&&◌, List, leb, ℤ, pos, length, take, drop, set, get_or}
use borrow.Rule.Slice.PartMut.{mid_of, put_mid}
use Rattle.index_types.specs.Limits.{segment_threshold, token_limit, token_id_bytes}
use Rattle.stores.specs.Stores.{write}
use Rattle.segment_id.specs.declared.Kind.{Kind}
use Rattle.segment_id.specs.declared.Kind.TheVariants.{Box, Tx}
use Rattle.balance.specs.declared.Balance.{Balance}
use Rattle.index_types.specs.declared.HeadCounts.{HeadCounts}
use Rattle.buffer_core.specs.Edition.{Edition, edition_1}
use Rattle.buffer_core.specs.Append.{counts_of}
use Rattle.buffer_core.specs.Pop.{Lists, lists_ok}

-- the bytes of ids and the numbers that a parent has, and where the amounts of its tokens and its nanoErgs stand among these
abbrev pub parent_ids : ℕ
parent_ids = 4128

abbrev pub parent_numbers : ℕ
parent_numbers = 1153

abbrev pub amounts_at : ℕ
amounts_at = 1024

abbrev pub nanos_at : ℕ
nanos_at = 1152

pub record State : Type 0 where
  pub ids : List ℕ
  pub numbers : List ℤ
  pub lengths : List ℕ
  pub spills : List ℤ
  pub lists : Lists

abbrev pub state : (ids : List ℕ) → (numbers : List ℤ) → (lengths : List ℕ) → (spills : List ℤ) → Lists → State
state ids numbers lengths spills b = record { ids = ids; numbers = numbers; lengths = lengths; spills = spills; lists = b }

-- ---- a parent's part of it

abbrev pub kind_number : Kind → ℕ
kind_number Box = 0
kind_number Tx = 1

abbrev pub parent_id : ℕ → List ℕ → List ℕ
parent_id p ids = mid_of (p * parent_ids) 32 ids

-- where a head's places begin, where its length and where its spill count stand
abbrev pub head_at : Kind → ℕ → ℕ
head_at k p = p * parent_numbers + kind_number k * segment_threshold

abbrev pub length_at : Kind → ℕ → ℕ
length_at k p = p * 3 + kind_number k

abbrev pub spills_at : Kind → ℕ → ℕ
spills_at k p = p * 2 + kind_number k

abbrev pub head_counts : Kind → ℕ → (lengths : List ℕ) → (spills : List ℤ) → HeadCounts
head_counts k p lengths spills = counts_of (get_or lengths (length_at k p) 0) (get_or spills (spills_at k p) (pos 0))

abbrev pub head_of : Kind → ℕ → List ℤ → List ℤ
head_of k p numbers = mid_of (head_at k p) segment_threshold numbers

abbrev pub with_head : Kind → ℕ → List ℤ → List ℤ → List ℤ
with_head k p head numbers = put_mid (head_at k p) segment_threshold numbers head

-- the balance in its places
abbrev pub balance_of : ℕ → (ids : List ℕ) → (numbers : List ℤ) → (lengths : List ℕ) → Balance
balance_of p ids numbers lengths =
    record {
      ids = mid_of (p * parent_ids + 32) token_id_bytes ids;
      amounts = mid_of (p * parent_numbers + amounts_at) token_limit numbers;
      count = get_or lengths (p * 3 + 2) 0;
      nanos = get_or numbers (p * parent_numbers + nanos_at) (pos 0);
    }

abbrev pub ids_with : ℕ → Balance → List ℕ → List ℕ
ids_with p b ids = write (p * parent_ids + 32) b.ids ids

abbrev pub numbers_with : ℕ → Balance → List ℤ → List ℤ
numbers_with p b numbers = set (write (p * parent_numbers + amounts_at) b.amounts numbers) (p * parent_numbers + nanos_at) b.nanos

abbrev pub lengths_with : ℕ → Balance → List ℕ → List ℕ
lengths_with p b lengths = set lengths (p * 3 + 2) b.count

-- ---- refusal 25 of the whole state, tested once before the calls

-- "25 head above 512, .. balance count above 128", of the first n parents
abbrev pub counts_ok : ℕ → List ℕ → Bool
counts_ok p lengths = leb (get_or lengths (p * 3) 0) segment_threshold && (leb (get_or lengths (p * 3 + 1) 0) segment_threshold && leb (get_or lengths (p * 3 + 2) 0) token_limit)

unfoldable pub lengths_ok : ℕ → List ℕ → Bool
lengths_ok zero lengths = true
lengths_ok (suc p) lengths = counts_ok p lengths && lengths_ok p lengths

-- "a lent buffer too short for its stated capacity": a block of each list for every parent
unfoldable pub blocks_ok : (parents : ℕ) → (ids : List ℕ) → (numbers : List ℤ) → (lengths : List ℕ) → (spills : List ℤ) → Bool
blocks_ok parents ids numbers lengths spills =
    leb parents (length ids / parent_ids)
    && (leb parents (length numbers / parent_numbers) && (leb parents (length lengths / 3) && leb parents (length spills / 2)))

unfoldable pub state_ok : Edition → (parents : ℕ) → State → Bool
state_ok E parents s = blocks_ok parents s.ids s.numbers s.lengths s.spills && (lengths_ok parents s.lengths && lists_ok E s.lists)

-- ---- the facts that the test establishes

pub record Blocks (parents : ℕ) (ids : List ℕ) (numbers : List ℤ) (lengths : List ℕ) (spills : List ℤ) : Type 0 where
  pub ids_in : parents * parent_ids ≤ length ids
  pub numbers_in : parents * parent_numbers ≤ length numbers
  pub lengths_in : parents * 3 ≤ length lengths
  pub spills_in : parents * 2 ≤ length spills

-- of one parent
pub record Within (p : ℕ) (ids : List ℕ) (numbers : List ℤ) (lengths : List ℕ) (spills : List ℤ) : Type 0 where
  pub ids_in : p * parent_ids + parent_ids ≤ length ids
  pub numbers_in : p * parent_numbers + parent_numbers ≤ length numbers
  pub lengths_in : p * 3 + 3 ≤ length lengths
  pub spills_in : p * 2 + 2 ≤ length spills

pub record Ready (parents : ℕ) (s : State) : Type 0 where
  pub blocks : Blocks parents s.ids s.numbers s.lengths s.spills
  pub few : (p : ℕ) → p < parents → (k : Kind) → get_or s.lengths (length_at k p) 0 ≤ segment_threshold
  pub listed : lists_ok edition_1 s.lists ≡ true
