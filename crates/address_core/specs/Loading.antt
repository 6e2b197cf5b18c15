-- What the reader of an address record answers and leaves in the borrowed lists (document 01): "a list put into a head or lent list is followed by zeros
-- to its capacity"; "Bytes past a capacity .. stay"; "A refusal returns its number only and changes nothing."
-- 25 comes first: a record above 15,675 bytes, a borrowed list shorter than 512.
use Rattle.std.specs.Prelude.{ℕ, ◌-◌, Bool, true, false, cond, ◌&&◌, List, [], ◌++◌, leb, ℤ, pos, length, take, replicate, Ok, Err}
use Rattle.index_types.specs.Limits.{segment_threshold, token_limit, token_id_bytes}
use Rattle.stores.specs.Stores.{write}
use Rattle.segment_core.specs.Reading.{Seg, seg, no_seg, segment_at, ended}
use Rattle.segment_core.specs.Loading.{padded}
use Rattle.balance.specs.declared.Balance.{Balance}
use Rattle.address_core.specs.declared.IndexedAddress.{IndexedAddress}
use Rattle.address_core.specs.declared.AddressRead.{AddressRead}
use Rattle.index_types.specs.Limits.{address_limit}
use Rattle.address_core.specs.Reading.{Balanced, balanced, no_balance, flagged_at}

-- the answer, and both lists at exit
pub record AddressLoading : Type 0 where
  pub answer : AddressRead
  pub txs : List ℤ
  pub boxes : List ℤ

abbrev pub loading : AddressRead → List ℤ → List ℤ → AddressLoading
loading r l m = record { answer = r; txs = l; boxes = m }

-- nanoErgs and tokens as a balance, "zeroes follow"
abbrev pub balance_of : ℤ → List ℕ → List ℤ → Balance
balance_of nanos ids zs =
    record { ids = ids ++ replicate (token_id_bytes - length ids) 0; amounts = zs ++ replicate (token_limit - length zs) (pos 0); count = length zs; nanos = nanos }

-- an address of the hash h, a flag, a balance, transactions ts, boxes bs and the spill counts b and t
abbrev pub address_of : List ℕ → Bool → Balance → List ℤ → List ℤ → ℤ → ℤ → IndexedAddress
address_of h has bal ts bs b t =
    record { hash = h; has_balance = has; balance = bal; txs = length ts; boxes = length bs; box_segment_count = b; tx_segment_count = t }

-- the answer of a refusal; its address is all zero
abbrev pub refused_with : ℕ → AddressRead
refused_with r =
    record { answer = Err r; address = address_of (replicate 32 0) false (balance_of (pos 0) [] []) [] [] (pos 0) (pos 0) }

-- the segment behind the balance, put into the lists l and m
abbrev pub load_segment : List ℕ → Bool → Balance → List ℤ → List ℤ → Seg → AddressLoading
load_segment h has bal l m (seg ts bs b t n) = loading (record { answer = Ok tt; address = address_of h has bal ts bs b t }) (write 0 (padded ts) l) (write 0 (padded bs) m)
load_segment h has bal l m (no_seg r) = loading (refused_with r) l m

abbrev pub load_balance : List ℕ → List ℤ → List ℤ → Balanced → AddressLoading
load_balance s l m (balanced has nanos ids zs n) = load_segment (take 32 s) has (balance_of nanos ids zs) l m (ended true (length s) (segment_at s n))
load_balance s l m (no_balance r) = loading (refused_with r) l m

-- the record s: 32 bytes of hash, the flag and the balance, the segment, and nothing behind it
unfoldable pub load_address : List ℕ → List ℤ → List ℤ → AddressLoading
load_address s l m = cond (leb 32 (length s)) (load_balance s l m (flagged_at s 32)) (loading (refused_with 1) l m)

-- the call
unfoldable pub read_address : List ℕ → List ℤ → List ℤ → AddressLoading
read_address s l m =
    cond (leb (length s) address_limit && (leb segment_threshold (length l) && leb segment_threshold (length m))) (load_address s l m) (loading (refused_with 25) l m)
