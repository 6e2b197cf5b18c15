-- What the reader's export leaves: the code, the outs and both lists at exit. A refusal changes nothing.
use Rattle.std.specs.Prelude.{ℕ, Bool, List, ℤ, Ok, Err}
use Rattle.refusal.specs.Answers.{Answer}
use Rattle.address_core.specs.declared.IndexedAddress.{IndexedAddress}
use Rattle.address_core.specs.Loading.{AddressLoading}
use Rattle.balance.specs.Parts.{flat}

abbrev pub address : List ℕ → Bool → List ℕ → List ℤ → ℕ → ℤ → ℕ → ℕ → ℤ → ℤ → IndexedAddress
address h has ids amounts count nanos n m b t =
    record { hash = h; has_balance = has; balance = flat ids amounts count nanos; txs = n; boxes = m; box_segment_count = b; tx_segment_count = t }

pub record AddressOut : Type 0 where
  pub code : ℕ
  pub address : IndexedAddress
  pub txs : List ℤ
  pub boxes : List ℤ

abbrev pub address_out : ℕ → IndexedAddress → List ℤ → List ℤ → AddressOut
address_out code a l m = record { code = code; address = a; txs = l; boxes = m }

abbrev pub address_by : Answer → (read given : IndexedAddress) → List ℤ → List ℤ → AddressOut
address_by (Ok tt) read given txs boxes = address_out 0 read txs boxes
address_by (Err code) read given txs boxes = address_out code given txs boxes

abbrev pub address_export : IndexedAddress → AddressLoading → AddressOut
address_export given l = address_by l.answer.answer l.answer.address given l.txs l.boxes
