-- The ways out of the export that reads address records. Signed outs are the numbers as they were stored.
use Prim.Native.Nat.{ℕ}
use mathlib.Core.Path.{◌≡◌}
use mathlib.Core.List.{List}
use lib.IntN.{ℤ}
use Rattle.std.specs.Prelude.{Ok, Err}
use Rattle.address_core.specs.declared.IndexedAddress.{IndexedAddress}
use Rattle.address_core.specs.declared.AddressRead.{AddressRead}
use Rattle.address_core.specs.Loading as addresses
use Rattle.ergo_index_addresses.specs.Addresses.{address, address_out, address_export}

module _ (r : AddressRead) (l m : List ℤ) (o : addresses.AddressLoading) (e : addresses.loading r l m ≡ o) (given : IndexedAddress) where
  pub address_read : r.answer ≡ (Ok tt) → (x : ℤ) → x ≡ r.address.balance.nanos → (y : ℤ) → y ≡ r.address.box_segment_count → (z : ℤ) → z ≡ r.address.tx_segment_count
      → address_out 0
      (address r.address.hash r.address.has_balance r.address.balance.ids r.address.balance.amounts r.address.balance.count x r.address.txs r.address.boxes y z) l m
      ≡ address_export given o
  address_read f x p y q z s = rw (← e, f, p, q, s)

  pub address_refused : (code : ℕ) → r.answer ≡ Err code → address_out code given l m ≡ address_export given o
  address_refused code f = rw (← e, f)
