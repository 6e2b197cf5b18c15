-- Laws of writing a record: the tests of 25, and one law for each way out.
use Prim.Native.Nat.{ℕ, ◌≤◌}
use mathlib.Core.Path.{◌≡◌, refl}
use mathlib.Core.Bool.{Bool, true, false, cond, ◌&&◌}
use mathlib.Core.List.{List}
use native.Mathlib.Omega.{arith}
use lib.Dec.{leb}
use lib.IntN.{ℤ}
use lib.ListN.{length, take}
use borrow.Author.Tests.{leb-true}
use Rattle.std.specs.Prelude.{Ok, Err}
use Rattle.vlq_core.specs.Writing.{written, put_bytes}
use Rattle.segment_core.specs.Row.{row_bytes}
use Rattle.segment.specs.Calls.{held}
use Rattle.segment.proofs.CallLaws.{held_true}
use Rattle.address_core.specs.Bytes.{address_bytes}
use Rattle.address_core.specs.Writing.{buffers_ok, write_address}

-- what the tests of 25 say where they pass
pub record Passed (n len m len' count : ℕ) : Type 0 where
  pub txs : (n ≤ 512) × (n ≤ len)
  pub boxes : (m ≤ 512) × (m ≤ len')
  pub few : count ≤ 128

module _ (n len m len' count : ℕ) where
  pub not_txs : held n len ≡ false → false ≡ buffers_ok n len m len' count
  unfolding buffers_ok
  not_txs h = rw h

  pub not_boxes : held n len ≡ true → held m len' ≡ false → false ≡ buffers_ok n len m len' count
  unfolding buffers_ok
  not_boxes h k = rw (h, k)

  pub count_decides : held n len ≡ true → held m len' ≡ true → leb count 128 ≡ buffers_ok n len m len' count
  unfolding buffers_ok
  count_decides h k = rw (h, k)

  pub passed : buffers_ok n len m len' count ≡ true → Passed n len m len' count
  unfolding buffers_ok
  passed e = by_tests (held n len) (held m len') (leb count 128) refl refl refl e
    where
      by_tests : (p q t : Bool) → held n len ≡ p → held m len' ≡ q → leb count 128 ≡ t → (p && q) && t ≡ true → Passed n len m len' count
      by_tests true true true a b c e = record { txs = held_true n len a; boxes = held_true m len' b; few = leb-true _ _ c }
      by_tests true true false a b c e = let x : ◌≡◌ {A = ℕ} 0 1 = cc in absurd (omega arith)
      by_tests true false t a b c e = let x : ◌≡◌ {A = ℕ} 0 1 = cc in absurd (omega arith)
      by_tests false q t a b c e = let x : ◌≡◌ {A = ℕ} 0 1 = cc in absurd (omega arith)

module _ (hash : List ℕ) (has : Bool) (nanos : ℤ) (ids : List ℕ) (amounts : List ℤ) (k : ℕ) (ts : List ℤ) (n : ℕ) (bs : List ℤ) (m : ℕ) (b t : ℤ) (l : List ℕ) (at : ℕ) where
  pub write_25 : buffers_ok n (length ts) m (length bs) k ≡ false → written (Err 25) l ≡ write_address hash has nanos ids amounts k ts n bs m b t l at
  unfolding write_address
  write_25 h = rw h

  pub write_on : buffers_ok n (length ts) m (length bs) k ≡ true
      → put_bytes (address_bytes hash has nanos ids (take k amounts) (row_bytes (take n ts) (take m bs) b t)) l at ≡ write_address hash has nanos ids amounts k ts n bs m b t l at
  unfolding write_address
  write_on h = rw h

  -- what was accepted has passed the tests of 25
  pub write_passed : (next : ℕ) → (write_address hash has nanos ids amounts k ts n bs m b t l at).answer ≡ Ok next → Passed n (length ts) m (length bs) k
  unfolding write_address
  write_passed next e = by_test (buffers_ok n (length ts) m (length bs) k) refl e
    where
      by_test : (p : Bool) → buffers_ok n (length ts) m (length bs) k ≡ p → (cond p (put_bytes (address_bytes hash has nanos ids (take k amounts) (row_bytes (take n ts) (take m bs) b t)) l at) (written (Err 25) l)).answer ≡ Ok next → Passed n (length ts) m (length bs) k
      by_test true h e = passed n (length ts) m (length bs) k h
      by_test false h e = let x : ◌≡◌ {A = ℕ} 0 1 = cc in absurd (omega arith)

-- the same call, with the numbers said in another way
pub write_as : (hash : List ℕ) (has : Bool) {nanos nanos' : ℤ} (ids : List ℕ) (amounts : List ℤ) (k : ℕ) (ts : List ℤ) (n : ℕ) (bs : List ℤ) (m : ℕ) {b b' t t' : ℤ} (l : List ℕ) (at : ℕ)
    → nanos' ≡ nanos → b' ≡ b → t' ≡ t → write_address hash has nanos' ids amounts k ts n bs m b' t' l at ≡ write_address hash has nanos ids amounts k ts n bs m b t l at
write_as hash has ids amounts k ts n bs m l at p q r = rw (p, q, r)
