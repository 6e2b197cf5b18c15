-- Laws of the sizes, by cases on the edition: in each case the products have a number in them, which arithmetic needs.
use Prim.Native.Nat.{ℕ, ◌+◌, ◌*◌, ◌≤◌, ◌<◌}
use mathlib.Core.Path.{◌≡◌, refl, ap}
use mathlib.Core.List.{List}
use native.Mathlib.Omega.{arith}
use lib.ListN.{length, take, drop, length-drop}
use lib.Seq.{length-take-le}
use Rattle.records.specs.Find.{row_at}
use Rattle.records.proofs.RecordLaws.{row_room}
use Rattle.index_types.specs.declared.RowEdition.{RowEdition}
use Rattle.index_types.specs.declared.RowEdition.TheVariants.{One, Two}
use Rattle.buffer_core.specs.Edition.{row_limit_of, record_size}

-- a record is the key, the length and the longest row
pub sizes : (v : RowEdition) → (34 ≤ record_size v) × (34 + row_limit_of v ≡ record_size v)
sizes One = (omega arith, refl)
sizes Two = (omega arith, refl)

-- no edition has longer rows than the second
pub limit_most : (v : RowEdition) → row_limit_of v ≤ row_limit_of Two
limit_most One = omega arith
limit_most Two = omega arith

-- record i of m lies within their bytes
pub slot_in : (v : RowEdition) (i m len : ℕ) → i < m → m * record_size v ≤ len → i * record_size v + record_size v ≤ len
slot_in One i m len h k = omega arith
slot_in Two i m len h k = omega arith

-- the next record begins where this one ends
pub slot_next : (v : RowEdition) (i : ℕ) → (i + 1) * record_size v ≡ i * record_size v + record_size v
slot_next One i = omega arith
slot_next Two i = omega arith

-- the row in a record is within the limit
pub row_long : (v : RowEdition) (i : ℕ) (l row : List ℕ) → i * record_size v + record_size v ≤ length l → row ≡ row_at (record_size v) i l → length row ≤ row_limit_of v
row_long v i l row k e =
    let z = record_size v in
    let s : length (take z (drop (i * z) l)) ≡ z = length-take-le z (drop (i * z) l) (rw length-drop (omega (arith, k))) in
    omega (arith, ap length e, sizes v, row_room z (take z (drop (i * z) l)) (omega (arith, sizes v)) s)

pub row_most : (v : RowEdition) (i m : ℕ) (l row : List ℕ) → i < m → m * record_size v ≤ length l → row ≡ row_at (record_size v) i l → length row ≤ row_limit_of v
row_most v i m l row h k e = row_long v i l row (slot_in v i m (length l) h k) e
