-- From bytes to records: a store of one record is a `set` on the list of records; the parts of a record. For every record size.
use Prim.Native.Nat.{ℕ, zero, suc, ◌+◌, ◌*◌, ◌-◌, ◌/◌, ◌%◌, ◌≤◌, ◌<◌}
use mathlib.Core.Path.{◌≡◌, refl, sym, ap, ◌∙◌}
use mathlib.Core.List.{List, [], ◌∷◌, ◌++◌, append_assoc, map}
use native.Mathlib.Omega.{arith}
use native.Mathlib.Nat.{add-zero, zero-mul}
use native.Mathlib.Numerals.{add-one}
use lib.ListN.{length, get_or, take, drop, set, replicate, length-take, length-drop, length-append, length-replicate, get_or-map}
use lib.Seq.{take-append-le, drop-append-le, take_at, drop_at, take-add, take_all, drop-drop, take-take, set_at, length-take-le, get_or_at, sets-eq}
use Rattle.stores.specs.Stores.{write}
use Rattle.stores.proofs.StoreLaws.{write_write, part_at, length_part}
use Rattle.records.specs.Records.{records, keys, key_of, stored_length, stored_row, record_of}
use Rattle.records.proofs.TurnLaws.{length_records, below_mul, size_mul}
use Rattle.records.proofs.Views.{map_take}

-- ---- parts of a write

drop_take : (n m : ℕ) (l : List ℕ) → n ≤ length l → drop n (take (n + m) l) ≡ take m (drop n l)
drop_take n m l h = rw take-add (drop_at (take n l) (take m (drop n l)) n (length-take-le n l h))

take_write : (n at : ℕ) (s l : List ℕ) → n ≤ at → at ≤ length l → take n (write at s l) ≡ take n l
unfolding write
take_write n at s l h k =
    let p : length (take at l) ≡ at = length-take-le at l k in
    rw (append_assoc (take at l) s (drop (at + length s) l), take-append-le n (take at l) (s ++ drop (at + length s) l) (omega arith), take-take)

drop_write : (n at : ℕ) (s l : List ℕ) → n + at ≤ length l → drop n (write (n + at) s l) ≡ write at s (drop n l)
unfolding write
drop_write n at s l h =
    let p : length (take (n + at) l) ≡ n + at = length-take-le (n + at) l h in
    let e : n + at + length s ≡ n + (at + length s) = omega arith in
    rw (
      append_assoc (take (n + at) l) s (drop (n + at + length s) l),
      drop-append-le n (take (n + at) l) (s ++ drop (n + at + length s) l) (omega arith),
      drop_take n at l (omega arith),
      drop-drop,
      e,
    ) (sym (append_assoc (take at (drop n l)) s (drop (n + (at + length s)) l)))

take_write_first : (size : ℕ) (rec l : List ℕ) → length rec ≡ size → take size (write 0 rec l) ≡ rec
unfolding write
take_write_first size rec l e = take_at rec (drop (0 + length rec) l) size e

drop_write_first : (size : ℕ) (rec l : List ℕ) → length rec ≡ size → drop size (write 0 rec l) ≡ drop size l
unfolding write
drop_write_first size rec l e = let n : 0 + length rec ≡ size = omega arith in drop_at rec (drop (0 + length rec) l) size e ∙ rw n

-- what was written stands there
pub part_written : (at : ℕ) (s l : List ℕ) → at ≤ length l → take (length s) (drop at (write at s l)) ≡ s
part_written at s l h =
    ap (λ (m : ℕ). take (length s) (drop at (write m s l))) (sym (add-zero at))
    ∙ rw (drop_write at 0 s l (omega arith)) (take_write_first (length s) s (drop at l) refl)

-- ---- one record

-- a store of the record with index i is a `set`
pub records_write : (size n i : ℕ) (rec l : List ℕ) → length rec ≡ size → i < n → n * size ≤ length l
    → records size n (write (i * size) rec l) ≡ set (records size n l) i rec
unfolding records
records_write size zero i rec l e h k = absurd (omega arith)
records_write size (suc n) zero rec l e h k =
    let z : 0 * size ≡ 0 = zero-mul size in
    rw (z, take_write_first size rec l e, drop_write_first size rec l e)
records_write size (suc n) (suc i) rec l e h k =
    let m = size_mul size i in
    let o = size_mul size n in
    let b = below_mul size n i (omega arith) in
    rw (m, take_write size (size + i * size) rec l (omega arith) (omega arith), drop_write size (i * size) rec l (omega arith))
    (ap (λ (rs : List (List ℕ)). take size l ∷ rs) (records_write size n i rec (drop size l) e (omega arith) (rw length-drop (omega arith))))

-- records before a store are as they were
pub records_before : (size n at : ℕ) (s l : List ℕ) → n * size ≤ at → at ≤ length l → records size n (write at s l) ≡ records size n l
unfolding records
records_before size zero at s l h k = refl
records_before size (suc n) at s l h k =
    let o = size_mul size n in
    let e : at ≡ size + (at - size) = omega arith in
    let d : drop size (write at s l) ≡ write (at - size) s (drop size l)
    = ap (λ (m : ℕ). drop size (write m s l)) e ∙ drop_write size (at - size) s l (omega arith) in
    rw (take_write size at s l (omega arith) k, d)
    (ap (λ (rs : List (List ℕ)). take size l ∷ rs) (records_before size n (at - size) s (drop size l) (omega arith) (rw length-drop (omega arith))))

-- one record more
pub records_more : (size n : ℕ) (l : List ℕ) → records size (suc n) l ≡ records size n l ++ take size (drop (n * size) l) ∷ []
unfolding records
records_more size zero l = let z : 0 * size ≡ 0 = zero-mul size in rw z
records_more size (suc n) l =
    let o : size + n * size ≡ suc n * size = sym (size_mul size n) in
    ap (λ (rs : List (List ℕ)). take size l ∷ rs) (records_more size n (drop size l) ∙ rw (drop-drop, o))

-- fewer records are the first ones
pub records_fewer : (size n m : ℕ) (l : List ℕ) → m ≤ n → records size m l ≡ take m (records size n l)
unfolding records
records_fewer size n zero l h = refl
records_fewer size zero (suc m) l h = absurd (omega arith)
records_fewer size (suc n) (suc m) l h = ap (λ (rs : List (List ℕ)). take size l ∷ rs) (records_fewer size n m (drop size l) (omega arith))

pub keys_fewer : (size n m : ℕ) (l : List ℕ) → m ≤ n → keys size m l ≡ take m (keys size n l)
keys_fewer size n m l h = ap (map key_of) (records_fewer size n m l h) ∙ map_take key_of m (records size n l)

-- the record with an index, and its key
pub record_at : (size n i : ℕ) (l : List ℕ) → i < n → get_or (records size n l) i [] ≡ take size (drop (i * size) l)
unfolding records
record_at size zero i l h = absurd (omega arith)
record_at size (suc n) zero l h = let z : 0 * size ≡ 0 = zero-mul size in rw z
record_at size (suc n) (suc i) l h =
    let o : size + i * size ≡ suc i * size = sym (size_mul size i) in
    record_at size n i (drop size l) (omega arith) ∙ rw (drop-drop, o)

pub key_at : (size n i : ℕ) (l : List ℕ) → 32 ≤ size → i < n → get_or (keys size n l) i [] ≡ take 32 (drop (i * size) l)
key_at size n i l h b = get_or-map key_of (records size n l) i [] ∙ rw (record_at size n i l b, take-take)

-- every record has the record size
pub record_sized : (size n i : ℕ) (l : List ℕ) → n * size ≤ length l → i < n → length (get_or (records size n l) i []) ≡ size
record_sized size n i l h j =
    let b = below_mul size n i j in
    ap length (record_at size n i l j) ∙ length_part (i * size) size l (omega arith)

-- a record stored behind the last one
pub records_append : (size n : ℕ) (rec l : List ℕ) → length rec ≡ size → n * size + size ≤ length l
    → records size (n + 1) (write (n * size) rec l) ≡ records size n l ++ rec ∷ []
records_append size n rec l e h =
    rw (add-one n, records_write size (suc n) n rec l e (omega arith) (omega (arith, size_mul size n)), records_more size n l)
    (set_at (records size n l) (take size (drop (n * size) l)) [] rec n (length_records size n l))

-- ---- the record of a key and a row

pub record_length : (size : ℕ) (key row : List ℕ) → length key ≡ 32 → 34 + length row ≤ size → length (record_of size key row) ≡ size
unfolding record_of
record_length size key row e h = simp (length-append, length-replicate) (omega arith)

pub record_key : (size : ℕ) (key row : List ℕ) → length key ≡ 32 → key_of (record_of size key row) ≡ key
unfolding record_of
record_key size key row e = simp append_assoc (take_at key _ 32 e)

-- a key is its own key
pub key_of_key : (key : List ℕ) → length key ≡ 32 → key_of key ≡ key
key_of_key key e = take_all 32 key (omega arith)

bytes_of_length : (n : ℕ) → n < 65536 → n / 256 % 256 * 256 + n % 256 ≡ n
bytes_of_length n h = omega arith

module _ (size : ℕ) (key row : List ℕ) (e : length key ≡ 32) (h : length row < 65536) where
  pub record_stored_length : stored_length (record_of size key row) ≡ length row
  unfolding record_of
  record_stored_length =
      let hi : ℕ = length row / 256 % 256 in
      let lo : ℕ = length row % 256 in
      let z : List ℕ = replicate (size - (34 + length row)) 0 in
      let r : List ℕ = key ++ (hi ∷ lo ∷ []) ++ row ++ z in
      let s : r ≡ key ++ (hi ∷ lo ∷ (row ++ z)) = simp append_assoc in
      let t : r ≡ (key ++ (hi ∷ [])) ++ (lo ∷ (row ++ z)) = simp append_assoc in
      let n₁ : length (key ++ (hi ∷ [])) ≡ 33 = length-append key (hi ∷ []) ∙ omega arith in
      let a : get_or r 32 0 ≡ hi = rw s (get_or_at key hi (lo ∷ (row ++ z)) 0 32 e) in
      let b : get_or r 33 0 ≡ lo = rw t (get_or_at (key ++ (hi ∷ [])) lo (row ++ z) 0 33 n₁) in
      rw (a, b) (bytes_of_length (length row) h)

  record_tail : drop 34 (record_of size key row) ≡ row ++ replicate (size - (34 + length row)) 0
  unfolding record_of
  record_tail =
      let t : List ℕ = length row / 256 % 256 ∷ length row % 256 ∷ [] in
      let z : List ℕ = replicate (size - (34 + length row)) 0 in
      let n : length (key ++ t) ≡ 34 = length-append key t ∙ omega arith in
      let u : key ++ t ++ row ++ z ≡ (key ++ t) ++ (row ++ z) = simp append_assoc in
      rw u (drop_at (key ++ t) (row ++ z) 34 n)

  -- the row of a written record is the row
  pub record_row : stored_row (record_of size key row) ≡ row
  unfolding stored_row
  record_row = rw (record_stored_length, record_tail) (take_at row (replicate (size - (34 + length row)) 0) (length row) refl)

-- a record in four stores: key, length, row, zeros
pub store_writes : (size at : ℕ) (key row l : List ℕ) → length key ≡ 32 → at + size ≤ length l → 34 + length row ≤ size
    → write (at + (34 + length row)) (replicate (size - (34 + length row)) 0)
    (write (at + 34) row (write (at + 32) (length row / 256 % 256 ∷ length row % 256 ∷ []) (write at key l)))
    ≡ write at (record_of size key row) l
unfolding record_of
store_writes size at key row l k h r =
    let t : List ℕ = length row / 256 % 256 ∷ length row % 256 ∷ [] in
    let z : List ℕ = replicate (size - (34 + length row)) 0 in
    let n₁ : length (key ++ t) ≡ 34 = length-append key t ∙ omega arith in
    let n₂ : length (key ++ t ++ row) ≡ 34 + length row = length-append (key ++ t) row ∙ omega arith in
    let n₃ : length z ≡ size - (34 + length row) = length-replicate (size - (34 + length row)) 0 in
    rw (
      write_write at (at + 32) key t l (omega arith) (omega arith),
      write_write at (at + 34) (key ++ t) row l (omega arith) (omega arith),
      write_write at (at + (34 + length row)) (key ++ t ++ row) z l (omega arith) (omega arith),
    )

pub write_two : (at x y : ℕ) (d : List ℕ) → at + 2 ≤ length d → set (set d at x) (at + 1) y ≡ write at (x ∷ y ∷ []) d
unfolding write
write_two at x y d h = rw (add-one at) (sets-eq (x ∷ y ∷ []) d at h)

-- ---- the row of the record at a position

-- the row of a record fits a record
pub row_room : (size : ℕ) (r : List ℕ) → 34 ≤ size → length r ≡ size → 34 + length (stored_row r) ≤ size
unfolding stored_row
row_room size r h k = simp (length-take, length-drop) (omega arith)

row_bytes : (at size : ℕ) (l : List ℕ) → 34 ≤ size → at + size ≤ length l
    → stored_row (take size (drop at l)) ≡ take (get_or l (at + 32) 0 * 256 + get_or l (at + 33) 0) (take (size - 34) (drop (at + 34) l))
unfolding stored_row
row_bytes at size l h k =
    let e : size ≡ 34 + (size - 34) = omega arith in
    let m : 34 ≤ length (drop at l) = rw length-drop (omega arith) in
    let f : drop 34 (take size (drop at l)) ≡ take (size - 34) (drop (at + 34) l)
    = ap (λ (n : ℕ). drop 34 (take n (drop at l))) e ∙ drop_take 34 (size - 34) (drop at l) m ∙ rw drop-drop in
    rw (part_at at size 32 l 0 (omega arith), part_at at size 33 l 0 (omega arith), f)

-- the part that `row_part` answers: to the stated length, or to the record's end where the length goes past it
pub row_fits : (at size n e : ℕ) (l : List ℕ) → 34 ≤ size → at + size ≤ length l → n ≡ get_or l (at + 32) 0 * 256 + get_or l (at + 33) 0 → n ≤ size - 34
    → e ≡ at + 34 + n → take (e - (at + 34)) (drop (at + 34) l) ≡ stored_row (take size (drop at l))
row_fits at size n e l h k d g q =
    let r : e - (at + 34) ≡ n = omega arith in
    rw (row_bytes, r, ← d, take-take)

pub row_cut : (at size n e : ℕ) (l : List ℕ) → 34 ≤ size → at + size ≤ length l → n ≡ get_or l (at + 32) 0 * 256 + get_or l (at + 33) 0 → size - 34 < n
    → e ≡ at + size → take (e - (at + 34)) (drop (at + 34) l) ≡ stored_row (take size (drop at l))
row_cut at size n e l h k d g q =
    let r : e - (at + 34) ≡ size - 34 = omega arith in
    let m : length (take (size - 34) (drop (at + 34) l)) ≤ n = simp (length-take, length-drop) (omega arith) in
    rw (row_bytes, r, ← d) (sym (take_all n (take (size - 34) (drop (at + 34) l)) m))
