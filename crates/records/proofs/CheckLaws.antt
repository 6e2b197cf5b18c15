-- What refusal 25 asks of a list, as facts and back, and that a put, a removal and a clearing keep it.
use Prim.Native.Nat.{ℕ, zero, suc, ◌+◌, ◌*◌, ◌-◌, ◌≤◌, ◌<◌}
use mathlib.Core.Path.{◌≡◌, refl}
use mathlib.Core.List.{List, [], ◌∷◌, ◌++◌}
use mathlib.Core.Bool.{Bool, true, false, ◌&&◌}
use native.Mathlib.Omega.{arith}
use native.Mathlib.Nat.{mul-le-mul_right}
use lib.Dec.{leb}
use lib.ListN.{length, get_or, take, set, replicate, length-replicate}
use borrow.Author.Tests.{leb-true, le-leb}
use Rattle.stores.proofs.StoreLaws.{length_write}
use Rattle.std.specs.Prelude.{Option, Some, None}
use Rattle.index_types.specs.declared.ListCounts.{ListCounts}
use Rattle.records.specs.Records.{records, keys, key_of, stored_length, record_of}
use Rattle.records.specs.Find.{find_key, distinct}
use Rattle.records.specs.Changes.{count_after, with_count, put_record, remove_record, clear_records, full_for}
use Rattle.records.specs.Checks.{in_bounds, lengths_ok, records_ok, keys_ok, InBounds, RecordsOk, KeysOk}
use Rattle.records.proofs.Views.{put_at, remove_at}
use Rattle.records.proofs.TurnLaws.{length_records}
use Rattle.records.proofs.KeyLaws.{clash}
use Rattle.records.proofs.RecordLaws.{record_length, record_key, record_stored_length, key_of_key}
use Rattle.records.proofs.PutLaws.{records_after_put, length_after_put, distinct_after_put, slot_room, count_fits}
use Rattle.records.proofs.RemoveLaws.{records_after_remove, length_after_remove, distinct_after_remove}

-- ---- a test of two parts

pub and_left : (a b : Bool) → a && b ≡ true → a ≡ true
and_left true b h = refl
and_left false b h = h

pub and_right : (a b : Bool) → a && b ≡ true → b ≡ true
and_right true b h = h
and_right false b h = absurd (clash h refl)

pub and_true : (a b : Bool) → a ≡ true → b ≡ true → a && b ≡ true
and_true a b p q = rw (p, q)

-- ---- the test as facts, and back

pub bounds_facts : (size : ℕ) (c : ListCounts) (l : List ℕ) → in_bounds size c l ≡ true → InBounds size c l
bounds_facts size c l h =
    let a = leb-true c.count c.capacity (and_left (leb c.count c.capacity) (leb (c.capacity * size) (length l)) h) in
    let b = leb-true (c.capacity * size) (length l) (and_right (leb c.count c.capacity) (leb (c.capacity * size) (length l)) h) in
    let m = mul-le-mul_right size a in
    record { counted = a; room = b; within = omega arith }

pub bounds_test : (size : ℕ) (c : ListCounts) (l : List ℕ) → InBounds size c l → in_bounds size c l ≡ true
bounds_test size c l b =
    and_true (leb c.count c.capacity) (leb (c.capacity * size) (length l)) (le-leb c.count c.capacity b.counted)
    (le-leb (c.capacity * size) (length l) b.room)

-- bounds from the two facts tested
pub bounds_of : (size : ℕ) (c : ListCounts) (l : List ℕ) → c.count ≤ c.capacity → c.capacity * size ≤ length l → InBounds size c l
bounds_of size c l a b = let m = mul-le-mul_right size a in record { counted = a; room = b; within = omega arith }

module _ (size limit : ℕ) (c : ListCounts) (l : List ℕ) where
  pub records_ok_facts : records_ok size limit c l ≡ true → RecordsOk size limit c l
  unfolding records_ok
  records_ok_facts h =
      let a = and_left (in_bounds size c l && lengths_ok limit (records size c.count l)) (distinct (keys size c.count l)) h in
      record {
        bounds = bounds_facts size c l (and_left (in_bounds size c l) (lengths_ok limit (records size c.count l)) a);
        lengths = and_right (in_bounds size c l) (lengths_ok limit (records size c.count l)) a;
        apart = and_right (in_bounds size c l && lengths_ok limit (records size c.count l)) (distinct (keys size c.count l)) h;
      }

  pub records_ok_test : RecordsOk size limit c l → records_ok size limit c l ≡ true
  unfolding records_ok
  records_ok_test f = rw (bounds_test size c l f.bounds, f.lengths, f.apart)

module _ (c : ListCounts) (l : List ℕ) where
  pub keys_ok_facts : keys_ok c l ≡ true → KeysOk c l
  unfolding keys_ok
  keys_ok_facts h =
      record {
        bounds = bounds_facts 32 c l (and_left (in_bounds 32 c l) (distinct (keys 32 c.count l)) h);
        apart = and_right (in_bounds 32 c l) (distinct (keys 32 c.count l)) h;
      }

  pub keys_ok_test : KeysOk c l → keys_ok c l ≡ true
  unfolding keys_ok
  keys_ok_test f = rw (bounds_test 32 c l f.bounds, f.apart)

-- ---- stored lengths on the list of records

module _ (limit : ℕ) where
  -- each record states a length of at most the limit
  pub lengths_at : (rs : List (List ℕ)) (i : ℕ) → i < length rs → lengths_ok limit rs ≡ true → stored_length (get_or rs i []) ≤ limit
  unfolding lengths_ok
  lengths_at [] i h k = absurd (omega arith)
  lengths_at (x ∷ xs) zero h k = leb-true (stored_length x) limit (and_left (leb (stored_length x) limit) (lengths_ok limit xs) k)
  lengths_at (x ∷ xs) (suc i) h k = lengths_at xs i (omega arith) (and_right (leb (stored_length x) limit) (lengths_ok limit xs) k)

  lengths_set : (rs : List (List ℕ)) (i : ℕ) (r : List ℕ) → stored_length r ≤ limit → lengths_ok limit rs ≡ true → lengths_ok limit (set rs i r) ≡ true
  unfolding lengths_ok
  lengths_set [] i r h k = refl
  lengths_set (x ∷ xs) zero r h k = rw (le-leb (stored_length r) limit h) (and_right (leb (stored_length x) limit) (lengths_ok limit xs) k)
  lengths_set (x ∷ xs) (suc i) r h k =
      and_true (leb (stored_length x) limit) (lengths_ok limit (set xs i r)) (and_left (leb (stored_length x) limit) (lengths_ok limit xs) k)
      (lengths_set xs i r h (and_right (leb (stored_length x) limit) (lengths_ok limit xs) k))

  lengths_more : (rs : List (List ℕ)) (r : List ℕ) → stored_length r ≤ limit → lengths_ok limit rs ≡ true → lengths_ok limit (rs ++ r ∷ []) ≡ true
  unfolding lengths_ok
  lengths_more [] r h k = rw (le-leb (stored_length r) limit h)
  lengths_more (x ∷ xs) r h k =
      and_true (leb (stored_length x) limit) (lengths_ok limit (xs ++ r ∷ [])) (and_left (leb (stored_length x) limit) (lengths_ok limit xs) k)
      (lengths_more xs r h (and_right (leb (stored_length x) limit) (lengths_ok limit xs) k))

  lengths_take : (n : ℕ) (rs : List (List ℕ)) → lengths_ok limit rs ≡ true → lengths_ok limit (take n rs) ≡ true
  unfolding lengths_ok
  lengths_take zero rs k = refl
  lengths_take (suc n) [] k = refl
  lengths_take (suc n) (x ∷ xs) k =
      and_true (leb (stored_length x) limit) (lengths_ok limit (take n xs)) (and_left (leb (stored_length x) limit) (lengths_ok limit xs) k)
      (lengths_take n xs (and_right (leb (stored_length x) limit) (lengths_ok limit xs) k))

  pub lengths_put : (f : Option ℕ) (r : List ℕ) (rs : List (List ℕ)) → stored_length r ≤ limit → lengths_ok limit rs ≡ true → lengths_ok limit (put_at f r rs) ≡ true
  lengths_put (Some i) r rs h k = lengths_set rs i r h k
  lengths_put None r rs h k = lengths_more rs r h k

  pub lengths_remove : (i : ℕ) (rs : List (List ℕ)) → i < length rs → lengths_ok limit rs ≡ true → lengths_ok limit (remove_at [] i rs) ≡ true
  unfolding remove_at
  lengths_remove i rs h k =
      lengths_take (length rs - 1) (set rs i (get_or rs (length rs - 1) []))
      (lengths_set rs i (get_or rs (length rs - 1) []) (lengths_at rs (length rs - 1) (omega arith) k) k)

-- ---- a put keeps what 25 asks

module _ (size : ℕ) (c : ListCounts) (key rec l : List ℕ) (sized : length rec ≡ size) (keyed : key_of rec ≡ key)
    (b : InBounds size c l) (free : full_for size c key l ≡ false) where
  abbrev after_put : ListCounts
  after_put = with_count (count_after (find_key key (keys size c.count l)) c.count) c

  pub bounds_after_put : InBounds size (with_count (count_after (find_key key (keys size c.count l)) c.count) c) (put_record size c.count key rec l)
  bounds_after_put =
      bounds_of size after_put (put_record size c.count key rec l) (count_fits size c key l b.counted free)
      (omega (arith, length_after_put size c.count key rec l sized keyed b.within (slot_room size c key l b free), b.room))

-- a row of at most the limit, put where there is room
pub records_ok_after_put : (size limit : ℕ) (c : ListCounts) (key row l : List ℕ) → length key ≡ 32 → 34 + length row ≤ size → length row ≤ limit → length row < 65536
    → full_for size c key l ≡ false → RecordsOk size limit c l
    → RecordsOk size limit (with_count (count_after (find_key key (keys size c.count l)) c.count) c) (put_record size c.count key (record_of size key row) l)
records_ok_after_put size limit c key row l k r m w free ok =
    let rec : List ℕ = record_of size key row in
    let s = record_length size key row k r in
    let e = record_key size key row k in
    let room = slot_room size c key l ok.bounds free in
    record {
      bounds = bounds_after_put size c key rec l s e ok.bounds free;
      lengths = rw (records_after_put size c.count key rec l s e ok.bounds.within room)
          (lengths_put limit (find_key key (keys size c.count l)) rec (records size c.count l) (omega (arith, record_stored_length size key row k w)) ok.lengths);
      apart = distinct_after_put size c.count key rec l s e ok.bounds.within room ok.apart;
    }

pub keys_ok_after_put : (c : ListCounts) (key l : List ℕ) → length key ≡ 32 → full_for 32 c key l ≡ false → KeysOk c l
    → KeysOk (with_count (count_after (find_key key (keys 32 c.count l)) c.count) c) (put_record 32 c.count key key l)
keys_ok_after_put c key l k free ok =
    record {
      bounds = bounds_after_put 32 c key key l k (key_of_key key k) ok.bounds free;
      apart = distinct_after_put 32 c.count key key l k (key_of_key key k) ok.bounds.within (slot_room 32 c key l ok.bounds free) ok.apart;
    }

-- ---- a removal keeps it

pub bounds_after_remove : (size i : ℕ) (c : ListCounts) (l : List ℕ) → i < c.count → InBounds size c l
    → InBounds size (with_count (c.count - 1) c) (remove_record size c.count i l)
bounds_after_remove size i c l h b =
    bounds_of size (with_count (c.count - 1) c) (remove_record size c.count i l) (omega (arith, b.counted))
    (omega (arith, length_after_remove size c.count i l h b.within, b.room))

pub records_ok_after_remove : (size limit i : ℕ) (c : ListCounts) (l : List ℕ) → i < c.count → RecordsOk size limit c l
    → RecordsOk size limit (with_count (c.count - 1) c) (remove_record size c.count i l)
records_ok_after_remove size limit i c l h ok =
    record {
      bounds = bounds_after_remove size i c l h ok.bounds;
      lengths = rw (records_after_remove size c.count i l h ok.bounds.within)
          (lengths_remove limit i (records size c.count l) (omega (arith, length_records size c.count l)) ok.lengths);
      apart = distinct_after_remove size c.count i l h ok.bounds.within ok.apart;
    }

pub keys_ok_after_remove : (i : ℕ) (c : ListCounts) (l : List ℕ) → i < c.count → KeysOk c l → KeysOk (with_count (c.count - 1) c) (remove_record 32 c.count i l)
keys_ok_after_remove i c l h ok =
    record {
      bounds = bounds_after_remove 32 i c l h ok.bounds;
      apart = distinct_after_remove 32 c.count i l h ok.bounds.within ok.apart;
    }

-- ---- an empty list keeps it

pub length_after_clear : (size capacity : ℕ) (l : List ℕ) → capacity * size ≤ length l → length (clear_records size capacity l) ≡ length l
unfolding clear_records
length_after_clear size capacity l h =
    length_write 0 (replicate (capacity * size) 0) l (omega (arith, length-replicate {A = ℕ} (capacity * size) 0))

module _ (size : ℕ) (c : ListCounts) (l : List ℕ) (room : c.capacity * size ≤ length l) where
  pub bounds_after_clear : InBounds size (with_count 0 c) (clear_records size c.capacity l)
  bounds_after_clear =
      bounds_of size (with_count 0 c) (clear_records size c.capacity l) (omega arith) (omega (arith, length_after_clear size c.capacity l room))

pub records_ok_after_clear : (size limit : ℕ) (c : ListCounts) (l : List ℕ) → c.capacity * size ≤ length l
    → RecordsOk size limit (with_count 0 c) (clear_records size c.capacity l)
unfolding records lengths_ok distinct
records_ok_after_clear size limit c l room = record { bounds = bounds_after_clear size c l room; lengths = refl; apart = refl }

pub keys_ok_after_clear : (c : ListCounts) (l : List ℕ) → c.capacity * 32 ≤ length l → KeysOk (with_count 0 c) (clear_records 32 c.capacity l)
unfolding records distinct
keys_ok_after_clear c l room = record { bounds = bounds_after_clear 32 c l room; apart = refl }
