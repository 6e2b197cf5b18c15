-- A list after a put, for records and keys alike: rec is the record of a key and a row, or the key itself.
use Prim.Native.Nat.{ℕ, ◌+◌, ◌*◌, ◌≤◌, ◌<◌}
use mathlib.Core.Path.{◌≡◌, refl, sym, ap, ◌∙◌}
use mathlib.Core.List.{List, [], ◌∷◌, map}
use mathlib.Core.Bool.{true, false, not, ◌&&◌}
use native.Mathlib.Omega.{arith}
use lib.Dec.{leb}
use lib.ListN.{length, get_or, length-set, length-append, get_or-map, get_or-append}
use lib.Seq.{get_or_at, get_or-set_same, get_or-set_other}
use borrow.Author.Tests.{leb-false}
use Rattle.stores.specs.Stores.{write}
use Rattle.stores.proofs.StoreLaws.{length_write}
use Rattle.std.specs.Prelude.{Option, Some, None}
use Rattle.index_types.specs.declared.ListCounts.{ListCounts}
use Rattle.records.specs.Records.{records, keys, key_of, stored_row}
use Rattle.records.specs.Find.{find_key, is_found, distinct}
use Rattle.records.specs.Changes.{slot, count_after, put_record, full_for}
use Rattle.records.specs.Checks.{InBounds}
use Rattle.records.proofs.Views.{put_at, map_put, found_row, row_under, view_row}
use Rattle.records.proofs.TurnLaws.{length_records, length_keys, found_in, below_mul}
use Rattle.records.proofs.KeyLaws.{find_put_same, find_put_other, distinct_put, found_is}
use Rattle.records.proofs.RecordLaws.{records_write, records_append, record_at}

-- the row under a key is read off the list of records
pub row_under_view : (size n : ℕ) (key l : List ℕ) → row_under size n key l ≡ view_row (find_key key (keys size n l)) (records size n l)
row_under_view size n key l = by_case (find_key key (keys size n l)) refl
  where
    by_case : (f : Option ℕ) → f ≡ find_key key (keys size n l) → found_row size l f ≡ view_row f (records size n l)
    by_case (Some i) e = ap stored_row (sym (record_at size n i l (found_in key size n l i (Some i) e refl)))
    by_case None e = refl

-- the count goes with the view
pub count_view : {A : Type 0} (f : Option ℕ) (a : A) (xs : List A) → length (put_at f a xs) ≡ count_after f (length xs)
count_view (Some i) a xs = length-set xs i a
count_view None a xs = length-append xs (a ∷ [])

module _ (size n : ℕ) (key rec l : List ℕ) (sized : length rec ≡ size) (keyed : key_of rec ≡ key) (h : n * size ≤ length l)
    (room : slot (find_key key (keys size n l)) n * size + size ≤ length l) where
  pub records_after_put : records size (count_after (find_key key (keys size n l)) n) (put_record size n key rec l)
      ≡ put_at (find_key key (keys size n l)) rec (records size n l)
  unfolding put_record
  records_after_put = by_case (find_key key (keys size n l)) refl room
    where
      by_case : (f : Option ℕ) → f ≡ find_key key (keys size n l) → slot f n * size + size ≤ length l
          → records size (count_after f n) (write (slot f n * size) rec l) ≡ put_at f rec (records size n l)
      by_case (Some i) q k = records_write size n i rec l sized (found_in key size n l i (Some i) q refl) h
      by_case None q k = records_append size n rec l sized k

  pub keys_after_put : keys size (count_after (find_key key (keys size n l)) n) (put_record size n key rec l)
      ≡ put_at (find_key key (keys size n l)) key (keys size n l)
  keys_after_put =
      ap (map key_of) records_after_put
      ∙ map_put key_of (find_key key (keys size n l)) rec (records size n l)
      ∙ ap (λ (k : List ℕ). put_at (find_key key (keys size n l)) k (keys size n l)) keyed

  pub length_after_put : length (put_record size n key rec l) ≡ length l
  unfolding put_record
  length_after_put = length_write (slot (find_key key (keys size n l)) n * size) rec l (omega arith)

  -- a key that was put is found where it was put
  pub find_after_put : find_key key (keys size (count_after (find_key key (keys size n l)) n) (put_record size n key rec l))
      ≡ Some (slot (find_key key (keys size n l)) n)
  find_after_put = rw keys_after_put (find_put_same key (keys size n l) ∙ rw (length_keys size n l))

  -- any other key is found where it was
  pub find_other_after_put : (other : List ℕ) → (key ≡ other → ⊥)
      → find_key other (keys size (count_after (find_key key (keys size n l)) n) (put_record size n key rec l)) ≡ find_key other (keys size n l)
  find_other_after_put other ne = rw keys_after_put (find_put_other key other (keys size n l) ne)

  -- a put makes no key stand twice
  pub distinct_after_put : distinct (keys size n l) ≡ true
      → distinct (keys size (count_after (find_key key (keys size n l)) n) (put_record size n key rec l)) ≡ true
  distinct_after_put t = rw keys_after_put (distinct_put key (keys size n l) t)

  -- the row under the key is that of the record put
  pub row_after_put : row_under size (count_after (find_key key (keys size n l)) n) key (put_record size n key rec l) ≡ stored_row rec
  row_after_put =
      row_under_view size (count_after (find_key key (keys size n l)) n) key (put_record size n key rec l)
      ∙ rw (find_after_put, records_after_put) (by_case (find_key key (keys size n l)) refl)
    where
      by_case : (g : Option ℕ) → g ≡ find_key key (keys size n l) → view_row (Some (slot g n)) (put_at g rec (records size n l)) ≡ stored_row rec
      by_case (Some i) e =
          let b = found_in key size n l i (Some i) e refl in
          rw (get_or-set_same (records size n l) i rec [] (omega (arith, length_records size n l)))
      by_case None e = rw (get_or_at (records size n l) rec [] [] n (length_records size n l))

  -- the row under any other key is as it was
  pub row_other_after_put : (other : List ℕ) → (key ≡ other → ⊥)
      → row_under size (count_after (find_key key (keys size n l)) n) other (put_record size n key rec l) ≡ row_under size n other l
  row_other_after_put other ne =
      row_under_view size (count_after (find_key key (keys size n l)) n) other (put_record size n key rec l)
      ∙ rw (find_other_after_put other ne, records_after_put) (by_case (find_key key (keys size n l)) refl (find_key other (keys size n l)) refl)
      ∙ sym (row_under_view size n other l)
    where
      key_there : (a : List ℕ) (i : ℕ) → find_key a (keys size n l) ≡ Some i → key_of (get_or (records size n l) i []) ≡ a
      key_there a i e = sym (get_or-map key_of (records size n l) i []) ∙ (found_is a (keys size n l) i e).1

      by_case : (g : Option ℕ) → find_key key (keys size n l) ≡ g → (o : Option ℕ) → find_key other (keys size n l) ≡ o
          → view_row o (put_at g rec (records size n l)) ≡ view_row o (records size n l)
      by_case g e None d = refl
      by_case (Some i) e (Some j) d =
          ap stored_row (get_or-set_other (records size n l) i j rec []
          (λ q. ne (sym (key_there key i e) ∙ ap (λ (m : ℕ). key_of (get_or (records size n l) m [])) (sym q) ∙ key_there other j d)))
      by_case None e (Some j) d =
          let b = found_in other size n l j (Some j) (sym d) refl in
          ap stored_row (get_or-append (records size n l) (rec ∷ []) [] j (omega (arith, length_records size n l)))

-- ---- room

-- the place of the key is below the capacity
pub slot_below : (size : ℕ) (c : ListCounts) (key l : List ℕ) → c.count ≤ c.capacity → full_for size c key l ≡ false
    → slot (find_key key (keys size c.count l)) c.count < c.capacity
unfolding full_for
slot_below size c key l a h = by_case (find_key key (keys size c.count l)) refl h
  where
    by_case : (f : Option ℕ) → f ≡ find_key key (keys size c.count l) → not (is_found f) && leb c.capacity c.count ≡ false → slot f c.count < c.capacity
    by_case (Some i) e h = omega (arith, found_in key size c.count l i (Some i) e refl)
    by_case None e h = leb-false c.capacity c.count h

-- a list that is not full for a key has room where its record goes
pub slot_room : (size : ℕ) (c : ListCounts) (key l : List ℕ) → InBounds size c l → full_for size c key l ≡ false
    → slot (find_key key (keys size c.count l)) c.count * size + size ≤ length l
slot_room size c key l b h =
    omega (arith, below_mul size c.capacity (slot (find_key key (keys size c.count l)) c.count) (slot_below size c key l b.counted h), b.room)

-- the count stays within the capacity
pub count_fits : (size : ℕ) (c : ListCounts) (key l : List ℕ) → c.count ≤ c.capacity → full_for size c key l ≡ false
    → count_after (find_key key (keys size c.count l)) c.count ≤ c.capacity
count_fits size c key l a h = by_case (find_key key (keys size c.count l)) (slot_below size c key l a h)
  where
    by_case : (f : Option ℕ) → slot f c.count < c.capacity → count_after f c.count ≤ c.capacity
    by_case (Some i) b = a
    by_case None b = omega arith
