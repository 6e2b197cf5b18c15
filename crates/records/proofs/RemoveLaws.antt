-- A list after a removal, for records and keys alike.
use Prim.Native.Nat.{ℕ, ◌*◌, ◌-◌, ◌≤◌, ◌<◌}
use mathlib.Core.Path.{◌≡◌, refl, sym, ap, ◌∙◌}
use mathlib.Core.List.{List, [], map}
use mathlib.Core.Bool.{Bool, true, false}
use native.Mathlib.Omega.{arith}
use lib.Dec.{eqb}
use lib.ListN.{length, get_or, take, drop, replicate, length-replicate}
use borrow.Author.Tests.{eqb-true, eqb-false}
use Rattle.stores.specs.Stores.{write}
use Rattle.stores.proofs.StoreLaws.{length_write, length_part}
use Rattle.std.specs.Prelude.{Option, Some, None}
use Rattle.records.specs.Records.{records, keys, key_of, stored_row}
use Rattle.records.specs.Find.{find_key, is_found, distinct}
use Rattle.records.specs.Changes.{remove_record}
use Rattle.records.proofs.Views.{remove_at, map_remove, remove_same, remove_other, row_under, view_row}
use Rattle.records.proofs.TurnLaws.{length_records, length_keys, below_mul, last_mul}
use Rattle.records.proofs.KeyLaws.{distinct_remove, find_removed, find_remove_none, find_remove_kept, find_remove_moved, found_is, found_none}
use Rattle.records.proofs.RecordLaws.{records_write, records_before, records_fewer, record_at, part_written}
use Rattle.records.proofs.PutLaws.{row_under_view}

module _ (size n i : ℕ) (l : List ℕ) (b : i < n) (h : n * size ≤ length l) where
  last_size : length (take size (drop ((n - 1) * size) l)) ≡ size
  last_size = let m = last_mul size n (omega arith) in length_part ((n - 1) * size) size l (omega arith)

  length_moved : length (write (i * size) (take size (drop ((n - 1) * size) l)) l) ≡ length l
  length_moved =
      let m = below_mul size n i b in
      length_write (i * size) (take size (drop ((n - 1) * size) l)) l (omega (arith, last_size))

  pub length_after_remove : length (remove_record size n i l) ≡ length l
  unfolding remove_record
  length_after_remove =
      let m = last_mul size n (omega arith) in
      length_write ((n - 1) * size) (replicate size 0) (write (i * size) (take size (drop ((n - 1) * size) l)) l)
      (omega (arith, length-replicate {A = ℕ} size 0, length_moved))
      ∙ length_moved

  pub records_after_remove : records size (n - 1) (remove_record size n i l) ≡ remove_at [] i (records size n l)
  unfolding remove_record remove_at
  records_after_remove =
      let m = last_mul size n (omega arith) in
      let r : List ℕ = take size (drop ((n - 1) * size) l) in
      let w : List ℕ = write (i * size) r l in
      rw (
        records_before size (n - 1) ((n - 1) * size) (replicate size 0) w (omega arith) (omega (arith, length_moved)),
        records_fewer size n (n - 1) w (omega arith),
        records_write size n i r l last_size b h,
        length_records size n l,
        record_at size n (n - 1) l (omega arith),
      )

  -- the vacated record is zero
  pub removed_zero : take size (drop ((n - 1) * size) (remove_record size n i l)) ≡ replicate size 0
  unfolding remove_record
  removed_zero =
      let m = last_mul size n (omega arith) in
      let w : List ℕ = write (i * size) (take size (drop ((n - 1) * size) l)) l in
      let e : length {A = ℕ} (replicate size 0) ≡ size = length-replicate size 0 in
      rw e at (part_written ((n - 1) * size) (replicate size 0) w (omega (arith, length_moved)))

  pub keys_after_remove : keys size (n - 1) (remove_record size n i l) ≡ remove_at [] i (keys size n l)
  keys_after_remove = ap (map key_of) records_after_remove ∙ map_remove key_of [] i (records size n l)

  -- a removal makes no key stand twice
  pub distinct_after_remove : distinct (keys size n l) ≡ true → distinct (keys size (n - 1) (remove_record size n i l)) ≡ true
  distinct_after_remove t = rw keys_after_remove (distinct_remove (keys size n l) i (omega (arith, length_keys size n l)) t)

  module _ (t : distinct (keys size n l) ≡ true) where
    -- the removed key is gone
    pub find_after_remove : find_key (get_or (keys size n l) i []) (keys size (n - 1) (remove_record size n i l)) ≡ None
    find_after_remove = rw keys_after_remove (find_removed (keys size n l) i (omega (arith, length_keys size n l)) t)

    -- where the record of another key, at index j, stands afterwards
    pub record Kept (other : List ℕ) (j : ℕ) : Type 0 where
      pub to : ℕ
      pub found : find_key other (keys size (n - 1) (remove_record size n i l)) ≡ Some to
      pub same : get_or (records size (n - 1) (remove_record size n i l)) to [] ≡ get_or (records size n l) j []

    pub find_kept : (other : List ℕ) → (get_or (keys size n l) i [] ≡ other → ⊥) → (j : ℕ) → find_key other (keys size n l) ≡ Some j → Kept other j
    find_kept other ne j d = by_test (eqb j (n - 1)) refl
      where
        ks_long : length (keys size n l) ≡ n
        ks_long = length_keys size n l

        rs_long : length (records size n l) ≡ n
        rs_long = length_records size n l

        there : get_or (keys size n l) j [] ≡ other
        there = (found_is other (keys size n l) j d).1

        below : j < length (keys size n l)
        below = (found_is other (keys size n l) j d).0

        not_i : j ≡ i → ⊥
        not_i e = ne (ap (λ (m : ℕ). get_or (keys size n l) m []) (sym e) ∙ there)

        by_test : (u : Bool) → eqb j (n - 1) ≡ u → Kept other j
        by_test true u =
            let e = eqb-true j (n - 1) u in
            let q : length (keys size n l) - 1 ≡ j = omega (arith, ks_long) in
            let p : length (records size n l) - 1 ≡ j = omega (arith, rs_long) in
            record {
              to = i;
              found = rw keys_after_remove
                  (find_remove_moved (keys size n l) i (omega (arith, ks_long)) t other (omega (arith, ks_long, not_i)) (rw q there));
              same = rw (records_after_remove, remove_same [] (records size n l) i (omega (arith, rs_long)) (omega (arith, rs_long, not_i)), p);
            }
        by_test false u =
            let e = eqb-false j (n - 1) u in
            record {
              to = j;
              found = rw keys_after_remove
                  (find_remove_kept (keys size n l) i (omega (arith, ks_long)) t other j (omega (arith, ks_long, below)) not_i there);
              same = rw (records_after_remove, remove_other [] (records size n l) i (omega (arith, rs_long)) j (omega (arith, rs_long, ks_long, below)) not_i);
            }

    find_lacking : (other : List ℕ) → find_key other (keys size n l) ≡ None → find_key other (keys size (n - 1) (remove_record size n i l)) ≡ None
    find_lacking other d =
        rw keys_after_remove (find_remove_none (keys size n l) i (omega (arith, length_keys size n l)) t other (found_none other (keys size n l) d))

    module _ (other : List ℕ) (ne : get_or (keys size n l) i [] ≡ other → ⊥) where
      -- every other key is there as before
      pub find_other_after_remove : is_found (find_key other (keys size (n - 1) (remove_record size n i l))) ≡ is_found (find_key other (keys size n l))
      find_other_after_remove = by_case (find_key other (keys size n l)) refl
        where
          by_case : (o : Option ℕ) → find_key other (keys size n l) ≡ o → is_found (find_key other (keys size (n - 1) (remove_record size n i l))) ≡ is_found o
          by_case None d = rw (find_lacking other d)
          by_case (Some j) d = rw (find_kept other ne j d).found

      -- and has the row that it had
      pub row_after_remove : row_under size (n - 1) other (remove_record size n i l) ≡ row_under size n other l
      row_after_remove =
          row_under_view size (n - 1) other (remove_record size n i l)
          ∙ by_case (find_key other (keys size n l)) refl
          ∙ sym (row_under_view size n other l)
        where
          by_case : (o : Option ℕ) → find_key other (keys size n l) ≡ o
              → view_row (find_key other (keys size (n - 1) (remove_record size n i l))) (records size (n - 1) (remove_record size n i l))
              ≡ view_row o (records size n l)
          by_case None d = rw (find_lacking other d)
          by_case (Some j) d = let k = find_kept other ne j d in rw k.found (ap stored_row k.same)
