-- Laws of the table of a flush: the turns of its loops, and the room that the new keys need.
use Prim.Native.Nat.{ℕ, zero, suc, ◌+◌, ◌*◌, ◌-◌, ◌≤◌, ◌<◌}
use mathlib.Core.Path.{◌≡◌, refl, sym, ap, ◌∙◌, subst}
use mathlib.Core.Bool.{Bool, true, false, not, ◌&&◌, cond}
use mathlib.Core.List.{List, [], ◌∷◌, ◌++◌}
use native.Mathlib.Omega.{arith}
use native.Mathlib.Nat.{mul-le-mul_right}
use lib.ListN.{length, get_or, take, drop, length-take, length-drop}
use lib.Seq.{take-take, drop-drop, get_or-take}
use Rattle.std.specs.Simd.{first_chunks}
use Rattle.stores.specs.Equal.{same_bytes}
use Rattle.std.specs.Prelude.{Option, Some, None}
use Rattle.index_types.specs.declared.ListCounts.{ListCounts}
use Rattle.records.specs.Records.{records, keys, stored_row, record_of}
use Rattle.records.specs.Find.{find_from, find_key, is_found, distinct}
use Rattle.records.specs.Changes.{slot, count_after, with_count, put_record}
use Rattle.records.proofs.KeyLaws.{clash, PutCase, put_cases}
use Rattle.records.proofs.Views.{put_at}
use Rattle.records.proofs.TurnLaws.{records_step, records_past, keys_step, keys_past, found_in, below_mul}
use Rattle.records.proofs.RecordLaws.{row_room, record_length, record_key}
use Rattle.records.proofs.PutLaws.{keys_after_put, distinct_after_put}
use Rattle.records.proofs.RemoveLaws.{distinct_after_remove}
use Rattle.index_types.specs.declared.RowEdition.{RowEdition}
use Rattle.buffer_core.specs.Edition.{edition_of, record_size}
use Rattle.buffer_core.specs.Pop.{count_without, bytes_without}
use Rattle.buffer_core.specs.Flush.{new_count, Listed, listed, put_staged, put_undeleted, remove_key, remove_keys}
use Rattle.entries.specs.Tally.{one_if}
use Rattle.buffer_core.proofs.SizeLaws.{sizes, slot_in}
use Rattle.flush_table.specs.Internal.{is_new, put_unless_deleted}

-- ---- a list of keys in parts of 32 bytes

part_at : (k i : ℕ) (l : List ℕ) → i < k → get_or (first_chunks 32 k l) i [] ≡ take 32 (drop (i * 32) l)
part_at zero i l h = absurd (omega arith)
part_at (suc k) zero l h = refl
part_at (suc k) (suc i) l h = part_at k i (drop 32 l) (omega arith) ∙ ap (take 32) (drop-drop (i * 32) 32 l ∙ ap (λ (m : ℕ). drop m l) (omega arith))

pub key_at : (parts : List (List ℕ)) (k m i : ℕ) (l : List ℕ) → parts ≡ first_chunks 32 k l → m ≤ k → i < m → get_or (take m parts) i [] ≡ take 32 (drop (i * 32) l)
key_at parts k m i l e h q = get_or-take m parts i [] q ∙ ap (λ (p : List (List ℕ)). get_or p i []) e ∙ part_at k i l (omega arith)

-- ---- the keys that are still new

-- they fall as records are put
found_more : (k key : List ℕ) (i : ℕ) (xs : List (List ℕ)) → is_found (find_from k i xs) ≡ true → is_found (find_from k i (xs ++ key ∷ [])) ≡ true
unfolding find_from
found_more k key i [] h = absurd (clash h refl)
found_more k key i (x ∷ xs) h = by_test (same_bytes x k) h (found_more k key (suc i) xs)
  where
    by_test : (t : Bool) → is_found (cond t (Some i) (find_from k (suc i) xs)) ≡ true
        → (is_found (find_from k (suc i) xs) ≡ true → is_found (find_from k (suc i) (xs ++ key ∷ [])) ≡ true)
        → is_found (cond t (Some i) (find_from k (suc i) (xs ++ key ∷ []))) ≡ true
    by_test true h r = refl
    by_test false h r = r h

one_less : (d a b : Bool) → (a ≡ true → b ≡ true) → one_if (d && not b) ≤ one_if (d && not a)
one_less true true true h = omega arith
one_less true true false h = absurd (clash refl (sym (h refl)))
one_less true false true h = omega arith
one_less true false false h = omega arith
one_less false a b h = omega arith

new_less : (table deleted ks : List (List ℕ)) (key : List ℕ) → new_count (table ++ key ∷ []) deleted ks ≤ new_count table deleted ks
unfolding new_count
new_less table deleted [] key = omega arith
new_less table deleted (k ∷ ks) key =
    let a = new_less table deleted ks key in
    let b = one_less (not (is_found (find_key k deleted))) (is_found (find_key k table)) (is_found (find_key k (table ++ key ∷ []))) (found_more k key 0 table) in
    omega arith

-- ---- turns of the loops

module _ (v : RowEdition) where
  abbrev size : ℕ
  size = record_size v

  big : 34 ≤ size
  big = (sizes v).0

  -- a turn's record lies within the list
  pub turn_in : (i m at len : ℕ) → i < m → m * size ≤ len → at ≡ i * size → (34 ≤ size) × (at + size ≤ len)
  turn_in i m at len h k e = (big, omega (arith, slot_in v i m len h k))

  pub fewer : (n k total len : ℕ) → n + k ≤ total → total * size ≤ len → n * size ≤ len
  fewer n k total len h w = omega (arith, mul-le-mul_right {m = n} {n = total} size (omega arith))

  pub new_step : (table deleted : List (List ℕ)) (n i at : ℕ) (l : List ℕ) → i < n
      → new_count table deleted (keys size (n - i) (drop at l))
      ≡ one_if (is_new table deleted (take 32 (drop at l))) + new_count table deleted (keys size (n - (i + 1)) (drop (at + size) l))
  unfolding new_count
  new_step table deleted n i at l k = ap (new_count table deleted) (keys_step size n i at l (omega (arith, big)) k)

  pub put_step : (deleted : List (List ℕ)) (n i at : ℕ) (l : List ℕ) (t : Listed) → i < n
      → put_undeleted (edition_of v) deleted (records size (n - i) (drop at l)) t
      ≡ put_undeleted (edition_of v) deleted (records size (n - (i + 1)) (drop (at + size) l)) (put_unless_deleted v deleted (take size (drop at l)) t)
  unfolding put_undeleted put_unless_deleted
  put_step deleted n i at l t h = ap (λ (rs : List (List ℕ)). put_undeleted (edition_of v) deleted rs t) (records_step size n i at l h)

  pub put_past : (deleted : List (List ℕ)) (n i : ℕ) (l : List ℕ) (t : Listed) → n ≤ i → put_undeleted (edition_of v) deleted (records size (n - i) l) t ≡ t
  unfolding put_undeleted
  put_past deleted n i l t h = ap (λ (rs : List (List ℕ)). put_undeleted (edition_of v) deleted rs t) (records_past size n i l h)

  pub remove_step : (n i at : ℕ) (l : List ℕ) (t : Listed) → i < n
      → remove_keys (edition_of v) (keys 32 (n - i) (drop at l)) t ≡ remove_keys (edition_of v) (keys 32 (n - (i + 1)) (drop (at + 32) l)) (remove_key (edition_of v) (take 32 (drop at l)) t)
  unfolding remove_keys
  remove_step n i at l t h = ap (λ (ks : List (List ℕ)). remove_keys (edition_of v) ks t) (keys_step 32 n i at l (omega arith) h)

  pub remove_past : (n i : ℕ) (l : List ℕ) (t : Listed) → n ≤ i → remove_keys (edition_of v) (keys 32 (n - i) l) t ≡ t
  unfolding remove_keys
  remove_past n i l t h = ap (λ (ks : List (List ℕ)). remove_keys (edition_of v) ks t) (keys_past 32 n i l h)

  -- a removal makes no list longer
  pub remove_less : (k : List ℕ) (t : Listed) → (remove_key (edition_of v) k t).counts.count ≤ t.counts.count
  unfolding remove_key
  remove_less k t = by_case (find_key k (keys size t.counts.count t.bytes))
    where
      by_case : (f : Option ℕ) → (count_without f t.counts).count ≤ t.counts.count
      by_case (Some i) = omega arith
      by_case None = omega arith

  -- ---- a staged record's turn

  module _ (deleted : List (List ℕ)) (at : ℕ) (staged : List ℕ) (t : Listed) where
    key_in : take 32 (take size (drop at staged)) ≡ take 32 (drop at staged)
    key_in = take-take 32 size (drop at staged) (omega (arith, big))

    pub put_kept : is_found (find_key (take 32 (drop at staged)) deleted) ≡ true → t ≡ put_unless_deleted v deleted (take size (drop at staged)) t
    unfolding put_unless_deleted
    put_kept d = rw (key_in, d)

    pub put_done : is_found (find_key (take 32 (drop at staged)) deleted) ≡ false
        → (n : ℕ) (l : List ℕ) → n ≡ count_after (find_key (take 32 (drop at staged)) (keys size t.counts.count t.bytes)) t.counts.count
        → l ≡ put_record size t.counts.count (take 32 (drop at staged)) (record_of size (take 32 (drop at staged)) (stored_row (take size (drop at staged)))) t.bytes
        → listed (with_count n t.counts) l ≡ put_unless_deleted v deleted (take size (drop at staged)) t
    unfolding put_unless_deleted put_staged
    put_done d n l e f = rw (key_in, d, e, f)

  -- a key that is new, or stands in the table, has its place
  pub slot_new : (n : ℕ) (key l : List ℕ) (deleted : List (List ℕ)) → is_found (find_key key deleted) ≡ false
      → (n + one_if (is_new (keys size n l) deleted key)) * size ≤ length l
      → (n * size ≤ length l) × (slot (find_key key (keys size n l)) n * size + size ≤ length l)
  slot_new n key l deleted d h = by_case (find_key key (keys size n l)) refl (rw d at h)
    where
      by_case : (f : Option ℕ) → f ≡ find_key key (keys size n l) → (n + one_if (not (is_found f))) * size ≤ length l
          → (n * size ≤ length l) × (slot f n * size + size ≤ length l)
      by_case (Some i) e h =
          let m : n * size ≤ length l = omega (arith, mul-le-mul_right {m = n} {n = n + 0} size (omega arith)) in
          (m, omega (arith, below_mul size n i (found_in key size n l i (Some i) e refl)))
      by_case None e h = (omega (arith, below_mul size (n + 1) n (omega arith)), omega (arith, below_mul size (n + 1) n (omega arith)))

  module _ (n at : ℕ) (staged l : List ℕ) (deleted : List (List ℕ)) (c : ListCounts) (in_staged : at + size ≤ length staged)
      (room : (n + one_if (is_new (keys size n l) deleted (take 32 (drop at staged)))) * size ≤ length l) where
    abbrev key : List ℕ
    key = take 32 (drop at staged)

    abbrev row : List ℕ
    row = stored_row (take size (drop at staged))

    len_part : (m : ℕ) → m ≤ size → length (take m (drop at staged)) ≡ m
    len_part m h = rw (length-take, length-drop) (omega arith)

    abbrev put_new : Listed
    put_new = listed (with_count (count_after (find_key key (keys size n l)) n) c) (put_record size n key (record_of size key row) l)

    pub put_room : (ks : List (List ℕ))
        → (put_unless_deleted v deleted (take size (drop at staged)) (listed (with_count n c) l)).counts.count
        + new_count (keys size (put_unless_deleted v deleted (take size (drop at staged)) (listed (with_count n c) l)).counts.count (put_unless_deleted v deleted (take size (drop at staged)) (listed (with_count n c) l)).bytes) deleted ks
        ≤ n + (one_if (is_new (keys size n l) deleted (take 32 (drop at staged))) + new_count (keys size n l) deleted ks)
    unfolding put_unless_deleted put_staged
    put_room ks = rw (take-take 32 size (drop at staged) (omega (arith, big))) (by_test (is_found (find_key key deleted)) refl)
      where
        by_test : (t : Bool) → is_found (find_key key deleted) ≡ t
            → (cond t (listed (with_count n c) l) put_new).counts.count
            + new_count (keys size (cond t (listed (with_count n c) l) put_new).counts.count (cond t (listed (with_count n c) l) put_new).bytes) deleted ks
            ≤ n + (one_if (not t && not (is_found (find_key key (keys size n l)))) + new_count (keys size n l) deleted ks)
        by_test true d = omega arith
        by_test false d =
            let s = slot_new n key l deleted d room in
            let r = row_room size (take size (drop at staged)) big (len_part size (omega arith)) in
            rw (keys_after_put size n key (record_of size key row) l (record_length size key row (len_part 32 (omega (arith, big))) r) (record_key size key row (len_part 32 (omega (arith, big)))) s.0 s.1) (by_put (put_cases key (keys size n l)))
          where
            by_put : PutCase key (keys size n l)
                → count_after (find_key key (keys size n l)) n + new_count (put_at (find_key key (keys size n l)) key (keys size n l)) deleted ks
                ≤ n + (one_if (not (is_found (find_key key (keys size n l)))) + new_count (keys size n l) deleted ks)
            by_put (PutCase.replaced j h e f p) = rw (p, f) (omega arith)
            by_put (PutCase.added q f p) = rw (p, f) (omega (arith, new_less (keys size n l) deleted ks key))

    -- no key stands twice afterwards
    pub put_apart : distinct (keys size n l) ≡ true
        → distinct (keys size (put_unless_deleted v deleted (take size (drop at staged)) (listed (with_count n c) l)).counts.count (put_unless_deleted v deleted (take size (drop at staged)) (listed (with_count n c) l)).bytes)
        ≡ true
    unfolding put_unless_deleted put_staged
    put_apart apart = rw (take-take 32 size (drop at staged) (omega (arith, big))) (by_test (is_found (find_key key deleted)) refl)
      where
        by_test : (t : Bool) → is_found (find_key key deleted) ≡ t
            → distinct (keys size (cond t (listed (with_count n c) l) put_new).counts.count (cond t (listed (with_count n c) l) put_new).bytes) ≡ true
        by_test true d = apart
        by_test false d =
            let s = slot_new n key l deleted d room in
            let r = row_room size (take size (drop at staged)) big (len_part size (omega arith)) in
            distinct_after_put size n key (record_of size key row) l (record_length size key row (len_part 32 (omega (arith, big))) r) (record_key size key row (len_part 32 (omega (arith, big)))) s.0 s.1 apart

  module _ (deleted : List (List ℕ)) (m i at n : ℕ) (staged l : List ℕ) (c : ListCounts) (k : i < m) (total : ℕ)
      (still : n + new_count (keys size n l) deleted (keys size (m - i) (drop at staged)) ≤ total) where
    pub room_now : total * size ≤ length l → (n + one_if (is_new (keys size n l) deleted (take 32 (drop at staged)))) * size ≤ length l
    room_now w =
        let s = new_step (keys size n l) deleted m i at staged k in
        fewer (n + one_if (is_new (keys size n l) deleted (take 32 (drop at staged)))) (new_count (keys size n l) deleted (keys size (m - (i + 1)) (drop (at + size) staged))) total _ (omega arith) w

    pub put_turn : at + size ≤ length staged → total * size ≤ length l → (n' : ℕ) (l' : List ℕ)
        → listed (with_count n' c) l' ≡ put_unless_deleted v deleted (take size (drop at staged)) (listed (with_count n c) l)
        → n' + new_count (keys size n' l') deleted (keys size (m - (i + 1)) (drop (at + size) staged)) ≤ total
    put_turn b w n' l' e =
        let s = new_step (keys size n l) deleted m i at staged k in
        let p = put_room n at staged l deleted c b (room_now w) (keys size (m - (i + 1)) (drop (at + size) staged)) in
        let q : n' + new_count (keys size n' l') deleted (keys size (m - (i + 1)) (drop (at + size) staged))
        ≤ n + (one_if (is_new (keys size n l) deleted (take 32 (drop at staged))) + new_count (keys size n l) deleted (keys size (m - (i + 1)) (drop (at + size) staged)))
        = rw (sym e) at p in
        omega arith

    pub turn_apart : at + size ≤ length staged → total * size ≤ length l → distinct (keys size n l) ≡ true → (n' : ℕ) (l' : List ℕ)
        → listed (with_count n' c) l' ≡ put_unless_deleted v deleted (take size (drop at staged)) (listed (with_count n c) l) → distinct (keys size n' l') ≡ true
    turn_apart b w apart n' l' e = rw (sym e) at (put_apart n at staged l deleted c b (room_now w) apart)

  -- a removal makes no key stand twice
  pub remove_apart : (k : List ℕ) (n n' : ℕ) (l l' : List ℕ) (c : ListCounts) → listed (with_count n' c) l' ≡ remove_key (edition_of v) k (listed (with_count n c) l)
      → n * size ≤ length l → distinct (keys size n l) ≡ true → distinct (keys size n' l') ≡ true
  unfolding remove_key
  remove_apart k n n' l l' c e h apart = by_case (find_key k (keys size n l)) refl e
    where
      by_case : (f : Option ℕ) → f ≡ find_key k (keys size n l)
          → listed (with_count n' c) l' ≡ listed (count_without f (with_count n c)) (bytes_without size f (with_count n c) l)
          → distinct (keys size n' l') ≡ true
      by_case (Some i) g e =
          subst (λ (t : Listed). distinct (keys size t.counts.count t.bytes) ≡ true) (sym e)
          (distinct_after_remove size n i l (found_in k size n l i (Some i) g refl) h apart)
      by_case None g e = subst (λ (t : Listed). distinct (keys size t.counts.count t.bytes) ≡ true) (sym e) apart

  pub remove_within : (k : List ℕ) (n n' : ℕ) (l l' : List ℕ) (c : ListCounts) (len : ℕ) → listed (with_count n' c) l' ≡ remove_key (edition_of v) k (listed (with_count n c) l)
      → n * size ≤ len → n' * size ≤ len
  remove_within k n n' l l' c len e h =
      let q : n' ≡ (remove_key (edition_of v) k (listed (with_count n c) l)).counts.count = ap (λ (t : Listed). t.counts.count) e in
      let r = remove_less k (listed (with_count n c) l) in
      omega (arith, mul-le-mul_right {m = n'} {n = n} size (omega arith))
