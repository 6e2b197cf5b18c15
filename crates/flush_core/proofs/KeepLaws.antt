-- An accepted flush keeps what refusal 25 tests: a flush that was accepted never makes the next call refuse 25.
use Prim.Native.Nat.{ℕ, zero, suc, ◌+◌, ◌*◌, ◌-◌, ◌≤◌}
use mathlib.Core.Path.{◌≡◌, refl}
use mathlib.Core.Bool.{Bool, true, false, not, ◌&&◌, cond}
use mathlib.Core.List.{List, [], ◌∷◌}
use native.Mathlib.Omega.{arith}
use native.Mathlib.Nat.{suc-mul, mul-le-mul_right}
use lib.Dec.{leb}
use lib.ListN.{length, take, drop, length-take, length-drop}
use lib.Seq.{take-take}
use borrow.Author.Tests.{leb-true, lt-leb}
use Rattle.index_types.specs.declared.ListCounts.{ListCounts}
use Rattle.records.specs.Records.{records, keys, stored_length, stored_row}
use Rattle.records.specs.Find.{find_key, is_found}
use Rattle.records.specs.Changes.{with_count, full_for, clear_records}
use Rattle.records.specs.Checks.{lengths_ok, RecordsOk}
use Rattle.records.proofs.RecordLaws.{row_room}
use Rattle.records.proofs.CheckLaws.{and_left, and_right, records_ok_after_put, records_ok_after_clear, keys_ok_after_clear}
use Rattle.std.specs.Prelude.{Ok, Err}
use Rattle.index_types.specs.declared.RowEdition.{RowEdition}
use Rattle.buffer_core.specs.Edition.{edition_of, record_size, row_limit_of}
use Rattle.buffer_core.specs.Pop.{Lists, lists, lists_ok}
use Rattle.buffer_core.specs.Flush.{new_count, new_keys, Listed, listed, put_staged, put_undeleted, remove_key, remove_keys, deleted_keys, table_after, Flushing, flushing, flushed, flush_core}
use Rattle.entries.specs.Tally.{one_if}
use Rattle.buffer_core.proofs.SizeLaws.{sizes, limit_most}
use Rattle.buffer_core.proofs.ListLaws.{ListsFit, lists_fit, fit_lists, without_ok}
use Rattle.flush_table.specs.Internal.{is_new, put_unless_deleted}
use Rattle.flush_table.proofs.TableLaws.{put_room}
use Rattle.flush_core.specs.Internal.{FlushReady}
use Rattle.index_types.proofs.AnswerLaws.{triple_same}

module _ (v : RowEdition) where
  abbrev size : ℕ
  size = record_size v

  abbrev limit : ℕ
  limit = row_limit_of v

  -- what the core asks for
  pub flush_ready : (b : Lists) → lists_ok (edition_of v) b ≡ true → FlushReady v b
  flush_ready b t =
      let f = lists_fit (edition_of v) b t in
      record { in_table = f.in_table.bounds; in_staged = f.in_staged.bounds; in_deleted = f.in_deleted.bounds; apart = f.in_table.apart }

  -- ---- the table, record by record

  abbrev pub TableOk : Listed → Type 0
  TableOk t = RecordsOk size limit t.counts t.bytes

  -- a staged record whose key is new has a free place
  not_full : (deleted : List (List ℕ)) (c : ListCounts) (key l : List ℕ) → is_found (find_key key deleted) ≡ false
      → c.count + one_if (is_new (keys size c.count l) deleted key) ≤ c.capacity → full_for size c key l ≡ false
  unfolding full_for
  not_full deleted c key l d h = by_test (is_found (find_key key (keys size c.count l))) (rw d at h)
    where
      by_test : (f : Bool) → c.count + one_if (not f) ≤ c.capacity → not f && leb c.capacity c.count ≡ false
      by_test true h = refl
      by_test false h = lt-leb c.capacity c.count (omega arith)

  module _ (deleted : List (List ℕ)) (rec : List ℕ) (t : Listed) (long : length rec ≡ size) (fits : stored_length rec ≤ limit) (ok : TableOk t)
      (room : t.counts.count + one_if (is_new (keys size t.counts.count t.bytes) deleted (take 32 rec)) ≤ t.counts.capacity) where
    row_most : length (stored_row rec) ≤ limit
    unfolding stored_row
    row_most = simp length-take (omega arith)

    put_ok : TableOk (put_unless_deleted v deleted rec t)
    unfolding put_unless_deleted put_staged
    put_ok = by_test (is_found (find_key (take 32 rec) deleted)) refl
      where
        by_test : (f : Bool) → is_found (find_key (take 32 rec) deleted) ≡ f → TableOk (cond f t (put_staged (edition_of v) rec t))
        by_test true e = ok
        by_test false e =
            records_ok_after_put size limit t.counts (take 32 rec) (stored_row rec) t.bytes (simp length-take (omega (arith, (sizes v).0)))
            (row_room size rec (sizes v).0 long) row_most (omega (arith, row_most, limit_most v)) (not_full deleted t.counts (take 32 rec) t.bytes e room) ok

  put_capacity : (deleted : List (List ℕ)) (rec : List ℕ) (t : Listed) → (put_unless_deleted v deleted rec t).counts.capacity ≡ t.counts.capacity
  unfolding put_unless_deleted put_staged
  put_capacity deleted rec t = by_test (is_found (find_key (take 32 rec) deleted))
    where
      by_test : (f : Bool) → (cond f t (put_staged (edition_of v) rec t)).counts.capacity ≡ t.counts.capacity
      by_test true = refl
      by_test false = refl

  -- the keys of ks that are still new have free places behind it
  room_next : (deleted : List (List ℕ)) (staged : List ℕ) (t : Listed) (ks : List (List ℕ)) → size ≤ length staged → TableOk t
      → t.counts.count + (one_if (is_new (keys size t.counts.count t.bytes) deleted (take 32 (take size staged)))
      + new_count (keys size t.counts.count t.bytes) deleted ks) ≤ t.counts.capacity
      → (put_unless_deleted v deleted (take size staged) t).counts.count
      + new_count (keys size (put_unless_deleted v deleted (take size staged) t).counts.count (put_unless_deleted v deleted (take size staged) t).bytes) deleted ks
      ≤ (put_unless_deleted v deleted (take size staged) t).counts.capacity
  room_next deleted staged t ks long ok room =
      let n : ℕ = t.counts.count in
      let l : List ℕ = t.bytes in
      let q : n + (one_if (is_new (keys size n l) deleted (take 32 staged)) + new_count (keys size n l) deleted ks) ≤ t.counts.capacity
      = rw (take-take 32 size staged (omega (arith, (sizes v).0))) at room in
      let p = put_room v n 0 staged l deleted t.counts (omega arith) (omega (arith, ok.bounds.room, mul-le-mul_right {m = n + one_if (is_new (keys size n l) deleted (take 32 staged))} {n = t.counts.capacity} size (omega arith))) ks in
      rw (put_capacity deleted (take size staged) t) (omega arith)

  -- the staged records are put in turn; the keys that are still new have free places
  puts_ok : (deleted : List (List ℕ)) (n : ℕ) (staged : List ℕ) (t : Listed) → n * size ≤ length staged → lengths_ok limit (records size n staged) ≡ true → TableOk t
      → t.counts.count + new_count (keys size t.counts.count t.bytes) deleted (keys size n staged) ≤ t.counts.capacity
      → TableOk (put_undeleted (edition_of v) deleted (records size n staged) t)
  unfolding put_undeleted records lengths_ok new_count put_unless_deleted
  puts_ok deleted zero staged t h k ok room = ok
  puts_ok deleted (suc n) staged t h k ok room =
      let w = suc-mul n size in
      let rec : List ℕ = take size staged in
      let rest : List ℕ = drop size staged in
      let fits = leb-true (stored_length rec) limit (and_left (leb (stored_length rec) limit) (lengths_ok limit (records size n rest)) k) in
      let left = and_right (leb (stored_length rec) limit) (lengths_ok limit (records size n rest)) k in
      let now : t.counts.count + one_if (is_new (keys size t.counts.count t.bytes) deleted (take 32 rec)) ≤ t.counts.capacity = omega arith in
      puts_ok deleted n rest (put_unless_deleted v deleted rec t) (simp length-drop (omega (arith, w))) left
      (put_ok deleted rec t (simp length-take (omega (arith, w))) fits ok now)
      (room_next deleted staged t (keys size n rest) (omega (arith, w)) ok room)

  -- ---- removals

  removes_ok : (ks : List (List ℕ)) (t : Listed) → TableOk t → TableOk (remove_keys (edition_of v) ks t)
  unfolding remove_keys remove_key
  removes_ok [] t ok = ok
  removes_ok (k ∷ ks) t ok = removes_ok ks (remove_key (edition_of v) k t) (without_ok size limit k t.counts t.bytes ok)

  -- ---- an accepted flush

  -- where the answer gives counts, they pass with the lists at exit
  abbrev pub FlushKept : Flushing → Type 0
  FlushKept o = (t c d : ListCounts) → o.answer ≡ Ok (t, c, d) → lists_ok (edition_of v) (lists c o.staged t o.table d o.deleted) ≡ true

  kept_refused : (code : ℕ) (table staged deleted : List ℕ) → FlushKept (flushing (Err code) table staged deleted)
  kept_refused code table staged deleted t c d e = let z : ◌≡◌ {A = ℕ} 0 1 = cc in absurd (omega arith)

  kept_done : (t c d : ListCounts) (table staged deleted : List ℕ) → ListsFit (edition_of v) (lists c staged t table d deleted)
      → FlushKept (flushing (Ok (t, c, d)) table staged deleted)
  kept_done t c d table staged deleted ok t' c' d' e =
      let q = triple_same e in
      rw (← q.0, ← q.1, ← q.2) (fit_lists (edition_of v) (lists c staged t table d deleted) ok)

  module _ (b : Lists) (ok : ListsFit (edition_of v) b) where
    table_ok : new_keys (edition_of v) b ≤ b.table_counts.capacity - b.table_counts.count → TableOk (table_after (edition_of v) b)
    unfolding table_after
    table_ok h =
        removes_ok (deleted_keys (edition_of v) b) _
        (puts_ok (deleted_keys (edition_of v) b) b.staged_counts.count b.staged (listed b.table_counts b.table) ok.in_staged.bounds.within
        ok.in_staged.lengths ok.in_table (omega (arith, ok.in_table.bounds.counted)))

    flushed_kept : new_keys (edition_of v) b ≤ b.table_counts.capacity - b.table_counts.count → FlushKept (flushed (edition_of v) b)
    unfolding flushed
    flushed_kept h =
        kept_done (table_after (edition_of v) b).counts (with_count 0 b.staged_counts) (with_count 0 b.deleted_counts) (table_after (edition_of v) b).bytes
        (clear_records size b.staged_counts.capacity b.staged) (clear_records 32 b.deleted_counts.capacity b.deleted)
        (record {
          in_staged = records_ok_after_clear size limit b.staged_counts b.staged ok.in_staged.bounds.room;
          in_table = table_ok h;
          in_deleted = keys_ok_after_clear b.deleted_counts b.deleted ok.in_deleted.bounds.room;
        })

    core_kept : FlushKept (flush_core (edition_of v) b)
    unfolding flush_core
    core_kept = by_test (leb (new_keys (edition_of v) b) (b.table_counts.capacity - b.table_counts.count)) refl
      where
        by_test : (a : Bool) → leb (new_keys (edition_of v) b) (b.table_counts.capacity - b.table_counts.count) ≡ a
            → FlushKept (cond a (flushed (edition_of v) b) (flushing (Err 22) b.table b.staged b.deleted))
        by_test true e = flushed_kept (leb-true _ _ e)
        by_test false e = kept_refused 22 b.table b.staged b.deleted

  -- an accepted flush keeps what 25 tests
  pub flush_keeps : (b : Lists) → lists_ok (edition_of v) b ≡ true → (t c d : ListCounts) → (flush_core (edition_of v) b).answer ≡ Ok (t, c, d)
      → lists_ok (edition_of v) (lists c (flush_core (edition_of v) b).staged t (flush_core (edition_of v) b).table d (flush_core (edition_of v) b).deleted) ≡ true
  flush_keeps b e = core_kept b (lists_fit (edition_of v) b e)
