-- A flush of the bytes is a flush of the tables, and keeps what holds between calls.
use Rattle.ledger.proofs.TestLaws.{ite_yes, ite_no}
use mathlib.Core.Path.{◌≡◌, refl, sym, ◌∙◌, ap}
use mathlib.Core.List.{List, [], ◌∷◌, ◌++◌, map}
use mathlib.Core.Bool.{Bool, true, false, not, ◌&&◌, cond}
use Prim.Native.Nat.{ℕ, zero, suc, ◌+◌, ◌*◌, ◌-◌, ◌≤◌, ◌<◌}
use native.Mathlib.Omega.{arith}
use native.Mathlib.Decide.{dec_lt}
use lib.ListN.{length, get_or, take, length-take}
use lib.Seq.{length-take-le}
use lib.Dec.{leb}
use lib.IntN.{ℤ, nat_abs}
use borrow.Author.Tests.{leb-true, leb-false, lt-leb}
use Rattle.std.specs.Prelude.{Option, Some, None, Err}
use Rattle.index_types.specs.declared.ListCounts.{ListCounts}
use Rattle.records.specs.Records.{records, keys, key_of, stored_row, stored_length, record_of}
use Rattle.records.specs.Find.{find_key, is_found}
use Rattle.records.specs.Changes.{count_after, with_count, put_record, full_for, clear_records}
use Rattle.records.specs.Checks.{RecordsOk, lengths_ok}
use Rattle.records.proofs.Views.{put_at}
use Rattle.stores.specs.Equal.{same_bytes}
use Rattle.stores.proofs.EqualLaws.{same_true}
use Rattle.records.proofs.KeyLaws.{differ, find_put_same, find_put_other}
use Rattle.records.proofs.TurnLaws.{length_records}
use Rattle.records.proofs.RecordLaws.{record_sized, row_room, record_length, record_key}
use Rattle.records.proofs.PutLaws.{keys_after_put, slot_room}
use Rattle.records.proofs.CheckLaws.{and_right, records_ok_after_put, records_ok_after_clear, keys_ok_after_clear, lengths_at}
use Rattle.buffer_core.specs.Edition.{Edition}
use Rattle.buffer_core.specs.Pop.{Lists, lists, lists_ok, count_without, bytes_without}
use Rattle.buffer_core.specs.Flush.{Flushing, flushing, new_count, Listed, listed, found_in, put_staged, put_undeleted, remove_key, remove_keys, deleted_keys, table_after, flushed, new_keys, flush_core, flush_of}
use Rattle.entries.specs.Tally.{one_if}
use Rattle.buffer_core.proofs.ListLaws.{ListsFit, lists_fit, fit_lists}
use Rattle.ledger.specs.Ledger.{Parent, Series, ite}
use Rattle.ledger.specs.Run.{Res, done, refused}
use Rattle.fork_model.proofs.Store as St
use Rattle.fork_model.proofs.Search.{done≢refused}
use Rattle.fork_model.proofs.Results.{map_res, result_of}
use Rattle.history.specs.Index.{Index, index, after_flush, do_flush}
use Rattle.history.proofs.Tables.{Bytes, Table, tab, put, remove, in_dec, ite_in, write_all, remove_all, fresh, fresh_is}
use Rattle.history.proofs.State as S
use Rattle.history.specs.EditionLaws.{EditionLaws}
use Rattle.history.proofs.State.{Capacities}
use Rattle.history.proofs.Lists.{put_table, remove_table, remove_keeps, capacity_without, length_table}

-- a record as a list that passes 25 holds it
pub record Stored (E : Edition) (r : List ℕ) : Type 0 where
  pub sized : length r ≡ E.size
  pub fits : length (stored_row r) ≤ E.limit

abbrev pub AllStored : Edition → List (List ℕ) → Type 0
AllStored E [] = Unit {0}
AllStored E (r ∷ rs) = Stored E r × AllStored E rs

row_short : (limit : ℕ) (r : List ℕ) → stored_length r ≤ limit → length (stored_row r) ≤ limit
unfolding stored_row
row_short limit r h = simp length-take (omega arith)

pub all_stored : (E : Edition) (rs : List (List ℕ)) → ((i : ℕ) → i < length rs → length (get_or rs i []) ≡ E.size) → lengths_ok E.limit rs ≡ true → AllStored E rs
unfolding lengths_ok
all_stored E [] h k = tt
all_stored E (r ∷ rs) h k = (
  record { sized = h 0 (omega arith); fits = row_short E.limit r (lengths_at E.limit (r ∷ rs) 0 (omega arith) k) },
  all_stored E rs (λ i j. h (suc i) (omega arith)) (and_right (leb (stored_length r) E.limit) (lengths_ok E.limit rs) k),
)

-- ---- one key more makes no key new
found_more : (key k : Bytes) (ks : List Bytes) → is_found (find_key k ks) ≡ true → is_found (find_key k (put_at (find_key key ks) key ks)) ≡ true
found_more key k ks h = by_test (same_bytes key k) refl
  where
    by_test : (t : Bool) → same_bytes key k ≡ t → is_found (find_key k (put_at (find_key key ks) key ks)) ≡ true
    by_test true e = let q = same_true key k e in rw (← q) (ap is_found (find_put_same key ks))
    by_test false e = rw (find_put_other key k ks (differ key k e)) h

new_one_less : (a b c : Bool) → (b ≡ true → c ≡ true) → one_if (a && not c) ≤ one_if (a && not b)
new_one_less true true true h = omega arith
new_one_less true true false h = let z : ◌≡◌ {A = Bool} false true = h refl in let w : ◌≡◌ {A = ℕ} 0 1 = cc in absurd (omega arith)
new_one_less true false true h = omega arith
new_one_less true false false h = omega arith
new_one_less false b c h = omega arith

new_less : (key : Bytes) (ks dels rest : List Bytes) → new_count (put_at (find_key key ks) key ks) dels rest ≤ new_count ks dels rest
unfolding new_count
new_less key ks dels [] = omega arith
new_less key ks dels (k ∷ rest) =
    omega (
      arith,
      new_less key ks dels rest,
      new_one_less (not (is_found (find_key k dels))) (is_found (find_key k ks)) (is_found (find_key k (put_at (find_key key ks) key ks))) (found_more key k ks),
    )

count_is : (f : Option ℕ) (n : ℕ) → count_after f n ≡ n + one_if (not (is_found f))
count_is (Some i) n = omega arith
count_is None n = refl

-- a key that is not deleted, with room for it if it is new
not_full : (size : ℕ) (c : ListCounts) (key l : List ℕ) → c.count ≤ c.capacity → c.count + one_if (not (is_found (find_key key (keys size c.count l)))) ≤ c.capacity → full_for size c key l ≡ false
unfolding full_for
not_full size c key l b h = by_case (find_key key (keys size c.count l)) h
  where
    by_case : (g : Option ℕ) → c.count + one_if (not (is_found g)) ≤ c.capacity → not (is_found g) && leb c.capacity c.count ≡ false
    by_case (Some i) h = refl
    by_case None h = lt-leb c.capacity c.count (omega arith)

module _ (E : Edition) (ids : Parent → List ℕ) (L : EditionLaws E ids) (dels : List (List ℕ)) where
  abbrev tabled : Listed → Table
  tabled t = tab (records E.size t.counts.count t.bytes)

  abbrev Ok : Listed → Type 0
  Ok t = RecordsOk E.size E.limit t.counts t.bytes

  abbrev keys_in : Listed → List Bytes
  keys_in t = keys E.size t.counts.count t.bytes

  -- what putting a staged record does
  pub record PutDoes (r : List ℕ) (t u : Listed) : Type 0 where
    pub same : tabled u ≡ put (tabled t) (key_of r) (stored_row r)
    pub keeps : Ok u
    pub cap : u.counts.capacity ≡ t.counts.capacity
    pub room : (rest : List Bytes) → u.counts.count + new_count (keys_in u) dels rest ≤ t.counts.count + one_if (not (is_found (find_key (key_of r) (keys_in t)))) + new_count (keys_in t) dels rest

  put_does : (r : List ℕ) (t : Listed) → Stored E r → Ok t → t.counts.count + one_if (not (is_found (find_key (key_of r) (keys_in t)))) ≤ t.counts.capacity → PutDoes r t (put_staged E r t)
  unfolding put_staged
  put_does r t s ok h =
      let w : 34 + length (stored_row r) ≤ E.size = omega (arith, s.fits, L.wide) in
      let k : length (key_of r) ≡ 32 = length-take-le 32 r (omega (arith, s.sized, L.wide)) in
      let small : length (stored_row r) < 65536 = omega (arith, L.short) in
      let f = not_full E.size t.counts (key_of r) t.bytes ok.bounds.counted h in
      let ks = keys_after_put E.size t.counts.count (key_of r) (record_of E.size (key_of r) (stored_row r)) t.bytes
      (record_length E.size (key_of r) (stored_row r) k w) (record_key E.size (key_of r) (stored_row r) k) ok.bounds.within (slot_room E.size t.counts (key_of r) t.bytes ok.bounds f) in
      record {
        same = put_table E.size E.limit t.counts (key_of r) (stored_row r) t.bytes k w small f ok;
        keeps = records_ok_after_put E.size E.limit t.counts (key_of r) (stored_row r) t.bytes k w s.fits small f ok;
        cap = refl;
        room = λ rest. rw ks (omega (arith, new_less (key_of r) (keys_in t) dels rest, count_is (find_key (key_of r) (keys_in t)) t.counts.count));
      }

  -- ---- all staged records that are not deleted
  pub record AllDoes (rs : List (List ℕ)) (t u : Listed) : Type 0 where
    pub same : tabled u ≡ write_all (tab rs) dels (tabled t)
    pub keeps : Ok u
    pub cap : u.counts.capacity ≡ t.counts.capacity

  pub put_all_does : (rs : List (List ℕ)) (t : Listed) → AllStored E rs → Ok t → t.counts.count + new_count (keys_in t) dels (map key_of rs) ≤ t.counts.capacity
      → AllDoes rs t (put_undeleted E dels rs t)
  unfolding put_undeleted new_count
  put_all_does [] t s ok h = record { same = refl; keeps = ok; cap = refl }
  put_all_does (r ∷ rs) t s ok h =
      by_test (is_found (find_key (key_of r) dels)) refl (λ u. put_all_does rs u s.1)
    where
      by_test : (d : Bool) → is_found (find_key (key_of r) dels) ≡ d
          → ((u : Listed) → Ok u → u.counts.count + new_count (keys_in u) dels (map key_of rs) ≤ u.counts.capacity → AllDoes rs u (put_undeleted E dels rs u))
          → AllDoes (r ∷ rs) t (put_undeleted E dels rs (cond d t (put_staged E r t)))
      by_test true d ih =
          let a = ih t ok (omega (arith, rw d at h)) in
          record { same = a.same ∙ ap (write_all (tab rs) dels) (sym (ite_in (key_of r) dels (in_dec (key_of r) dels) (tabled t) (put (tabled t) (key_of r) (stored_row r)) ∙ rw d)); keeps = a.keeps; cap = a.cap }
      by_test false d ih =
          let h' = rw d at h in
          let p = put_does r t s.0 ok (omega arith) in
          let a = ih (put_staged E r t) p.keeps (omega (arith, p.room (map key_of rs), p.cap)) in
          record {
            same = a.same ∙ ap (write_all (tab rs) dels) (p.same ∙ sym (ite_in (key_of r) dels (in_dec (key_of r) dels) (tabled t) (put (tabled t) (key_of r) (stored_row r)) ∙ rw d));
            keeps = a.keeps;
            cap = a.cap ∙ p.cap;
          }

  -- ---- all deleted keys
  pub record GoneDoes (ks : List Bytes) (t u : Listed) : Type 0 where
    pub same : tabled u ≡ remove_all ks (tabled t)
    pub keeps : Ok u
    pub cap : u.counts.capacity ≡ t.counts.capacity

  pub remove_all_does : (ks : List Bytes) (t : Listed) → Ok t → GoneDoes ks t (remove_keys E ks t)
  unfolding remove_keys remove_key
  remove_all_does [] t ok = record { same = refl; keeps = ok; cap = refl }
  remove_all_does (k ∷ ks) t ok =
      let f : (Option ℕ) = found_in E k t in
      let u : Listed = listed (count_without f t.counts) (bytes_without E.size f t.counts t.bytes) in
      let a = remove_all_does ks u (remove_keeps E.size E.limit t.counts k t.bytes ok) in
      record {
        same = a.same ∙ ap (remove_all ks) (remove_table E.size E.limit t.counts k t.bytes ok);
        keeps = a.keeps;
        cap = a.cap ∙ capacity_without f t.counts;
      }

-- ---- the table after a flush of lists that pass 25
module _ (E : Edition) (ids : Parent → List ℕ) (L : EditionLaws E ids) (x : Lists) (lf : ListsFit E x) where
  abbrev rs : List (List ℕ)
  rs = records E.size x.staged_counts.count x.staged

  -- room for the keys that are new
  abbrev pub Room : Type 0
  Room = new_keys E x ≤ x.table_counts.capacity - x.table_counts.count

  stored : AllStored E rs
  stored = all_stored E rs (λ i h. record_sized E.size x.staged_counts.count i x.staged lf.in_staged.bounds.within (omega (arith, length_records E.size x.staged_counts.count x.staged)))
      lf.in_staged.lengths

  puts : Room → AllDoes E ids L (deleted_keys E x) rs (listed x.table_counts x.table) (put_undeleted E (deleted_keys E x) rs (listed x.table_counts x.table))
  puts h = put_all_does E ids L (deleted_keys E x) rs (listed x.table_counts x.table) stored lf.in_table (omega (arith, lf.in_table.bounds.counted))

  gone : Room → GoneDoes E ids L (deleted_keys E x) (deleted_keys E x) (put_undeleted E (deleted_keys E x) rs (listed x.table_counts x.table)) (table_after E x)
  unfolding table_after
  gone h = remove_all_does E ids L (deleted_keys E x) (deleted_keys E x) (put_undeleted E (deleted_keys E x) rs (listed x.table_counts x.table)) (puts h).keeps

  pub table_same : Room → tab (records E.size (table_after E x).counts.count (table_after E x).bytes)
      ≡ remove_all (deleted_keys E x) (write_all (tab rs) (deleted_keys E x) (tab (records E.size x.table_counts.count x.table)))
  table_same h = (gone h).same ∙ ap (remove_all (deleted_keys E x)) (puts h).same

  pub table_fits : Room → RecordsOk E.size E.limit (table_after E x).counts (table_after E x).bytes
  table_fits h = (gone h).keeps

  pub table_capacity : Room → (table_after E x).counts.capacity ≡ x.table_counts.capacity
  table_capacity h = (gone h).cap ∙ (puts h).cap

-- ---- the flush
module _ (E : Edition) (ids : Parent → List ℕ) (L : EditionLaws E ids) (caps : Capacities) where
  abbrev W : St.Env
  W = S.env E ids caps

  abbrev abs : Index → St.Store W
  abs b = S.abs E ids caps b

  module _ (b : Index) (I : S.Inv E ids caps b) where
    abbrev x : Lists
    x = b.lists

    abbrev new : ℕ
    new = new_keys E x

    abbrev end : Flushing → Res Index
    end o = result_of (after_flush b o.answer o.table o.staged o.deleted)

    abbrev refuse : Flushing
    refuse = flushing (Err 22) x.table x.staged x.deleted

    lf : ListsFit E x
    lf = lists_fit E x I.lists_in

    fresh_same : length (abs b).table + fresh (abs b).staging (abs b).deletion (abs b).table ≡ x.table_counts.count + new
    fresh_same = rw (
      length_table E.size x.table_counts.count x.table,
      fresh_is (records E.size x.staged_counts.count x.staged) (deleted_keys E x) (records E.size x.table_counts.count x.table),
    )

    done_same : new ≤ x.table_counts.capacity - x.table_counts.count → map_res abs (end (flushed E x)) ≡ done (St.flushed W (abs b))
    unfolding flushed records
    done_same h =
        let e = table_same E ids L x lf h in
        ap (λ (t : Table). done (record { heads = (abs b).heads; counts = (abs b).counts; staging = []; table = t; deletion = [] })) e

    by_room : (t : Bool) → leb new (x.table_counts.capacity - x.table_counts.count) ≡ t → map_res abs (end (cond t (flushed E x) refuse)) ≡ St.flush_store W (abs b)
    by_room true e =
        let h = leb-true new (x.table_counts.capacity - x.table_counts.count) e in
        done_same h ∙ sym (ite_no (dec_lt caps.table (length (abs b).table + fresh (abs b).staging (abs b).deletion (abs b).table)) (refused 22) (done (St.flushed W (abs b)))
        (λ g. omega (arith, fresh_same, I.table_at, lf.in_table.bounds.counted)))
    by_room false e =
        let h = leb-false new (x.table_counts.capacity - x.table_counts.count) e in
        sym (ite_yes (dec_lt caps.table (length (abs b).table + fresh (abs b).staging (abs b).deletion (abs b).table)) (refused 22) (done (St.flushed W (abs b)))
        (omega (arith, fresh_same, I.table_at, lf.in_table.bounds.counted)))

    pub flush_same : map_res abs (result_of (do_flush E ids b)) ≡ St.flush_store W (abs b)
    unfolding flush_of flush_core
    flush_same = rw I.lists_in (by_room (leb new (x.table_counts.capacity - x.table_counts.count)) refl)

    keeps_done : (d : Index) → new ≤ x.table_counts.capacity - x.table_counts.count → end (flushed E x) ≡ done d → S.Inv E ids caps d
    unfolding flushed
    keeps_done d h e =
        let t : Listed = table_after E x in
        let y : Lists = lists (with_count 0 x.staged_counts) (clear_records E.size x.staged_counts.capacity x.staged) t.counts t.bytes
        (with_count 0 x.deleted_counts) (clear_records 32 x.deleted_counts.capacity x.deleted) in
        let z : Index = index b.parts y in
        let q : z ≡ d = cc in
        rw (← q) (record {
          heads_in = I.heads_in;
          not_below = I.not_below;
          spills_in = I.spills_in;
          lists_in = fit_lists E y (record {
            in_staged = records_ok_after_clear E.size E.limit x.staged_counts x.staged lf.in_staged.bounds.room;
            in_table = table_fits E ids L x lf h;
            in_deleted = keys_ok_after_clear x.deleted_counts x.deleted lf.in_deleted.bounds.room;
          });
          table_at = table_capacity E ids L x lf h ∙ I.table_at;
          staged_at = I.staged_at;
          deleted_at = I.deleted_at;
        })

    by_keeps : (t : Bool) → leb new (x.table_counts.capacity - x.table_counts.count) ≡ t → (d : Index) → end (cond t (flushed E x) refuse) ≡ done d → S.Inv E ids caps d
    by_keeps true e d q = keeps_done d (leb-true new (x.table_counts.capacity - x.table_counts.count) e) q
    by_keeps false e d q = absurd (done≢refused (sym q))

    pub flush_inv : (d : Index) → result_of (do_flush E ids b) ≡ done d → S.Inv E ids caps d
    unfolding flush_of flush_core
    flush_inv d e = by_keeps (leb new (x.table_counts.capacity - x.table_counts.count)) refl d (rw I.lists_in at e)
