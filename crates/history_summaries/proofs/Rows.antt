-- The rows of all spills, as inspection shows them, after a row was staged, after one left the staged spills, and after a flush: whatever the heads hold.
use mathlib.Core.Path.{◌≡◌, refl, sym, ◌∙◌, ap}
use mathlib.Core.Logic.{inl, inr}
use mathlib.Core.List.{List, [], ◌∷◌, map}
use mathlib.Core.Bool.{Bool, true, false, not}
use Prim.Native.Nat.{ℕ, ◌≤◌}
use native.Mathlib.Omega.{arith}
use lib.IntN.{ℤ, pos}
use lib.ListN.{length}
use Rattle.index_types.specs.declared.ListCounts.{ListCounts}
use Rattle.records.specs.Records.{records, key_of}
use Rattle.records.specs.Find.{find_key, is_found, distinct}
use Rattle.records.specs.Changes.{with_count, clear_records, full_for}
use Rattle.records.specs.Checks.{RecordsOk}
use Rattle.records.proofs.CheckLaws.{and_left, and_right}
use Rattle.records.proofs.KeyLaws.{clash}
use Rattle.buffer_core.specs.Edition.{Edition}
use Rattle.buffer_core.specs.Append.{counts_with, bytes_with}
use Rattle.buffer_core.specs.Pop.{Lists, lists, staged_at, count_without, bytes_without}
use Rattle.buffer_core.specs.Flush.{deleted_keys, table_after}
use Rattle.buffer_core.proofs.ListLaws.{ListsFit}
use Rattle.ledger.specs.Ledger.{Parent, Series, id_dec}
use Rattle.ledger.specs.Run.{Res, done}
use Rattle.fork_model.proofs.Store as St
use Rattle.fork_model.proofs.Search.{done≢refused}
use Rattle.fork_model.proofs.Table as Tb
use Rattle.fork_model.proofs.Table.{or_else}
use Rattle.history.specs.Index.{Part, index, kind_of, id_of, with_staged, to_res, row_of_spill}
use Rattle.history.proofs.Tables.{Bytes, Table, tab, put, lookup, In, in_dec, in_found, write_all, remove_all}
use Rattle.history.specs.EditionLaws.{EditionLaws}
use Rattle.history.proofs.State as S
use Rattle.history.proofs.State.{Capacities}
use Rattle.history.proofs.Lists.{put_table, remove_table}
use Rattle.history.proofs.PopSim.{read_same}
use Rattle.history.proofs.FlushSim as Fu

-- ---- a list in which no key stands twice, as a table
lacking : (k : Bytes) (rs : List Bytes) → is_found (find_key k (map key_of rs)) ≡ false → Tb.Absent Bytes Bytes id_dec k (tab rs)
lacking k rs e = by_in rs (λ h. clash (in_found k (map key_of rs) h) e)
  where
    by_in : (ys : List Bytes) → (In k (map key_of ys) → ⊥) → Tb.Absent Bytes Bytes id_dec k (tab ys)
    by_in [] n = tt
    by_in (y ∷ ys) n = (λ q. n (inl q), by_in ys (λ h. n (inr h)))

distinct_table : (rs : List Bytes) → distinct (map key_of rs) ≡ true → Tb.Distinct Bytes Bytes id_dec (tab rs)
unfolding distinct
distinct_table [] e = tt
distinct_table (r ∷ rs) e = (
  lacking (key_of r) rs (by_not (is_found (find_key (key_of r) (map key_of rs))) (and_left (not (is_found (find_key (key_of r) (map key_of rs)))) (distinct (map key_of rs)) e)),
  distinct_table rs (and_right (not (is_found (find_key (key_of r) (map key_of rs)))) (distinct (map key_of rs)) e),
)
  where
    by_not : (x : Bool) → not x ≡ true → x ≡ false
    by_not true q = sym q
    by_not false q = refl

module _ (E : Edition) (ids : Parent → List ℕ) (L : EditionLaws E ids) (x : Lists) where
  -- the capacities do not matter here
  abbrev caps : Capacities
  caps = record { table = 0; staged = 0; deleted = 0 }

  abbrev W : St.Env
  W = S.env E ids caps

  abbrev key_of_spill : Series → ℕ → List ℕ
  key_of_spill d t = E.key (kind_of d) (id_of E ids d) (pos t)

  abbrev row : (Series → Part) → Lists → Series → ℕ → Res (List ℤ)
  row f y d t = row_of_spill E ids (index f y) d t

  abbrev staged_table : Lists → Table
  staged_table y = tab (records E.size y.staged_counts.count y.staged)

  abbrev rows_table : Lists → Table
  rows_table y = tab (records E.size y.table_counts.count y.table)

  -- a row, read off the tables
  row_is : (f : Series → Part) (y : Lists) (d : Series) (t : ℕ) → row f y d t ≡ St.decoded W d t (or_else (lookup (staged_table y) (key_of_spill d t)) (lookup (rows_table y) (key_of_spill d t)))
  row_is f y d t = read_same E ids caps (index f y) d t

  -- ---- a row was put among the staged spills
  module _ (f g : Series → Part) (key bytes : List ℕ) (long : length key ≡ 32) (short : length bytes ≤ E.limit) (free : full_for E.size x.staged_counts key x.staged ≡ false)
      (ok : RecordsOk E.size E.limit x.staged_counts x.staged) where
    abbrev with_row : Lists
    with_row = with_staged (counts_with E key x.staged_counts x.staged) (bytes_with E key bytes x.staged_counts x.staged) x

    put_is : staged_table with_row ≡ put (staged_table x) key bytes
    put_is = put_table E.size E.limit x.staged_counts key bytes x.staged long (omega (arith, L.wide)) (omega (arith, L.wide, L.short)) free ok

    -- it stands under its key
    pub put_same : (d : Series) (t : ℕ) → key ≡ key_of_spill d t → row f with_row d t ≡ to_res (E.decode (kind_of d) (id_of E ids d) (pos t) bytes)
    put_same d t e =
        row_is f with_row d t
        ∙ ap (λ (y : Tb.Found Bytes). St.decoded W d t (or_else y (lookup (rows_table x) (key_of_spill d t))))
        (ap (λ (y : Table). lookup y (key_of_spill d t)) put_is ∙ ap (lookup (put (staged_table x) key bytes)) (sym e) ∙ Tb.lookup_put_same Bytes Bytes id_dec (staged_table x) key bytes)

    -- the others are as they were
    pub put_other : (d : Series) (t : ℕ) → (key ≡ key_of_spill d t → ⊥) → row f with_row d t ≡ row g x d t
    put_other d t n =
        row_is f with_row d t
        ∙ ap (λ (y : Tb.Found Bytes). St.decoded W d t (or_else y (lookup (rows_table x) (key_of_spill d t))))
        (ap (λ (y : Table). lookup y (key_of_spill d t)) put_is ∙ Tb.lookup_put_other Bytes Bytes id_dec (staged_table x) key (key_of_spill d t) bytes n)
        ∙ sym (row_is g x d t)

  -- ---- a row left the staged spills
  module _ (f g : Series → Part) (key : List ℕ) (ok : RecordsOk E.size E.limit x.staged_counts x.staged) (c : ListCounts) (deleted : List ℕ) where
    abbrev without_row : Lists
    without_row = lists (count_without (staged_at E key x) x.staged_counts) (bytes_without E.size (staged_at E key x) x.staged_counts x.staged) x.table_counts x.table c deleted

    pub remove_other : (d : Series) (t : ℕ) → (key ≡ key_of_spill d t → ⊥) → row f without_row d t ≡ row g x d t
    remove_other d t n =
        row_is f without_row d t
        ∙ ap (λ (y : Tb.Found Bytes). St.decoded W d t (or_else y (lookup (rows_table x) (key_of_spill d t))))
        (ap (λ (y : Table). lookup y (key_of_spill d t)) (remove_table E.size E.limit x.staged_counts key x.staged ok)
        ∙ Tb.lookup_remove_other Bytes Bytes id_dec (staged_table x) key (key_of_spill d t) (distinct_table (records E.size x.staged_counts.count x.staged) ok.apart) n)
        ∙ sym (row_is g x d t)

  -- ---- a flush
  module _ (f g : Series → Part) (fit : ListsFit E x) (room : Fu.Room E ids L x fit) where
    abbrev pub flushed : Lists
    flushed = lists (with_count 0 x.staged_counts) (clear_records E.size x.staged_counts.capacity x.staged) (table_after E x).counts (table_after E x).bytes
        (with_count 0 x.deleted_counts) (clear_records 32 x.deleted_counts.capacity x.deleted)

    abbrev dels : List Bytes
    dels = deleted_keys E x

    one_staged : Tb.Distinct Bytes Bytes id_dec (staged_table x)
    one_staged = distinct_table (records E.size x.staged_counts.count x.staged) fit.in_staged.apart

    one_table : Tb.Distinct Bytes Bytes id_dec (rows_table x)
    one_table = distinct_table (records E.size x.table_counts.count x.table) fit.in_table.apart

    abbrev written : Table
    written = write_all (staged_table x) dels (rows_table x)

    flushed_row : (d : Series) (t : ℕ) → row f flushed d t ≡ St.decoded W d t (lookup (remove_all dels written) (key_of_spill d t))
    unfolding records
    flushed_row d t = row_is f flushed d t ∙ ap (λ (y : Table). St.decoded W d t (lookup y (key_of_spill d t))) (Fu.table_same E ids L x fit room)

    -- a row that is there after it is as it was
    pub flush_same : (d : Series) (t : ℕ) (zs : List ℤ) → row f flushed d t ≡ done zs → row f flushed d t ≡ row g x d t
    flush_same d t zs e = by_deleted (in_dec (key_of_spill d t) dels)
      where
        one_written : Tb.Distinct Bytes Bytes id_dec written
        one_written = Tb.distinct_write Bytes Bytes id_dec (staged_table x) dels (rows_table x) one_table

        by_deleted : Dec (In (key_of_spill d t) dels) → row f flushed d t ≡ row g x d t
        by_deleted (yes h) =
            let gone = Tb.lookup_absent Bytes Bytes id_dec (remove_all dels written) (key_of_spill d t) (Tb.deleted_gone Bytes Bytes id_dec dels written (key_of_spill d t) one_written h) in
            absurd (done≢refused (sym (sym (flushed_row d t ∙ ap (St.decoded W d t) gone) ∙ e)))
        by_deleted (no n) =
            flushed_row d t
            ∙ ap (St.decoded W d t) (Tb.lookup_removeAll Bytes Bytes id_dec dels written (key_of_spill d t) one_written n ∙ Tb.lookup_write Bytes Bytes id_dec (staged_table x) dels (rows_table x) (key_of_spill d t) one_staged n)
            ∙ sym (row_is g x d t)
