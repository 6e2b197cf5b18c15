-- Laws of the flush: the count of the new keys, and its ways out.
use Prim.Native.Nat.{ℕ, ◌+◌, ◌*◌, ◌-◌, ◌≤◌}
use mathlib.Core.Path.{◌≡◌, sym, ap, ◌∙◌}
use mathlib.Core.Bool.{Bool, true, false}
use mathlib.Core.List.{List, [], ◌∷◌}
use native.Mathlib.Omega.{arith}
use lib.Dec.{leb}
use lib.ListN.{length}
use borrow.Author.Tests.{le-leb, leb-true}
use Rattle.records.specs.Records.{records, keys}
use Rattle.records.specs.Changes.{with_count, clear_records}
use Rattle.records.proofs.TurnLaws.{keys_past, length_keys}
use Rattle.std.specs.Prelude.{Ok, Err}
use Rattle.index_types.specs.declared.RowEdition.{RowEdition}
use Rattle.buffer_core.specs.Edition.{edition_of, record_size}
use Rattle.buffer_core.specs.Pop.{Lists}
use Rattle.buffer_core.specs.Flush.{new_count, new_keys, listed, put_undeleted, remove_keys, deleted_keys, table_after, Flushing, flushing, flushed, flush_core}
use Rattle.entries.specs.Tally.{one_if}
use Rattle.flush_table.specs.Internal.{is_new}
use Rattle.flush_table.proofs.TableLaws.{fewer}
use Rattle.flush_core.specs.Internal.{FlushReady}

pub one_most : (b : Bool) → one_if b ≤ 1
one_most true = omega arith
one_most false = omega arith

pub new_most : (table deleted : List (List ℕ)) (k : List ℕ) (r : ℕ) → r ≡ one_if (is_new table deleted k) → r ≤ 1
new_most table deleted k r e = rw e (one_most (is_new table deleted k))

-- no more keys are new than there are
new_few : (table deleted ks : List (List ℕ)) → new_count table deleted ks ≤ length ks
unfolding new_count
new_few table deleted [] = omega arith
new_few table deleted (k ∷ ks) = omega (arith, new_few table deleted ks, one_most (is_new table deleted k))

module _ (v : RowEdition) where
  abbrev size : ℕ
  size = record_size v

  pub new_past : (table deleted : List (List ℕ)) (n i : ℕ) (l : List ℕ) → n ≤ i → new_count table deleted (keys size (n - i) l) ≡ 0
  unfolding new_count
  new_past table deleted n i l h = ap (new_count table deleted) (keys_past size n i l h)

  pub new_fits : (table deleted : List (List ℕ)) (n free : ℕ) (l : List ℕ) → n ≤ free → true ≡ leb (new_count table deleted (keys size n l)) free
  new_fits table deleted n free l h =
      sym (le-leb (new_count table deleted (keys size n l)) free (omega (arith, new_few table deleted (keys size n l), length_keys size n l)))

  -- ---- the ways out

  module _ (b : Lists) where
    module _ (r : Bool) (e : r ≡ leb (new_keys (edition_of v) b) (b.table_counts.capacity - b.table_counts.count)) where
      -- once 22 has passed, all new keys have room
      pub room_of : FlushReady v b → r ≡ true → (b.table_counts.count + new_keys (edition_of v) b) * size ≤ length b.table
      room_of f t =
          let k = leb-true (new_keys (edition_of v) b) (b.table_counts.capacity - b.table_counts.count) (sym e ∙ t) in
          fewer v (b.table_counts.count + new_keys (edition_of v) b) 0 b.table_counts.capacity _ (omega (arith, f.in_table.counted)) f.in_table.room

      pub flush_22 : r ≡ false → flushing (Err 22) b.table b.staged b.deleted ≡ flush_core (edition_of v) b
      unfolding flush_core
      flush_22 t = rw (← e, t)

      pub flush_goes : r ≡ true → (o : Flushing) → o ≡ flushed (edition_of v) b → o ≡ flush_core (edition_of v) b
      unfolding flush_core
      flush_goes t o d = rw (← e, t) d

    pub flush_is : (n : ℕ) (table staged deleted : List ℕ)
        → listed (with_count n b.table_counts) table ≡ remove_keys (edition_of v) (deleted_keys (edition_of v) b)
        (put_undeleted (edition_of v) (deleted_keys (edition_of v) b) (records size b.staged_counts.count b.staged) (listed b.table_counts b.table))
        → staged ≡ clear_records size b.staged_counts.capacity b.staged → deleted ≡ clear_records 32 b.deleted_counts.capacity b.deleted
        → flushing (Ok (with_count n b.table_counts, with_count 0 b.staged_counts, with_count 0 b.deleted_counts)) table staged deleted ≡ flushed (edition_of v) b
    unfolding flushed table_after
    flush_is n table staged deleted e f g = rw (← e, f, g)
