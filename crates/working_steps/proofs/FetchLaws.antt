-- A row that is fetched, or all that are dropped, leave a working set beside its table.
use Prim.Native.Nat.{ℕ}
use mathlib.Core.Path.{◌≡◌}
use mathlib.Core.Bool.{true}
use mathlib.Core.List.{List}
use Rattle.records.specs.Checks.{records_ok}
use Rattle.records.proofs.CheckLaws.{and_left, and_right, and_true}
use Rattle.index_types.specs.declared.ListCounts.{ListCounts}
use Rattle.index_types.specs.declared.RowEdition.TheVariants.{One}
use Rattle.buffer_core.specs.Edition.{edition_1}
use Rattle.buffer_core.specs.Append.{counts_with, bytes_with}
use Rattle.buffer_core.specs.Pop.{lists_ok}
use Rattle.call_steps.specs.State.{State}
use Rattle.working_set.specs.Part.{Part}
use Rattle.working_set.proofs.WorkingSets.{working_sets}
use Rattle.working_steps.specs.Beside.{with_table, Beside}
use Rattle.working_steps.specs.Laws.{FetchLaw, DropLaw}
use Rattle.working_steps.proofs.StepLaws.{table_passed}

-- the lists pass 25 with another table that does
lists_pass : (s : State) (c : ListCounts) (l : List ℕ) → lists_ok edition_1 s.lists ≡ true → records_ok 10288 10254 c l ≡ true → lists_ok edition_1 (with_table c l s).lists ≡ true
unfolding lists_ok
lists_pass s c l e k =
    let b = s.lists in
    let rest = and_right (records_ok 10288 10254 b.staged_counts b.staged) _ e in
    and_true _ _ (and_left (records_ok 10288 10254 b.staged_counts b.staged) _ e)
    (and_true _ _ k (and_right (records_ok 10288 10254 b.table_counts b.table) _ rest))

-- other rows that are a part of the table
other_rows : (parents : ℕ) (w t : State) (c : ListCounts) (l : List ℕ) → Beside parents w t → records_ok 10288 10254 c l ≡ true
    → Part edition_1 c l t.lists.table_counts t.lists.table → Beside parents (with_table c l w) t
other_rows parents w t c l b k p =
    record {
      work_ready = record { blocks = b.work_ready.blocks; few = b.work_ready.few; listed = lists_pass w c l b.work_ready.listed k };
      table_ready = b.table_ready;
      same = b.same;
      part = p;
    }

pub fetch_law : FetchLaw
fetch_law parents w t key row b h g e f =
    let wc = w.lists.table_counts in
    let work = w.lists.table in
    let x = ((working_sets One).fetches wc work t.lists.table_counts t.lists.table key row
    (record { work_ok = table_passed w.lists b.work_ready.listed; table_ok = table_passed t.lists b.table_ready.listed; part = b.part }) h g e f).0 in
    other_rows parents w t (counts_with edition_1 key wc work) (bytes_with edition_1 key row wc work) b x.work_ok x.part

pub drop_law : DropLaw
drop_law parents w t cap work b k =
    other_rows parents w t (record { count = 0; capacity = cap }) work b k ((working_sets One).empty_sets cap work t.lists.table_counts t.lists.table)
