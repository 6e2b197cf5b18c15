-- The first i staged records are put; those left, and the keys that are still new, fit the table.
use Prim.Native.Nat.{◌+◌, ◌*◌, ◌-◌, ◌≤◌}
use mathlib.Core.Path.{◌≡◌}
use mathlib.Core.Bool.{true}
use lib.ListN.{drop}
use Rattle.records.specs.Records.{keys, records}
use Rattle.records.specs.Find.{distinct}
use Rattle.records.specs.Changes.{with_count}
use Rattle.buffer_core.specs.Edition.{edition_of, record_size}
use Rattle.buffer_core.specs.Flush.{new_count, listed, put_undeleted}
use Rattle.flush_table.proofs.put_undeleted.Given as goal

abbrev pub invariant-loop-i : goal.invariant-loop-i
invariant-loop-i l =
    let size = record_size l.edition in
    let gone = keys 32 l.deleted_count l.deleted in
    let first = l.initial.table in
    (l.n + new_count (keys size l.n l.table) gone (keys size (l.staged_count - l.i) (drop (l.i * size) l.staged))
    ≤ l.counts.count + new_count (keys size l.counts.count first) gone (keys size l.staged_count l.staged))
    × (put_undeleted (edition_of l.edition) gone (records size l.staged_count l.staged) (listed l.counts first)
    ≡ put_undeleted (edition_of l.edition) gone (records size (l.staged_count - l.i) (drop (l.i * size) l.staged)) (listed (with_count l.n l.counts) l.table))
    × (distinct (keys size l.n l.table) ≡ true)
