-- n counts the new keys before record i, and the rest are still to count.
use Prim.Native.Nat.{◌+◌, ◌*◌, ◌-◌, ◌≤◌}
use mathlib.Core.Path.{◌≡◌}
use lib.ListN.{drop}
use Rattle.records.specs.Records.{keys}
use Rattle.buffer_core.specs.Edition.{record_size}
use Rattle.buffer_core.specs.Flush.{new_count}
use Rattle.flush_core.proofs.count_new.Given as goal

abbrev pub invariant-loop-i : goal.invariant-loop-i
invariant-loop-i l =
    let size = record_size l.edition in
    let there = keys size l.table_count l.table in
    let gone = keys 32 l.deleted_count l.deleted in
    (l.n ≤ l.i)
    × (new_count there gone (keys size l.staged_count l.staged)
    ≡ l.n + new_count there gone (keys size (l.staged_count - l.i) (drop (l.i * size) l.staged)))
