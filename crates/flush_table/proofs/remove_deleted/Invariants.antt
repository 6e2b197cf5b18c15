-- The first i deleted keys are gone; those left are still to go.
use Prim.Native.Nat.{◌*◌, ◌-◌, ◌≤◌}
use mathlib.Core.Path.{◌≡◌}
use mathlib.Core.Bool.{true}
use lib.ListN.{length, drop}
use Rattle.records.specs.Records.{keys}
use Rattle.records.specs.Find.{distinct}
use Rattle.records.specs.Changes.{with_count}
use Rattle.buffer_core.specs.Edition.{edition_of, record_size}
use Rattle.buffer_core.specs.Flush.{listed, remove_keys}
use Rattle.flush_table.proofs.remove_deleted.Given as goal

abbrev pub invariant-loop-key : goal.invariant-loop-key
invariant-loop-key l =
    (l.n * record_size l.edition ≤ length l.table)
    × (remove_keys (edition_of l.edition) (keys 32 l.deleted_count l.deleted) (listed l.counts l.initial.table)
    ≡ remove_keys (edition_of l.edition) (keys 32 (l.deleted_count - l.key-index) (drop (l.key-index * 32) l.deleted)) (listed (with_count l.n l.counts) l.table))
    × (distinct (keys (record_size l.edition) l.n l.table) ≡ true)
