-- The table is as `flush_table` leaves it, and both other lists are empty.
use Rattle.buffer_core.specs.Pop.{lists}
use Rattle.flush_core.proofs.FlushLaws.{flush_is}
use Rattle.flush_core.proofs.flush_lists.Goals as goal

pub returns : goal.returns
returns c =
    let a = c.args in
    flush_is a.edition (lists a.staged_counts a.staged.now a.table_counts a.table.now a.deleted_counts a.deleted.now) _ _ _ _
    c.flush_table-left.ensures (rw c.record_size-size.ensures.0 at c.clear_list.ensures) c.clear_list-2.ensures
