-- Whether the new keys have room decides between refusal 22 and the flush.
use Rattle.buffer_core.specs.Pop.{lists}
use Rattle.flush_core.proofs.FlushLaws.{flush_22, flush_goes}
use Rattle.flush_core.proofs.flush.Goals as goal

pub returns-then-has_room : goal.returns-then-has_room
returns-then-has_room c =
    let a = c.args in
    flush_goes a.edition (lists a.staged_counts a.staged.now a.table_counts a.table.now a.deleted_counts a.deleted.now) _ c.has_room.ensures c.if-has_room.true _ c.flush_lists.ensures

pub returns : goal.returns
returns c =
    let a = c.args in
    flush_22 a.edition (lists a.staged_counts a.staged.now a.table_counts a.table.now a.deleted_counts a.deleted.now) _ c.has_room.ensures c.if-has_room.false
