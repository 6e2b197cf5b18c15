-- `flip_stage::rewrite_record` meets its contract: the row is the part of the list that the index names.
use Rattle.buffer_core.proofs.SizeLaws.{row_long}
use Rattle.flip_stage.proofs.rewrite_record.Goals as goal

pub rewrite-requires : goal.rewrite-requires
rewrite-requires c =
    let a = c.args in
    let q = c.requires in
    let z = c.record_size-size.ensures.0 in
    let e = rw z at c.row_part-row.ensures in
    (row_long a.edition a.index a.list.now _ q.0 e, q.1, q.2, rw e q.3)
