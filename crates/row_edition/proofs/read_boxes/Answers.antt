-- `row_edition::read_boxes` meets its contract: the boxes of the row's segment are read into the list.
use Rattle.row_edition.proofs.ReadingLaws.{boxes_read}
use Rattle.row_edition.proofs.read_boxes.Goals as goal

pub returns-in-Read : goal.returns-in-Read
returns-in-Read c =
    let a = c.args in
    boxes_read a.row.now a.at _ _ a.out.now _ _ c.read_last_segment.ensures c.requires _ _ _ _ _ c.in-Read.is
