-- Where the records of both tables stand is noted, and hints decide nothing.
use Rattle.address_ranking.specs.Rank.{address_of}
use Rattle.content_order.proofs.PassedLaws.{rows_ready}
use Rattle.ranking.proofs.rank_noted.Goals as goal

pub note_table-requires : goal.note_table-requires
note_table-requires c =
    let a = c.args in
    let x = address_of a.edition a.counts a.hash.now a.ids.now a.amounts.now a.boxes.now a.txs.now a.staged.now a.table.now in
    let y = address_of a.other_edition a.other_counts a.other_hash.now a.other_ids.now a.other_amounts.now a.other_boxes.now a.other_txs.now a.other_staged.now a.other_table.now in
    (rows_ready x c.requires.0.buffers).in_table

pub note_table-requires-2 : goal.note_table-requires-2
note_table-requires-2 c =
    let a = c.args in
    let x = address_of a.edition a.counts a.hash.now a.ids.now a.amounts.now a.boxes.now a.txs.now a.staged.now a.table.now in
    let y = address_of a.other_edition a.other_counts a.other_hash.now a.other_ids.now a.other_amounts.now a.other_boxes.now a.other_txs.now a.other_staged.now a.other_table.now in
    (rows_ready y c.requires.1.buffers).in_table
