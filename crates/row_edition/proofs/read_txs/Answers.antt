-- `row_edition::read_txs` meets its contract: the transactions of the row's segment are read into the list.
use Rattle.row_edition.proofs.ReadingLaws.{txs_read}
use Rattle.row_edition.proofs.read_txs.Goals as goal

pub returns-in-Read : goal.returns-in-Read
returns-in-Read c =
    let a = c.args in
    txs_read a.row.now a.at _ a.out.now _ _ _ c.read_last_segment.ensures c.requires _ _ _ _ _ c.in-Read.is
