-- `row_edition::read_row` meets its contract: each edition has its reader.
use lib.IntN.{pos}
use Rattle.buffer_core.proofs.UnderLaws.{plain_row}
use Rattle.row_edition.proofs.read_row.Goals as goal

pub returns-in-One : goal.returns-in-One
returns-in-One c =
    let a = c.args in
    let q = c.in-One.is in
    rw (q, plain_row a.kind a.parent.now (pos a.number) a.row.now (rw q at c.requires.0)) c.read_body.ensures
