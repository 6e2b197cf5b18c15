-- A row that passes the checks has its 512 numbers in `row`.
use lib.Seq.{take_all}
use Rattle.summary_rows.proofs.MakingLaws.{row_written}
use borrow.Author.Rules.{rules}
use Rattle.summary_rows.proofs.put_row.Goals as goal

pub returns-in-Ok : goal.returns-in-Ok
returns-in-Ok c =
    let a = c.args in
    row_written _ _ _ c.read_checked-read.ensures a.number a.summary.now _ c.in-Ok.is (take_all 512 _ (search rules)) _ c.line_of-line.ensures c.put_line.ensures
