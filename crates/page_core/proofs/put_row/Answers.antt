-- A row that passes the checks has its 512 numbers in `row`.
use borrow.Author.Rules.{rules}
use lib.Seq.{take_all}
use Rattle.page_core.proofs.PageLaws.{row_put, row_none}
use Rattle.page_core.proofs.put_row.Goals as goal

pub returns-in-Ok : goal.returns-in-Ok
returns-in-Ok c =
    row_put _ _ _ c.read_checked-read.ensures c.in-Ok.is (take_all 512 _ (search rules)) _ _ _ _ _ c.put_newest.ensures

pub returns-in-Err : goal.returns-in-Err
returns-in-Err c =
    row_none _ _ _ c.read_checked-read.ensures _ c.in-Err.is _ _ _ c.requires.4
