-- A row that passes the checks has its 512 numbers in `row`.
use lib.Seq.{take_all}
use Rattle.row_tallies.proofs.TallyLaws.{counted_good}
use borrow.Author.Rules.{rules}
use Rattle.row_tallies.proofs.count_row.Goals as goal

pub returns-in-Ok : goal.returns-in-Ok
returns-in-Ok c =
    counted_good _ _ _ c.read_checked-read.ensures c.in-Ok.is _ c.tally_entries.ensures (take_all 512 _ (search rules))
