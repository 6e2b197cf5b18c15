-- `records::row_part` meets its contract: the part ends at the stated length, or with the record where that is shorter.
use mathlib.Core.Path.{refl}
use Rattle.records.proofs.RecordLaws.{row_fits, row_cut}
use Rattle.records.proofs.row_part.Goals as goal

pub returns-then-n-size : goal.returns-then-n-size
returns-then-n-size c =
    row_fits c.args.at c.args.size _ _ c.args.list.now c.requires.0 c.requires.1 c.length_at-n.ensures.0 c.if-n-size.true refl

pub returns-else-n-size : goal.returns-else-n-size
returns-else-n-size c =
    row_cut c.args.at c.args.size _ _ c.args.list.now c.requires.0 c.requires.1 c.length_at-n.ensures.0 c.if-n-size.false refl
