-- `flat_list::flat_ok` meets its contract.
use Rattle.flat_list.proofs.FlatLaws.{too_many, by_places}
use Rattle.flat_list.proofs.flat_ok.Goals as goal

pub returns-then-count-gt-FLAT_LIMIT : goal.returns-then-count-gt-FLAT_LIMIT
returns-then-count-gt-FLAT_LIMIT c = too_many c.args.count c.args.list.now c.if-count-gt-FLAT_LIMIT.true

pub returns : goal.returns
returns c = by_places c.args.count c.args.list.now c.if-count-gt-FLAT_LIMIT.false
