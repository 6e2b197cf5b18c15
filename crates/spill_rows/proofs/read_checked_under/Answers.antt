-- `spill_rows::read_checked_under` meets its contract: the row is read, then its size and its order are tested.
use Rattle.segment_id.specs.declared.Kind.TheVariants.{Box}
use Rattle.buffer_core.specs.Edition.{edition_of}
use Rattle.buffer_core.specs.Spills.{sources, spill_read}
use Rattle.spill_rows.proofs.CheckedLaws.{checked_good, checked_order}
use borrow.Author.Rules.{rules}
use Rattle.spill_rows.proofs.read_checked_under.Goals as goal

pub returns-then-order_ok : goal.returns-then-order_ok
returns-then-order_ok c =
    checked_good _ c.read_under-read.new.out (search rules) _ c.in-Ok.is c.if-n-ne-SEGMENT_THRESHOLD.false _ c.order_ok.ensures (spill_read (edition_of c.args.edition) Box (sources c.args.parent.now c.args.staged.now c.args.staged_count c.args.table.now c.args.table_count) c.args.number) c.read_under-read.ensures c.if-order_ok.true

pub returns-else-order_ok : goal.returns-else-order_ok
returns-else-order_ok c =
    checked_order _ c.read_under-read.new.out (search rules) _ c.in-Ok.is c.if-n-ne-SEGMENT_THRESHOLD.false _ c.order_ok.ensures (spill_read (edition_of c.args.edition) Box (sources c.args.parent.now c.args.staged.now c.args.staged_count c.args.table.now c.args.table_count) c.args.number) c.read_under-read.ensures c.if-order_ok.false
