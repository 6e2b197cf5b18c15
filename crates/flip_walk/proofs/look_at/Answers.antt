-- `flip_walk::look_at` meets its contract: what the numbers show of a row that passes the checks.
use Rattle.spill_rows.proofs.CheckedLaws.{checked_ordered}
use borrow.Author.Rules.{rules}
use Rattle.segment_id.specs.declared.Kind.TheVariants as Kind
use Rattle.buffer_core.specs.Edition.{edition_of}
use Rattle.buffer_core.specs.Spills.{sources, spill_read}
use Rattle.flip_walk.proofs.look_at.Goals as goal

pub look_in-requires : goal.look_in-requires
look_in-requires c =
    let a = c.args in
    let w = sources a.parent.now a.staged.now a.staged_count a.table.now a.table_count in
    (search rules, checked_ordered (spill_read (edition_of a.edition) Kind.Box w a.number) _ _ c.read_checked-read.ensures c.in-Ok.is (search rules))
