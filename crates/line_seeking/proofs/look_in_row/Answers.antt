-- `line_seeking::look_in_row` meets its contract: what the numbers show of a row that passes the checks.
use Rattle.segment_id.specs.declared.Kind.TheVariants as Kind
use Rattle.buffer_core.specs.Edition.{edition_of}
use Rattle.buffer_core.specs.Spills.{sources, spill_read}
use Rattle.spill_rows.proofs.CheckedLaws.{checked_ordered}
use borrow.Author.Rules.{rules}
use Rattle.line_seeking.proofs.look_in_row.Goals as goal

pub look_by-requires : goal.look_by-requires
look_by-requires c =
    let a = c.args in
    let w = sources a.parent.now a.staged.now a.staged_count a.table.now a.table_count in
    (search rules, checked_ordered (spill_read (edition_of a.edition) Kind.Box w a.number) _ _ c.read_checked-read.ensures c.in-Ok.is (search rules))
