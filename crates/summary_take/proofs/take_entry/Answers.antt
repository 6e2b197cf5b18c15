-- The row is staged with the entry negated, and the line is that of the row so negated.
use Rattle.segment_id.specs.declared.Kind.TheVariants.{Box}
use Rattle.buffer_core.specs.Edition.{edition_of}
use Rattle.buffer_core.specs.Spills.{sources, spill_read}
use Rattle.summary_take.proofs.TakeLaws.{takes_read, take_after}
use Rattle.summary_take.proofs.take_entry.Goals as goal

pub stage_under-flipped-requires : goal.stage_under-flipped-requires
stage_under-flipped-requires c =
    let a = c.args in
    let w = sources a.parent.now a.staged.now a.staged_counts.count a.table.now a.table_count in
    (c.requires.0, c.requires.1, c.requires.2, c.requires.3, takes_read (spill_read (edition_of a.edition) Box w a.number) a.row.now a.at c.requires.4 c.requires.5)

pub returns : goal.returns
returns c =
    let a = c.args in
    let w = sources a.parent.now a.staged.now a.staged_counts.count a.table.now a.table_count in
    take_after a.edition w a.staged_counts a.staged.now a.number a.at a.row.now c.requires.4 c.requires.6 _ _ c.stage_under-flipped.ensures _ c.is_done.ensures _ c.flip_at.ensures _ c.line_of-line.ensures a.summary.now _ c.put_staged.ensures
