-- A row that passes the checks has its 512 numbers in `row`; the entry is taken under the key that the row was found by.
use lib.Dec.{ltb}
use lib.Seq.{take_all}
use Rattle.segment_id.specs.declared.Kind.TheVariants.{Box}
use Rattle.buffer_core.specs.Edition.{edition_of}
use Rattle.buffer_core.specs.Spills.{sources, spill_read}
use Rattle.buffer_core.specs.Flip.{row_checked}
use Rattle.spill_rows.proofs.CheckedLaws.{checked_ordered}
use Rattle.summary_walk.proofs.WalkLaws.{row_takes, row_take, row_seen, row_absent}
use borrow.Author.Rules.{rules}
use Rattle.summary_walk.proofs.search_row.Goals as goal

pub flip_position-position-requires : goal.flip_position-position-requires
flip_position-position-requires c =
    let a = c.args in
    let w = sources a.parent.now a.staged.now a.staged_counts.count a.table.now a.table_count in
    (search rules, checked_ordered (spill_read (edition_of a.edition) Box w a.number) _ _ c.read_checked_under-read.ensures c.in-Ok.is (search rules))

pub take_entry-requires : goal.take_entry-requires
take_entry-requires c =
    let a = c.args in
    let w = sources a.parent.now a.staged.now a.staged_counts.count a.table.now a.table_count in
    let x = row_checked (edition_of a.edition) w a.number in
    let b = ltb a.first a.target in
    let g = c.read_checked_under-read.ensures.numbers c.in-Ok.is in
    (c.requires.0, c.requires.1, c.spill_key-key.ensures.0, c.spill_key-key.ensures.1, g, row_takes a.edition w a.number a.staged_counts a.staged.now a.summary.now a.target a.spend x b _ g (take_all 512 _ (search rules)) _ c.flip_position-position.ensures c.requires.2 _ c.in-At.is, search rules, c.requires.3)

pub returns-in-At : goal.returns-in-At
returns-in-At c =
    let a = c.args in
    let w = sources a.parent.now a.staged.now a.staged_counts.count a.table.now a.table_count in
    let x = row_checked (edition_of a.edition) w a.number in
    let b = ltb a.first a.target in
    row_take a.edition w a.number a.staged_counts a.staged.now a.summary.now a.target a.spend x b _ (c.read_checked_under-read.ensures.numbers c.in-Ok.is) (take_all 512 _ (search rules)) _ c.flip_position-position.ensures _ c.in-At.is _ _ _ c.take_entry.ensures

pub returns-in-Seen : goal.returns-in-Seen
returns-in-Seen c =
    let a = c.args in
    let w = sources a.parent.now a.staged.now a.staged_counts.count a.table.now a.table_count in
    let x = row_checked (edition_of a.edition) w a.number in
    let b = ltb a.first a.target in
    row_seen a.edition w a.number a.staged_counts a.staged.now a.summary.now a.target a.spend x b _ (c.read_checked_under-read.ensures.numbers c.in-Ok.is) (take_all 512 _ (search rules)) _ c.flip_position-position.ensures c.in-Seen.is _ c.look_past.ensures

pub returns-in-Absent : goal.returns-in-Absent
returns-in-Absent c =
    let a = c.args in
    let w = sources a.parent.now a.staged.now a.staged_counts.count a.table.now a.table_count in
    let x = row_checked (edition_of a.edition) w a.number in
    let b = ltb a.first a.target in
    row_absent a.edition w a.number a.staged_counts a.staged.now a.summary.now a.target a.spend x b _ (c.read_checked_under-read.ensures.numbers c.in-Ok.is) (take_all 512 _ (search rules)) _ c.flip_position-position.ensures c.in-Absent.is _ c.look_past-in-Absent.ensures
