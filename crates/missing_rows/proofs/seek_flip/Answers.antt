-- `missing_rows::seek_flip` meets its contract: where the head has no entry to take, the rows are read.
use lib.ListN.{take}
use Rattle.buffer_core.specs.Edition.{edition_of}
use Rattle.buffer_core.specs.Spills.{sources}
use Rattle.missing_rows.proofs.FlipCallLaws.{head_has, head_seen, head_absent}
use Rattle.missing_rows.proofs.seek_flip.Goals as goal

pub returns-in-At : goal.returns-in-At
returns-in-At c =
    let a = c.args in
    head_has (edition_of a.edition) (sources a.parent.now a.staged.now a.staged_count a.table.now a.table_count) a.target a.spend a.spills (take a.len a.head.now) _ c.flip_position-position.ensures _ c.in-At.is

pub returns-in-Seen : goal.returns-in-Seen
returns-in-Seen c =
    let a = c.args in
    head_seen (edition_of a.edition) (sources a.parent.now a.staged.now a.staged_count a.table.now a.table_count) a.target a.spend a.spills (take a.len a.head.now) _ c.flip_position-position.ensures c.in-Seen.is _ c.seek_rows.ensures

pub returns-in-Absent : goal.returns-in-Absent
returns-in-Absent c =
    let a = c.args in
    head_absent (edition_of a.edition) (sources a.parent.now a.staged.now a.staged_count a.table.now a.table_count) a.target a.spend a.spills (take a.len a.head.now) _ c.flip_position-position.ensures c.in-Absent.is _ c.seek_rows-in-Absent.ensures
