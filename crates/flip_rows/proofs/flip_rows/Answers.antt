-- `flip_rows::flip_rows` meets its contract: with no row what the head showed decides, and hints decide nothing.
use Rattle.buffer_core.specs.Spills.{sources}
use Rattle.flip_rows.proofs.RowLaws.{rows_none}
use Rattle.flip_rows.proofs.flip_rows.Goals as goal

pub returns-then-spills-eq0 : goal.returns-then-spills-eq0
returns-then-spills-eq0 c =
    let a = c.args in
    let w = sources a.parent.now a.staged.now a.staged_counts.count a.table.now a.table_count in
    rows_none a.edition w a.staged_counts a.staged.now a.target a.spend a.spills a.seen _ c.if-spills-eq0.true c.no_entry-code.ensures
