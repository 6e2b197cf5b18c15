-- `flip_rows::flip_hinted` meets its contract: the halving gives the row where the walk begins, and the walk the entry.
use native.Mathlib.Omega.{arith}
use Rattle.buffer_core.specs.Edition.{edition_of}
use Rattle.buffer_core.specs.Spills.{sources}
use Rattle.buffer_core.specs.Flip.{lead_at, look_at}
use Rattle.flip_search.proofs.SearchLaws.{search_most}
use Rattle.flip_walk.proofs.WalkLaws.{walk_hits}
use Rattle.flip_rows.proofs.TakeLaws.{row_takes}
use Rattle.flip_rows.proofs.RowLaws.{walk_hit, walk_ended, walk_bad, rows_broken, rows_walked}
use Rattle.flip_rows.proofs.flip_hinted.Goals as goal

pub walk_down-walk-requires : goal.walk_down-walk-requires
walk_down-walk-requires c =
    let a = c.args in
    let w = sources a.parent.now a.staged.now a.staged_counts.count a.table.now a.table_count in
    let k = search_most (lead_at (edition_of a.edition) w) a.target 0 a.spills _ _ (omega arith) c.search-found.ensures c.in-Ok.is in
    (c.requires.0.bounds.within, c.requires.0.within, omega (arith, c.requires.1), c.requires.0.apart)

pub stage-requires : goal.stage-requires
stage-requires c =
    let a = c.args in
    let w = sources a.parent.now a.staged.now a.staged_counts.count a.table.now a.table_count in
    let k = search_most (lead_at (edition_of a.edition) w) a.target 0 a.spills _ _ (omega arith) c.search-found.ensures c.in-Ok.is in
    let m = walk_hits (look_at (edition_of a.edition) w a.target a.spend) _ a.seen _ _ _ c.walk_down-walk.ensures c.in-Hit.is in
    (c.requires.0, omega (arith, c.requires.1, m.0), row_takes _ a.target a.spend _ c.requires.2 m.1)

pub returns-in-Hit : goal.returns-in-Hit
returns-in-Hit c =
    let a = c.args in
    let w = sources a.parent.now a.staged.now a.staged_counts.count a.table.now a.table_count in
    rows_walked a.edition w a.staged_counts a.staged.now a.target a.spend a.spills a.seen _ c.search-found.ensures _ c.in-Ok.is _ c.walk_down-walk.ensures _ _ (walk_hit a.edition w a.staged_counts a.staged.now _ _ _ _ _ c.in-Hit.is c.stage.ensures)

pub returns-in-Ended : goal.returns-in-Ended
returns-in-Ended c =
    let a = c.args in
    let w = sources a.parent.now a.staged.now a.staged_counts.count a.table.now a.table_count in
    rows_walked a.edition w a.staged_counts a.staged.now a.target a.spend a.spills a.seen _ c.search-found.ensures _ c.in-Ok.is _ c.walk_down-walk.ensures _ _ (walk_ended a.edition w a.staged_counts a.staged.now _ _ _ c.in-Ended.is c.no_entry-code.ensures)

pub returns-in-Failed : goal.returns-in-Failed
returns-in-Failed c =
    let a = c.args in
    let w = sources a.parent.now a.staged.now a.staged_counts.count a.table.now a.table_count in
    rows_walked a.edition w a.staged_counts a.staged.now a.target a.spend a.spills a.seen _ c.search-found.ensures _ c.in-Ok.is _ c.walk_down-walk.ensures _ _ (walk_bad a.edition w a.staged_counts a.staged.now _ _ c.in-Failed.is)

pub returns-in-Err : goal.returns-in-Err
returns-in-Err c =
    let a = c.args in
    let w = sources a.parent.now a.staged.now a.staged_counts.count a.table.now a.table_count in
    rows_broken a.edition w a.staged_counts a.staged.now a.target a.spend a.spills a.seen _ c.search-found.ensures _ c.in-Err.is
