-- The halving gives the line where the walk begins.
use mathlib.Core.Path.{refl}
use native.Mathlib.Omega.{arith}
use Rattle.buffer_core.specs.Spills.{sources}
use Rattle.flip_search.proofs.SearchLaws.{search_most}
use Rattle.summary_core.specs.Flip.{line_lead}
use Rattle.summary_flip.proofs.FlipLaws.{lines_walked}
use Rattle.summary_flip.proofs.flip_rows.Goals as goal

pub walk_down-requires : goal.walk_down-requires
walk_down-requires c =
    let a = c.args in
    let k = search_most (line_lead a.summary.now) a.target 0 a.spills _ _ (omega arith) c.search-low.ensures refl in
    (c.requires.0, omega (arith, c.requires.1, k), c.requires.2, omega (arith, c.requires.3, k))

pub returns : goal.returns
returns c =
    let a = c.args in
    let w = sources a.parent.now a.staged.now a.staged_counts.count a.table.now a.table_count in
    lines_walked a.edition w a.staged_counts a.staged.now a.summary.now a.target a.spend a.spills a.seen _ c.search-low.ensures _ _ _ c.walk_down.ensures
