-- `line_seeking::seek_lines` meets its contract: the halving over the lines reads no row, and ends within the spills.
use mathlib.Core.Path.{refl}
use native.Mathlib.Omega.{arith}
use Rattle.buffer_core.specs.Edition.{edition_of}
use Rattle.std.specs.Prelude.{Ok}
use Rattle.summary_core.specs.Flip.{line_lead}
use Rattle.flip_search.proofs.SearchLaws.{search_most}
use Rattle.line_seeking.proofs.LineLaws.{sought}
use Rattle.line_seeking.proofs.seek_lines.Goals as goal

pub seek_below-requires : goal.seek_below-requires
seek_below-requires c =
    let l = search_most (line_lead c.args.summary.now) c.args.target 0 c.args.spills c.search-low.result (Ok c.search-low.result) (omega arith) c.search-low.ensures refl in
    (c.requires.0, omega (arith, l, c.requires.1), omega (arith, l, c.requires.2))

pub returns : goal.returns
returns c =
    let a = c.args in
    sought (edition_of a.edition) a.parent.now a.staged.now a.staged_count a.table.now a.table_count a.summary.now a.target a.spend a.spills _ c.search-low.ensures _ c.seek_below.ensures
