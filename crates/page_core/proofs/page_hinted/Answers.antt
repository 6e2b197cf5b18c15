-- The first row that is refused ends it, before anything is written; rows that all pass are those that the page is filled from.
use mathlib.Core.Path.{sym, ◌∙◌}
use lib.ListN.{take}
use Rattle.buffer_core.specs.Edition.{edition_of}
use Rattle.buffer_core.specs.Spills.{sources}
use Rattle.buffer_core.specs.Flip.{row_checked}
use Rattle.page_core.proofs.PageLaws.{page_good}
use Rattle.page_core.proofs.page_hinted.Goals as goal

pub returns-in-Ok : goal.returns-in-Ok
returns-in-Ok c =
    let a = c.args in
    page_good (row_checked (edition_of a.edition) (sources a.parent.now a.staged.now a.staged_count a.table.now a.table_count)) a.spills (take a.len a.head.now) a.offset a.wanted a.out.now _ (sym c.in-Ok.is ∙ c.check_rows-read.ensures) c.put_page-count.ensures
