-- The head is put first, then the rows; zeros are what the page began with.
use lib.ListN.{take}
use Rattle.buffer_core.specs.Edition.{edition_of}
use Rattle.buffer_core.specs.Spills.{sources}
use Rattle.buffer_core.specs.Flip.{row_checked}
use Rattle.page_core.specs.Internal.{rows_flat}
use Rattle.page_core.proofs.PageLaws.{page_left}
use Rattle.page_core.proofs.put_page.Goals as goal

pub returns : goal.returns
returns c =
    let a = c.args in
    let rows = rows_flat (row_checked (edition_of a.edition) (sources a.parent.now a.staged.now a.staged_count a.table.now a.table_count)) 0 a.spills in
    page_left a.offset a.wanted rows (take a.len a.head.now) _ _ _ _ a.out.now c.put_newest-of_head.ensures c.put_rows-filled.ensures _ c.copy_numbers.ensures
