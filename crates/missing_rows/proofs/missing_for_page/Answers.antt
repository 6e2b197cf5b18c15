-- `missing_rows::missing_for_page` meets its contract: 25 and 33 read no row.
use mathlib.Core.Path.{sym, ◌∙◌}
use Rattle.buffer_core.specs.Edition.{edition_of}
use Rattle.flip_core.proofs.KeepLaws.{flip_facts}
use Rattle.missing_rows.proofs.CallLaws.{page_25, page_short, page_33, page_goes}
use Rattle.missing_rows.proofs.missing_for_page.Goals as goal

pub returns-then-not-flip_ok : goal.returns-then-not-flip_ok
returns-then-not-flip_ok c =
    let a = c.args in
    page_25 (edition_of a.edition) a.parent.now a.counts a.staged_counts a.staged.now a.table_counts a.table.now a.head.now a.numbers a.out.now (sym c.flip_ok.ensures ∙ c.if-not-flip_ok.true)

pub returns-then-out-lt-PAGE : goal.returns-then-out-lt-PAGE
returns-then-out-lt-PAGE c =
    let a = c.args in
    page_short (edition_of a.edition) a.parent.now a.counts a.staged_counts a.staged.now a.table_counts a.table.now a.head.now a.numbers a.out.now (sym c.flip_ok.ensures ∙ c.if-not-flip_ok.false) c.if-out-lt-PAGE.true

pub returns-then-numbers-gt-PAGE : goal.returns-then-numbers-gt-PAGE
returns-then-numbers-gt-PAGE c =
    let a = c.args in
    page_33 (edition_of a.edition) a.parent.now a.counts a.staged_counts a.staged.now a.table_counts a.table.now a.head.now a.numbers a.out.now (sym c.flip_ok.ensures ∙ c.if-not-flip_ok.false) c.if-out-lt-PAGE.false c.if-numbers-gt-PAGE.true

pub seek_tally-requires : goal.seek_tally-requires
seek_tally-requires c =
    let a = c.args in
    flip_facts a.edition a.counts a.staged_counts a.staged.now a.table_counts a.table.now a.head.now (sym c.flip_ok.ensures ∙ c.if-not-flip_ok.false)

pub returns : goal.returns
returns c =
    let a = c.args in
    page_goes (edition_of a.edition) a.parent.now a.counts a.staged_counts a.staged.now a.table_counts a.table.now a.head.now a.numbers a.out.now (sym c.flip_ok.ensures ∙ c.if-not-flip_ok.false) c.if-out-lt-PAGE.false c.if-numbers-gt-PAGE.false _ c.seek_tally.ensures
