-- Refusal 25 is tested, and what passed is what the checks after it ask.
use mathlib.Core.Path.{sym, ◌∙◌}
use native.Mathlib.Omega.{arith}
use Rattle.buffer_core.specs.Edition.{edition_of}
use Rattle.flip_core.proofs.KeepLaws.{flip_facts}
use Rattle.page_calls.proofs.CallLaws.{page_short, page_25, page_goes}
use Rattle.page_calls.proofs.unspent_page.Goals as goal

pub returns-then-page-lt-PAGE : goal.returns-then-page-lt-PAGE
returns-then-page-lt-PAGE c =
    let a = c.args in
    page_short (edition_of a.edition) a.parent.now a.counts a.staged_counts a.staged.now a.table_counts a.table.now a.head.now a.offset a.length a.page.now c.if-page-lt-PAGE.true

pub page_checked-requires : goal.page_checked-requires
page_checked-requires c =
    let a = c.args in
    (flip_facts a.edition a.counts a.staged_counts a.staged.now a.table_counts a.table.now a.head.now (sym c.flip_ok.ensures ∙ c.if-flip_ok.true), omega arith)

pub returns-then-flip_ok : goal.returns-then-flip_ok
returns-then-flip_ok c =
    let a = c.args in
    page_goes (edition_of a.edition) a.parent.now a.counts a.staged_counts a.staged.now a.table_counts a.table.now a.head.now a.offset a.length a.page.now (omega arith) (sym c.flip_ok.ensures ∙ c.if-flip_ok.true) _ c.page_checked.ensures

pub returns : goal.returns
returns c =
    let a = c.args in
    page_25 (edition_of a.edition) a.parent.now a.counts a.staged_counts a.staged.now a.table_counts a.table.now a.head.now a.offset a.length a.page.now (sym c.flip_ok.ensures ∙ c.if-flip_ok.false)
