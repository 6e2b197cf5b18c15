-- The length, the head and the spill count are tested in this order, then the rows.
use mathlib.Core.Path.{sym, ap, ◌∙◌}
use mathlib.Core.Bool.{true, false}
use native.Mathlib.Omega.{arith}
use borrow.Author.Rules.{rules}
use lib.IntN.{nat_abs}
use lib.ListN.{take}
use mir.Syntax.{w32}
use Rattle.signed.specs.Sign.{is_negative}
use Rattle.signed.proofs.SignedLaws.{back}
use Rattle.buffer_core.specs.Edition.{edition_of}
use Rattle.buffer_core.specs.Spills.{sources}
use Rattle.page_calls.proofs.CallLaws.{page_33, page_10, page_11, page_on}
use Rattle.page_calls.proofs.page_checked.Goals as goal

pub returns-then-wanted-gt-PAGE : goal.returns-then-wanted-gt-PAGE
returns-then-wanted-gt-PAGE c =
    let a = c.args in
    page_33 (edition_of a.edition) (sources a.parent.now a.staged.now a.staged_counts.count a.table.now a.table_counts.count) a.counts.spills (take a.counts.len a.head.now) a.offset a.wanted a.page.now c.if-wanted-gt-PAGE.true

pub returns-then-not-ordered : goal.returns-then-not-ordered
returns-then-not-ordered c =
    let a = c.args in
    page_10 (edition_of a.edition) (sources a.parent.now a.staged.now a.staged_counts.count a.table.now a.table_counts.count) a.counts.spills (take a.counts.len a.head.now) a.offset a.wanted a.page.now (omega arith) (sym c.order_ok-ordered.ensures ∙ c.if-not-ordered.true)

pub returns-then-is_negative_i32 : goal.returns-then-is_negative_i32
returns-then-is_negative_i32 c =
    let a = c.args in
    page_11 (edition_of a.edition) (sources a.parent.now a.staged.now a.staged_counts.count a.table.now a.table_counts.count) a.counts.spills (take a.counts.len a.head.now) a.offset a.wanted a.page.now (omega arith) (sym c.order_ok-ordered.ensures ∙ c.if-not-ordered.false) (ap is_negative (sym (back w32 a.counts.spills (search rules))) ∙ sym c.is_negative_i32.ensures ∙ c.if-is_negative_i32.true)

pub returns : goal.returns
returns c =
    let a = c.args in
    let e = back w32 a.counts.spills (search rules) in
    page_on (edition_of a.edition) (sources a.parent.now a.staged.now a.staged_counts.count a.table.now a.table_counts.count) a.counts.spills (take a.counts.len a.head.now) a.offset a.wanted a.page.now
    (omega arith)
    (sym c.order_ok-ordered.ensures ∙ c.if-not-ordered.false)
    (ap is_negative (sym e) ∙ sym c.is_negative_i32.ensures ∙ c.if-is_negative_i32.false)
    _ (c.usize_from_i32.ensures ∙ ap nat_abs e) _ c.page_rows.ensures
