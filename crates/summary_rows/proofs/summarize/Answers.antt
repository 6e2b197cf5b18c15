-- 10, 11, 36, then the rows.
use mathlib.Core.Path.{sym, ap, ◌∙◌}
use lib.IntN.{nat_abs}
use lib.ListN.{take}
use mir.Syntax.{w32}
use Rattle.signed.specs.Sign.{is_negative}
use Rattle.signed.proofs.SignedLaws.{back}
use Rattle.buffer_core.specs.Edition.{edition_of}
use Rattle.buffer_core.specs.Spills.{sources}
use Rattle.summary_rows.proofs.MakingLaws.{made_10, made_11, made_36, made_on}
use borrow.Author.Rules.{rules}
use Rattle.summary_rows.proofs.summarize.Goals as goal

pub returns-then-not-order_ok : goal.returns-then-not-order_ok
returns-then-not-order_ok c =
    let a = c.args in
    made_10 (edition_of a.edition) (sources a.parent.now a.staged.now a.staged_counts.count a.table.now a.table_counts.count) a.counts.spills (take a.counts.len a.head.now) a.lines a.summary.now (sym c.order_ok.ensures ∙ c.if-not-order_ok.true)

pub returns-then-is_negative_i32 : goal.returns-then-is_negative_i32
returns-then-is_negative_i32 c =
    let a = c.args in
    let e = back w32 a.counts.spills (search rules) in
    made_11 (edition_of a.edition) (sources a.parent.now a.staged.now a.staged_counts.count a.table.now a.table_counts.count) a.counts.spills (take a.counts.len a.head.now) a.lines a.summary.now (sym c.order_ok.ensures ∙ c.if-not-order_ok.false) (ap is_negative (sym e) ∙ sym c.is_negative_i32.ensures ∙ c.if-is_negative_i32.true)

pub returns-then-lines-rows : goal.returns-then-lines-rows
returns-then-lines-rows c =
    let a = c.args in
    let e = back w32 a.counts.spills (search rules) in
    made_36 (edition_of a.edition) (sources a.parent.now a.staged.now a.staged_counts.count a.table.now a.table_counts.count) a.counts.spills (take a.counts.len a.head.now) a.lines a.summary.now (sym c.order_ok.ensures ∙ c.if-not-order_ok.false) (ap is_negative (sym e) ∙ sym c.is_negative_i32.ensures ∙ c.if-is_negative_i32.false)
    _ (c.usize_from_i32-rows.ensures ∙ ap nat_abs e) c.if-lines-rows.true

pub returns : goal.returns
returns c =
    let a = c.args in
    let e = back w32 a.counts.spills (search rules) in
    made_on (edition_of a.edition) (sources a.parent.now a.staged.now a.staged_counts.count a.table.now a.table_counts.count) a.counts.spills (take a.counts.len a.head.now) a.lines a.summary.now (sym c.order_ok.ensures ∙ c.if-not-order_ok.false) (ap is_negative (sym e) ∙ sym c.is_negative_i32.ensures ∙ c.if-is_negative_i32.false)
    _ (c.usize_from_i32-rows.ensures ∙ ap nat_abs e) c.if-lines-rows.false _ c.summarize_spills.ensures
