-- `missing_rows::seek_tally` meets its contract: 10 and 11 read no row.
use mathlib.Core.Path.{sym, ap, ◌∙◌}
use borrow.Author.Rules.{rules}
use lib.IntN.{nat_abs}
use lib.ListN.{take}
use mir.Syntax.{w32}
use Rattle.signed.specs.Sign.{is_negative}
use Rattle.signed.proofs.SignedLaws.{back}
use Rattle.buffer_core.specs.Edition.{edition_of}
use Rattle.buffer_core.specs.Spills.{sources}
use Rattle.missing_rows.proofs.CallLaws.{core_10, core_11, core_on}
use Rattle.missing_rows.proofs.seek_tally.Goals as goal

pub returns-then-not-order_ok : goal.returns-then-not-order_ok
returns-then-not-order_ok c =
    let a = c.args in
    core_10 (edition_of a.edition) (sources a.parent.now a.staged.now a.staged_counts.count a.table.now a.table_counts.count) a.counts.spills (take a.counts.len a.head.now) (sym c.order_ok.ensures ∙ c.if-not-order_ok.true)

pub returns-then-is_negative_i32 : goal.returns-then-is_negative_i32
returns-then-is_negative_i32 c =
    let a = c.args in
    let e = back w32 a.counts.spills (search rules) in
    core_11 (edition_of a.edition) (sources a.parent.now a.staged.now a.staged_counts.count a.table.now a.table_counts.count) a.counts.spills (take a.counts.len a.head.now) (sym c.order_ok.ensures ∙ c.if-not-order_ok.false) (ap is_negative (sym e) ∙ sym c.is_negative_i32.ensures ∙ c.if-is_negative_i32.true)

pub returns : goal.returns
returns c =
    let a = c.args in
    let e = back w32 a.counts.spills (search rules) in
    core_on (edition_of a.edition) (sources a.parent.now a.staged.now a.staged_counts.count a.table.now a.table_counts.count) a.counts.spills (take a.counts.len a.head.now) (sym c.order_ok.ensures ∙ c.if-not-order_ok.false) (ap is_negative (sym e) ∙ sym c.is_negative_i32.ensures ∙ c.if-is_negative_i32.false) _ (c.usize_from_i32.ensures ∙ ap nat_abs e) _ c.seek_up.ensures
