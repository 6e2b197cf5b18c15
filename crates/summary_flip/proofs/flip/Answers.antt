-- 9, then 10, then 11, then 36, then the head and the lines.
use mathlib.Core.Path.{sym, ap, ◌∙◌}
use lib.IntN.{nat_abs}
use mir.Syntax.{w32, w64}
use Rattle.signed.specs.Sign.{is_negative}
use Rattle.signed.proofs.SignedLaws.{back}
use Rattle.summary_flip.proofs.FlipLaws.{flip_9, flip_10, flip_11, flip_36, flip_on}
use borrow.Author.Rules.{rules}
use Rattle.summary_flip.proofs.flip.Goals as goal

pub returns-then-size-ge9223372036854775808 : goal.returns-then-size-ge9223372036854775808
returns-then-size-ge9223372036854775808 c =
    let a = c.args in
    let t = c.magnitude-size.ensures ∙ ap nat_abs (back w64 a.target c.ranges.target) in
    flip_9 a.edition a.direction a.parent.now a.counts a.target a.staged_counts a.staged.now a.table_counts a.table.now a.head.now a.lines a.summary.now _ t c.if-size-ge9223372036854775808.true

pub returns-then-not-order_ok : goal.returns-then-not-order_ok
returns-then-not-order_ok c =
    let a = c.args in
    let t = c.magnitude-size.ensures ∙ ap nat_abs (back w64 a.target c.ranges.target) in
    flip_10 a.edition a.direction a.parent.now a.counts a.target a.staged_counts a.staged.now a.table_counts a.table.now a.head.now a.lines a.summary.now _ t c.if-size-ge9223372036854775808.false (sym c.order_ok.ensures ∙ c.if-not-order_ok.true)

pub returns-then-is_negative_i32 : goal.returns-then-is_negative_i32
returns-then-is_negative_i32 c =
    let a = c.args in
    let t = c.magnitude-size.ensures ∙ ap nat_abs (back w64 a.target c.ranges.target) in
    let e = back w32 a.counts.spills (search rules) in
    flip_11 a.edition a.direction a.parent.now a.counts a.target a.staged_counts a.staged.now a.table_counts a.table.now a.head.now a.lines a.summary.now _ t c.if-size-ge9223372036854775808.false (sym c.order_ok.ensures ∙ c.if-not-order_ok.false) (ap is_negative (sym e) ∙ sym c.is_negative_i32.ensures ∙ c.if-is_negative_i32.true)

pub returns-then-lines-rows : goal.returns-then-lines-rows
returns-then-lines-rows c =
    let a = c.args in
    let t = c.magnitude-size.ensures ∙ ap nat_abs (back w64 a.target c.ranges.target) in
    let e = back w32 a.counts.spills (search rules) in
    flip_36 a.edition a.direction a.parent.now a.counts a.target a.staged_counts a.staged.now a.table_counts a.table.now a.head.now a.lines a.summary.now _ t c.if-size-ge9223372036854775808.false (sym c.order_ok.ensures ∙ c.if-not-order_ok.false) (ap is_negative (sym e) ∙ sym c.is_negative_i32.ensures ∙ c.if-is_negative_i32.false) _ (c.usize_from_i32-rows.ensures ∙ ap nat_abs e) c.if-lines-rows.true

pub returns : goal.returns
returns c =
    let a = c.args in
    let t = c.magnitude-size.ensures ∙ ap nat_abs (back w64 a.target c.ranges.target) in
    let e = back w32 a.counts.spills (search rules) in
    flip_on a.edition a.direction a.parent.now a.counts a.target a.staged_counts a.staged.now a.table_counts a.table.now a.head.now a.lines a.summary.now _ t c.if-size-ge9223372036854775808.false (sym c.order_ok.ensures ∙ c.if-not-order_ok.false) (ap is_negative (sym e) ∙ sym c.is_negative_i32.ensures ∙ c.if-is_negative_i32.false) _ (c.usize_from_i32-rows.ensures ∙ ap nat_abs e) c.if-lines-rows.false _ c.is_spend.ensures _ c.flip_in_order.ensures
