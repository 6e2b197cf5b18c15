-- `missing_with_summary::missing_for_flip_with_summary` meets its contract: 25, 9, 10, 11 and 36 read no row.
use mathlib.Core.Path.{sym, ap, ◌∙◌}
use native.Mathlib.Omega.{arith}
use lib.IntN.{nat_abs}
use mir.Syntax.{w32, w64}
use Rattle.signed.specs.Sign.{is_negative}
use Rattle.signed.proofs.SignedLaws.{back}
use Rattle.buffer_core.specs.Edition.{edition_of}
use Rattle.buffer_core.proofs.HeadLaws.{spills_below}
use Rattle.flip_core.proofs.KeepLaws.{flip_facts}
use Rattle.missing_with_summary.proofs.CallLaws.{lists_pass, lines_fit, flip_25, flip_9, flip_10, flip_11, flip_36, flip_goes}
use borrow.Author.Rules.{rules}
use Rattle.missing_with_summary.proofs.missing_for_flip_with_summary.Goals as goal

pub returns-then-not-flip_ok : goal.returns-then-not-flip_ok
returns-then-not-flip_ok c =
    let a = c.args in
    flip_25 (edition_of a.edition) a.direction a.parent.now a.counts a.target a.staged_counts a.staged.now a.table_counts a.table.now a.head.now a.lines a.summary.now (sym c.flip_ok.ensures ∙ c.if-not-flip_ok.true)

pub returns-then-size-ge9223372036854775808 : goal.returns-then-size-ge9223372036854775808
returns-then-size-ge9223372036854775808 c =
    let a = c.args in
    let t = c.magnitude-size.ensures ∙ ap nat_abs (back w64 a.target c.ranges.target) in
    flip_9 (edition_of a.edition) a.direction a.parent.now a.counts a.target a.staged_counts a.staged.now a.table_counts a.table.now a.head.now a.lines a.summary.now (sym c.flip_ok.ensures ∙ c.if-not-flip_ok.false) _ t c.if-size-ge9223372036854775808.true

pub order_ok-requires : goal.order_ok-requires
order_ok-requires c =
    let a = c.args in
    let f = flip_facts a.edition a.counts a.staged_counts a.staged.now a.table_counts a.table.now a.head.now (lists_pass (edition_of a.edition) a.direction a.parent.now a.counts a.target a.staged_counts a.staged.now a.table_counts a.table.now a.head.now a.lines a.summary.now (sym c.flip_ok.ensures ∙ c.if-not-flip_ok.false)) in
    omega (arith, f.few, f.long)

pub returns-then-not-order_ok : goal.returns-then-not-order_ok
returns-then-not-order_ok c =
    let a = c.args in
    let t = c.magnitude-size.ensures ∙ ap nat_abs (back w64 a.target c.ranges.target) in
    flip_10 (edition_of a.edition) a.direction a.parent.now a.counts a.target a.staged_counts a.staged.now a.table_counts a.table.now a.head.now a.lines a.summary.now (sym c.flip_ok.ensures ∙ c.if-not-flip_ok.false) _ t c.if-size-ge9223372036854775808.false (sym c.order_ok.ensures ∙ c.if-not-order_ok.true)

pub returns-then-is_negative_i32 : goal.returns-then-is_negative_i32
returns-then-is_negative_i32 c =
    let a = c.args in
    let t = c.magnitude-size.ensures ∙ ap nat_abs (back w64 a.target c.ranges.target) in
    let e = back w32 a.counts.spills (search rules) in
    flip_11 (edition_of a.edition) a.direction a.parent.now a.counts a.target a.staged_counts a.staged.now a.table_counts a.table.now a.head.now a.lines a.summary.now (sym c.flip_ok.ensures ∙ c.if-not-flip_ok.false) _ t c.if-size-ge9223372036854775808.false (sym c.order_ok.ensures ∙ c.if-not-order_ok.false) (ap is_negative (sym e) ∙ sym c.is_negative_i32.ensures ∙ c.if-is_negative_i32.true)

pub returns-then-lines-rows : goal.returns-then-lines-rows
returns-then-lines-rows c =
    let a = c.args in
    let t = c.magnitude-size.ensures ∙ ap nat_abs (back w64 a.target c.ranges.target) in
    let e = back w32 a.counts.spills (search rules) in
    flip_36 (edition_of a.edition) a.direction a.parent.now a.counts a.target a.staged_counts a.staged.now a.table_counts a.table.now a.head.now a.lines a.summary.now (sym c.flip_ok.ensures ∙ c.if-not-flip_ok.false) _ t c.if-size-ge9223372036854775808.false (sym c.order_ok.ensures ∙ c.if-not-order_ok.false) (ap is_negative (sym e) ∙ sym c.is_negative_i32.ensures ∙ c.if-is_negative_i32.false) _ (c.usize_from_i32-rows.ensures ∙ ap nat_abs e) c.if-lines-rows.true

pub seek_flip-requires : goal.seek_flip-requires
seek_flip-requires c =
    let a = c.args in
    let f = flip_facts a.edition a.counts a.staged_counts a.staged.now a.table_counts a.table.now a.head.now (lists_pass (edition_of a.edition) a.direction a.parent.now a.counts a.target a.staged_counts a.staged.now a.table_counts a.table.now a.head.now a.lines a.summary.now (sym c.flip_ok.ensures ∙ c.if-not-flip_ok.false)) in
    let e = back w32 a.counts.spills (search rules) in
    let n = ap is_negative (sym e) ∙ sym c.is_negative_i32.ensures ∙ c.if-is_negative_i32.false in (
      record { in_staged = f.bounds.within; in_table = f.table_bounds.within; apart = f.apart },
      spills_below a.counts.spills n (search rules) _ (c.usize_from_i32-rows.ensures ∙ ap nat_abs e),
      omega (arith, lines_fit (edition_of a.edition) a.direction a.parent.now a.counts a.target a.staged_counts a.staged.now a.table_counts a.table.now a.head.now a.lines a.summary.now (sym c.flip_ok.ensures ∙ c.if-not-flip_ok.false), c.if-lines-rows.false),
      omega (arith, f.few, f.long),
      sym c.order_ok.ensures ∙ c.if-not-order_ok.false,
    )

pub returns : goal.returns
returns c =
    let a = c.args in
    let t = c.magnitude-size.ensures ∙ ap nat_abs (back w64 a.target c.ranges.target) in
    let e = back w32 a.counts.spills (search rules) in
    flip_goes (edition_of a.edition) a.direction a.parent.now a.counts a.target a.staged_counts a.staged.now a.table_counts a.table.now a.head.now a.lines a.summary.now (sym c.flip_ok.ensures ∙ c.if-not-flip_ok.false) _ t c.if-size-ge9223372036854775808.false (sym c.order_ok.ensures ∙ c.if-not-order_ok.false) (ap is_negative (sym e) ∙ sym c.is_negative_i32.ensures ∙ c.if-is_negative_i32.false) _ (c.usize_from_i32-rows.ensures ∙ ap nat_abs e) c.if-lines-rows.false _ c.is_spend.ensures _ c.seek_flip.ensures
