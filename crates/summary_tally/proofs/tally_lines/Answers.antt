-- 10, 11, 36, then the lines on top of the head.
use mathlib.Core.Path.{sym, ap, ◌∙◌}
use native.Mathlib.Omega.{arith}
use lib.IntN.{nat_abs}
use lib.ListN.{take}
use lib.Seq.{length-take-le}
use mir.Syntax.{w32}
use Rattle.signed.specs.Sign.{is_negative}
use Rattle.signed.proofs.SignedLaws.{back}
use Rattle.entries.proofs.TallyLaws.{adds_up}
use Rattle.buffer_core.proofs.HeadLaws.{spills_below}
use Rattle.summary_tally.proofs.TallyLaws.{tally_10, tally_11, tally_36, tally_on}
use borrow.Author.Rules.{rules}
use Rattle.summary_tally.proofs.tally_lines.Goals as goal

pub returns-then-not-order_ok : goal.returns-then-not-order_ok
returns-then-not-order_ok c =
    let a = c.args in
    tally_10 a.counts.spills (take a.counts.len a.head.now) a.lines a.summary.now (sym c.order_ok.ensures ∙ c.if-not-order_ok.true)

pub returns-then-is_negative_i32 : goal.returns-then-is_negative_i32
returns-then-is_negative_i32 c =
    let a = c.args in
    let e = back w32 a.counts.spills (search rules) in
    tally_11 a.counts.spills (take a.counts.len a.head.now) a.lines a.summary.now (sym c.order_ok.ensures ∙ c.if-not-order_ok.false) (ap is_negative (sym e) ∙ sym c.is_negative_i32.ensures ∙ c.if-is_negative_i32.true)

pub returns-then-lines-rows : goal.returns-then-lines-rows
returns-then-lines-rows c =
    let a = c.args in
    let e = back w32 a.counts.spills (search rules) in
    tally_36 a.counts.spills (take a.counts.len a.head.now) a.lines a.summary.now (sym c.order_ok.ensures ∙ c.if-not-order_ok.false) (ap is_negative (sym e) ∙ sym c.is_negative_i32.ensures ∙ c.if-is_negative_i32.false)
    _ (c.usize_from_i32-rows.ensures ∙ ap nat_abs e) c.if-lines-rows.true

pub add_lines-requires : goal.add_lines-requires
add_lines-requires c =
    let a = c.args in
    let e = back w32 a.counts.spills (search rules) in
    let n = ap is_negative (sym e) ∙ sym c.is_negative_i32.ensures ∙ c.if-is_negative_i32.false in
    let zs = take a.counts.len a.head.now in
    let t = length-take-le a.counts.len a.head.now (omega (arith, c.requires.0, c.requires.1)) in
    let k = c.tally_entries.ensures in (
      omega (arith, c.requires.2, c.if-lines-rows.false),
      spills_below a.counts.spills n (search rules) _ (c.usize_from_i32-rows.ensures ∙ ap nat_abs e),
      rw k (omega (arith, c.requires.0, t, adds_up zs)),
      rw k (omega (arith, c.requires.0, t, adds_up zs)),
      rw k (omega (arith, c.requires.0, t, adds_up zs)),
    )

pub returns : goal.returns
returns c =
    let a = c.args in
    let e = back w32 a.counts.spills (search rules) in
    tally_on a.counts.spills (take a.counts.len a.head.now) a.lines a.summary.now (sym c.order_ok.ensures ∙ c.if-not-order_ok.false) (ap is_negative (sym e) ∙ sym c.is_negative_i32.ensures ∙ c.if-is_negative_i32.false)
    _ (c.usize_from_i32-rows.ensures ∙ ap nat_abs e) c.if-lines-rows.false _ c.tally_entries.ensures _ c.add_lines.ensures
