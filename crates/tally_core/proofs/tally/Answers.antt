-- The head is checked and counted, then the rows are.
use borrow.Author.Rules.{rules}
use mathlib.Core.Path.{sym, ap, ◌∙◌}
use native.Mathlib.Omega.{arith}
use lib.IntN.{nat_abs}
use lib.ListN.{take}
use lib.Seq.{length-take-le}
use mir.Syntax.{w32}
use Rattle.signed.specs.Sign.{is_negative}
use Rattle.signed.proofs.SignedLaws.{back}
use Rattle.entries.proofs.TallyLaws.{adds_up}
use Rattle.buffer_core.specs.Edition.{edition_of}
use Rattle.buffer_core.specs.Spills.{sources}
use Rattle.buffer_core.proofs.HeadLaws.{spills_below}
use Rattle.tally_core.proofs.TallyLaws.{tally_10, tally_11, tally_on}
use Rattle.tally_core.proofs.tally.Goals as goal

pub returns-then-not-order_ok : goal.returns-then-not-order_ok
returns-then-not-order_ok c =
    let a = c.args in
    tally_10 (edition_of a.edition) (sources a.parent.now a.staged.now a.staged_counts.count a.table.now a.table_counts.count) a.counts.spills (take a.counts.len a.head.now) (sym c.order_ok.ensures ∙ c.if-not-order_ok.true)

pub returns-then-is_negative_i32 : goal.returns-then-is_negative_i32
returns-then-is_negative_i32 c =
    let a = c.args in
    let e = back w32 a.counts.spills (search rules) in
    tally_11 (edition_of a.edition) (sources a.parent.now a.staged.now a.staged_counts.count a.table.now a.table_counts.count) a.counts.spills (take a.counts.len a.head.now) (sym c.order_ok.ensures ∙ c.if-not-order_ok.false) (ap is_negative (sym e) ∙ sym c.is_negative_i32.ensures ∙ c.if-is_negative_i32.true)

pub count_spills-requires : goal.count_spills-requires
count_spills-requires c =
    let a = c.args in
    let e = back w32 a.counts.spills (search rules) in
    let n = ap is_negative (sym e) ∙ sym c.is_negative_i32.ensures ∙ c.if-is_negative_i32.false in
    let zs = take a.counts.len a.head.now in
    let t = length-take-le a.counts.len a.head.now (omega (arith, c.requires.few, c.requires.long)) in
    let k = c.tally_entries.ensures in (
      c.requires.bounds.within,
      c.requires.table_bounds.within,
      spills_below a.counts.spills n (search rules) _ (c.usize_from_i32.ensures ∙ ap nat_abs e),
      rw k (omega (arith, c.requires.few, t, adds_up zs)),
      rw k (omega (arith, c.requires.few, t, adds_up zs)),
      rw k (omega (arith, c.requires.few, t, adds_up zs)),
      c.requires.apart,
    )

pub returns : goal.returns
returns c =
    let a = c.args in
    let e = back w32 a.counts.spills (search rules) in
    tally_on (edition_of a.edition) (sources a.parent.now a.staged.now a.staged_counts.count a.table.now a.table_counts.count) a.counts.spills (take a.counts.len a.head.now)
    (sym c.order_ok.ensures ∙ c.if-not-order_ok.false)
    (ap is_negative (sym e) ∙ sym c.is_negative_i32.ensures ∙ c.if-is_negative_i32.false)
    _ _ (c.usize_from_i32.ensures ∙ ap nat_abs e) c.tally_entries.ensures _ c.count_spills.ensures
