-- `append_core::append` meets its contract: 11, then 17, then the end of the head or a spill.
use mathlib.Core.Path.{sym, ap, ◌∙◌}
use lib.IntN.{nat_abs}
use lib.ListN.{set}
use mir.Syntax.{w32, w64}
use Rattle.signed.specs.Sign.{is_negative}
use Rattle.signed.proofs.SignedLaws.{back}
use Rattle.append_core.proofs.AppendLaws.{append_11, append_17, append_end, append_spill}
use borrow.Author.Rules.{rules}
use Rattle.append_core.proofs.append.Goals as goal

pub returns-then-is_negative_i32 : goal.returns-then-is_negative_i32
returns-then-is_negative_i32 c =
    let a = c.args in
    let e = back w32 a.counts.spills (search rules) in
    append_11 a.edition a.kind a.parent.now a.counts a.number a.staged_counts a.head.now a.staged.now (ap is_negative (sym e) ∙ sym c.is_negative_i32.ensures ∙ c.if-is_negative_i32.true)

pub returns-then-is_negative : goal.returns-then-is_negative
returns-then-is_negative c =
    let a = c.args in
    let e = back w32 a.counts.spills (search rules) in
    let v = back w64 a.number c.ranges.number in
    append_17 a.edition a.kind a.parent.now a.counts a.number a.staged_counts a.head.now a.staged.now (ap is_negative (sym e) ∙ sym c.is_negative_i32.ensures ∙ c.if-is_negative_i32.false) (ap is_negative (sym v) ∙ sym c.is_negative.ensures ∙ c.if-is_negative.true)

pub returns-then-len-lt-SEGMENT_THRESHOLD : goal.returns-then-len-lt-SEGMENT_THRESHOLD
returns-then-len-lt-SEGMENT_THRESHOLD c =
    let a = c.args in
    let e = back w32 a.counts.spills (search rules) in
    let v = back w64 a.number c.ranges.number in
    append_end a.edition a.kind a.parent.now a.counts a.number a.staged_counts a.head.now a.staged.now (ap is_negative (sym e) ∙ sym c.is_negative_i32.ensures ∙ c.if-is_negative_i32.false) (ap is_negative (sym v) ∙ sym c.is_negative.ensures ∙ c.if-is_negative.false) c.if-len-lt-SEGMENT_THRESHOLD.true _ _ e (c.put_number.ensures ∙ ap (set a.head.now a.counts.len) v)

pub returns : goal.returns
returns c =
    let a = c.args in
    let e = back w32 a.counts.spills (search rules) in
    let v = back w64 a.number c.ranges.number in
    append_spill a.edition a.kind a.parent.now a.counts a.number a.staged_counts a.head.now a.staged.now (ap is_negative (sym e) ∙ sym c.is_negative_i32.ensures ∙ c.if-is_negative_i32.false) (ap is_negative (sym v) ∙ sym c.is_negative.ensures ∙ c.if-is_negative.false) c.if-len-lt-SEGMENT_THRESHOLD.false _ _ (c.usize_from_i32.ensures ∙ ap nat_abs e) (rw v at c.spill.ensures)
