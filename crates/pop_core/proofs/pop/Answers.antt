-- `pop_core::pop` meets its contract: 11, then the last of the head, 19, or the newest row.
use mathlib.Core.Path.{sym, ap, ◌∙◌}
use lib.IntN.{nat_abs}
use mir.Syntax.{w32}
use Rattle.signed.specs.Sign.{is_negative}
use Rattle.signed.proofs.SignedLaws.{back, back64}
use Rattle.buffer_core.specs.Pop.{lists}
use Rattle.pop_core.proofs.PopLaws.{pop_11, pop_last, pop_19, pop_row}
use borrow.Author.Rules.{rules}
use Rattle.pop_core.proofs.pop.Goals as goal

pub returns-then-is_negative_i32 : goal.returns-then-is_negative_i32
returns-then-is_negative_i32 c =
    let a = c.args in
    let e = back w32 a.counts.spills (search rules) in
    pop_11 a.edition a.kind a.parent.now a.counts (lists a.staged_counts a.staged.now a.table_counts a.table.now a.deleted_counts a.deleted.now) a.head.now (ap is_negative (sym e) ∙ sym c.is_negative_i32.ensures ∙ c.if-is_negative_i32.true)

pub returns-then-len-gt0 : goal.returns-then-len-gt0
returns-then-len-gt0 c =
    let a = c.args in
    let e = back w32 a.counts.spills (search rules) in
    pop_last a.edition a.kind a.parent.now a.counts (lists a.staged_counts a.staged.now a.table_counts a.table.now a.deleted_counts a.deleted.now) a.head.now (ap is_negative (sym e) ∙ sym c.is_negative_i32.ensures ∙ c.if-is_negative_i32.false) c.if-len-gt0.true _ _ _ (back64 c.take_last-number.result c.take_last-number.type_inv ∙ c.take_last-number.ensures.0) e c.take_last-number.ensures.1

pub returns-then-rows-eq0 : goal.returns-then-rows-eq0
returns-then-rows-eq0 c =
    let a = c.args in
    let e = back w32 a.counts.spills (search rules) in
    pop_19 a.edition a.kind a.parent.now a.counts (lists a.staged_counts a.staged.now a.table_counts a.table.now a.deleted_counts a.deleted.now) a.head.now (ap is_negative (sym e) ∙ sym c.is_negative_i32.ensures ∙ c.if-is_negative_i32.false) c.if-len-gt0.false _ (c.usize_from_i32-rows.ensures ∙ ap nat_abs e) c.if-rows-eq0.true

pub returns : goal.returns
returns c =
    let a = c.args in
    let e = back w32 a.counts.spills (search rules) in
    pop_row a.edition a.kind a.parent.now a.counts (lists a.staged_counts a.staged.now a.table_counts a.table.now a.deleted_counts a.deleted.now) a.head.now (ap is_negative (sym e) ∙ sym c.is_negative_i32.ensures ∙ c.if-is_negative_i32.false) c.if-len-gt0.false _ (c.usize_from_i32-rows.ensures ∙ ap nat_abs e) c.if-rows-eq0.false _ c.unspill.ensures
