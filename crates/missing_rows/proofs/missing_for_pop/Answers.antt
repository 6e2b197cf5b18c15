-- `missing_rows::missing_for_pop` meets its contract: a pop reads the newest spill, where the head is empty.
use mathlib.Core.Path.{sym, ap, ◌∙◌}
use native.Mathlib.Omega.{arith}
use borrow.Author.Rules.{rules}
use lib.IntN.{nat_abs}
use mir.Syntax.{w32}
use Rattle.signed.specs.Sign.{is_negative}
use Rattle.signed.proofs.SignedLaws.{back}
use Rattle.buffer_core.specs.Edition.{edition_of}
use Rattle.buffer_core.proofs.HeadLaws.{spills_below}
use Rattle.missing_rows.proofs.CallLaws.{pop_25, pop_11, pop_head, pop_none, pop_goes, pop_facts}
use Rattle.missing_rows.proofs.missing_for_pop.Goals as goal

pub returns-then-not-pop_ok : goal.returns-then-not-pop_ok
returns-then-not-pop_ok c =
    let a = c.args in
    pop_25 (edition_of a.edition) a.kind a.parent.now a.counts a.staged_counts a.staged.now a.table_counts a.table.now a.deleted_counts a.deleted.now a.head.now (sym c.pop_ok.ensures ∙ c.if-not-pop_ok.true)

pub returns-then-is_negative_i32 : goal.returns-then-is_negative_i32
returns-then-is_negative_i32 c =
    let a = c.args in
    let e = back w32 a.counts.spills (search rules) in
    pop_11 (edition_of a.edition) a.kind a.parent.now a.counts a.staged_counts a.staged.now a.table_counts a.table.now a.deleted_counts a.deleted.now a.head.now (sym c.pop_ok.ensures ∙ c.if-not-pop_ok.false) (ap is_negative (sym e) ∙ sym c.is_negative_i32.ensures ∙ c.if-is_negative_i32.true)

pub returns-then-counts-gt0 : goal.returns-then-counts-gt0
returns-then-counts-gt0 c =
    let a = c.args in
    let e = back w32 a.counts.spills (search rules) in
    pop_head (edition_of a.edition) a.kind a.parent.now a.counts a.staged_counts a.staged.now a.table_counts a.table.now a.deleted_counts a.deleted.now a.head.now (sym c.pop_ok.ensures ∙ c.if-not-pop_ok.false) (ap is_negative (sym e) ∙ sym c.is_negative_i32.ensures ∙ c.if-is_negative_i32.false) c.if-counts-gt0.true

pub returns-then-rows-eq0 : goal.returns-then-rows-eq0
returns-then-rows-eq0 c =
    let a = c.args in
    let e = back w32 a.counts.spills (search rules) in
    pop_none (edition_of a.edition) a.kind a.parent.now a.counts a.staged_counts a.staged.now a.table_counts a.table.now a.deleted_counts a.deleted.now a.head.now (sym c.pop_ok.ensures ∙ c.if-not-pop_ok.false) (ap is_negative (sym e) ∙ sym c.is_negative_i32.ensures ∙ c.if-is_negative_i32.false) c.if-counts-gt0.false _ (c.usize_from_i32-rows.ensures ∙ ap nat_abs e) c.if-rows-eq0.true

pub ask-requires : goal.ask-requires
ask-requires c =
    let a = c.args in
    let e = back w32 a.counts.spills (search rules) in
    let n = ap is_negative (sym e) ∙ sym c.is_negative_i32.ensures ∙ c.if-is_negative_i32.false in
    let k = spills_below a.counts.spills n (search rules) _ (c.usize_from_i32-rows.ensures ∙ ap nat_abs e) in
    (pop_facts a.edition a.kind a.parent.now a.counts a.staged_counts a.staged.now a.table_counts a.table.now a.deleted_counts a.deleted.now a.head.now (sym c.pop_ok.ensures ∙ c.if-not-pop_ok.false), omega (arith, k))

pub returns : goal.returns
returns c =
    let a = c.args in
    let e = back w32 a.counts.spills (search rules) in
    pop_goes (edition_of a.edition) a.kind a.parent.now a.counts a.staged_counts a.staged.now a.table_counts a.table.now a.deleted_counts a.deleted.now a.head.now (sym c.pop_ok.ensures ∙ c.if-not-pop_ok.false) (ap is_negative (sym e) ∙ sym c.is_negative_i32.ensures ∙ c.if-is_negative_i32.false) c.if-counts-gt0.false _ (c.usize_from_i32-rows.ensures ∙ ap nat_abs e) c.if-rows-eq0.false _ c.ask.ensures
