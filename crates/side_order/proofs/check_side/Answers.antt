-- The count is tested, then the rows.
use mathlib.Core.Path.{sym, ◌∙◌, ap}
use lib.IntN.{nat_abs}
use mir.Syntax.{w32}
use borrow.Author.Rules.{rules}
use Rattle.signed.specs.Sign.{is_negative}
use Rattle.signed.proofs.SignedLaws.{back}
use Rattle.buffer_core.specs.Edition.{edition_of}
use Rattle.buffer_core.specs.Spills.{sources}
use Rattle.side_order.proofs.SideLaws.{side_11, side_on}
use Rattle.side_order.proofs.check_side.Goals as goal

pub returns-then-is_negative_i32 : goal.returns-then-is_negative_i32
returns-then-is_negative_i32 c =
    λ zs.
    let a = c.args in
    side_11 (edition_of a.edition) a.kind (sources a.parent.now a.staged.now a.staged_count a.table.now a.table_count) a.spills zs (ap is_negative (sym (back w32 a.spills (search rules))) ∙ sym c.is_negative_i32.ensures ∙ c.if-is_negative_i32.true)

pub returns : goal.returns
returns c =
    λ zs.
    let a = c.args in
    let e = back w32 a.spills (search rules) in
    side_on (edition_of a.edition) a.kind (sources a.parent.now a.staged.now a.staged_count a.table.now a.table_count) a.spills zs (ap is_negative (sym e) ∙ sym c.is_negative_i32.ensures ∙ c.if-is_negative_i32.false) _ (c.usize_from_i32.ensures ∙ ap nat_abs e) _ c.check_rows.ensures
