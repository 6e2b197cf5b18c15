-- `statement::statement_milli_ergs` meets its contract: the figure from the size, one law for each sign.
use mathlib.Core.Path.{sym, ap, ◌∙◌}
use borrow.Author.Rules.{sfits_of}
use lib.IntN.{neg_ℤ}
use mir.Syntax.{w64}
use Rattle.signed.specs.Sign.{is_negative}
use Rattle.signed.proofs.SignedLaws.{back}
use Rattle.statement.proofs.FigureLaws.{figure_above, figure_below, size_is}
use Rattle.statement.proofs.statement_milli_ergs.Goals as goal

pub returns-then-is_negative : goal.returns-then-is_negative
returns-then-is_negative c =
    let m = size_is c.args.nano_ergs c.ranges.nano_ergs _ c.magnitude-m.ensures in
    let sign = ap is_negative (sym (back w64 c.args.nano_ergs c.ranges.nano_ergs)) ∙ sym c.is_negative.ensures ∙ c.if-is_negative.true in
    back w64 c.negate.result (sfits_of c.negate.type_inv) ∙ c.negate.ensures
    ∙ ap neg_ℤ (back w64 c.i64_from_u64.result (sfits_of c.i64_from_u64.type_inv) ∙ c.i64_from_u64.ensures)
    ∙ figure_below c.args.nano_ergs _ m.0 sign

pub returns : goal.returns
returns c =
    let m = size_is c.args.nano_ergs c.ranges.nano_ergs _ c.magnitude-m.ensures in
    let sign = ap is_negative (sym (back w64 c.args.nano_ergs c.ranges.nano_ergs)) ∙ sym c.is_negative.ensures ∙ c.if-is_negative.false in
    back w64 c.i64_from_u64-2.result (sfits_of c.i64_from_u64-2.type_inv) ∙ c.i64_from_u64-2.ensures ∙ figure_above c.args.nano_ergs _ m.0 sign
