-- A number that is not above 0, one that is passed over and one too many leave the page; any other stands behind those put so far.
use mathlib.Core.Path.{sym, ap, ◌∙◌}
use mathlib.Core.Bool.{true}
use native.Mathlib.Omega.{arith}
use mir.Syntax.{w64}
use Rattle.signed.proofs.SignedLaws.{back}
use Rattle.entries.specs.Tally.{is_above}
use Rattle.page_entries.proofs.FillLaws.{one_passed, one_skipped, one_put}
use Rattle.page_entries.proofs.put_one.Goals as goal

pub returns-then-not-is_above : goal.returns-then-not-is_above
returns-then-not-is_above c =
    let a = c.args in
    one_passed a.wanted a.filling a.page.now c.requires a.x (ap is_above (sym (back w64 a.x c.ranges.x)) ∙ sym c.is_above.ensures ∙ c.if-not-is_above.true)

pub returns-then-skip-gt0 : goal.returns-then-skip-gt0
returns-then-skip-gt0 c =
    let a = c.args in
    one_skipped a.wanted a.filling a.page.now c.requires a.x ((ap is_above (sym (back w64 c.args.x c.ranges.x)) ∙ sym c.is_above.ensures ∙ c.if-not-is_above.false)) _ (omega arith)

pub returns : goal.returns
returns c =
    let a = c.args in
    one_put a.wanted a.filling a.page.now c.requires a.x ((ap is_above (sym (back w64 c.args.x c.ranges.x)) ∙ sym c.is_above.ensures ∙ c.if-not-is_above.false)) (omega arith) (omega arith) _ (back w64 a.x c.ranges.x)
