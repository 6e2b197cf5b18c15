-- `row_edition::read_second_row` meets its contract: the header's number, the body, then what the row says of itself.
use mathlib.Core.Path.{◌≡◌, sym, ◌∙◌}
use Rattle.std.specs.Prelude.{Err}
use native.Mathlib.Omega.{arith}
use lib.IntN.{pos}
use borrow.Author.Rules.{rules}
use Rattle.vlq_core.proofs.ReadLaws.{read_next}
use Rattle.buffer_core.specs.Edition.{number_at}
use Rattle.row_edition.proofs.ReadingLaws.{second_cut, second_bad, second_own, second_other}
use Rattle.row_edition.proofs.read_second_row.Goals as goal

pub says_so-requires : goal.says_so-requires
says_so-requires c =
    let a = c.args in
    let q = read_next 32 a.row.now number_at _ _ (sym c.in_ok-coded.was ∙ c.get_coded_32.ensures) in
    (c.requires.1, omega arith)

pub returns-in_err-coded : goal.returns-in_err-coded
returns-in_err-coded c =
    let a = c.args in
    let f = c.requires.0 in
    let e : c.from_residual.result ≡ Err c.in_err-coded.field-0.0 = search rules in
    rw e (second_cut a.kind a.parent.now (pos a.number) a.row.now f _ c.get_coded_32.ensures _ c.in_err-coded.was _)

pub returns-in_err-n : goal.returns-in_err-n
returns-in_err-n c =
    let a = c.args in
    let e : c.from_residual-in_err-n.result ≡ Err c.in_err-n.field-0.0 = search rules in
    rw e (second_bad a.kind a.parent.now (pos a.number) a.row.now c.requires.0 _ c.get_coded_32.ensures _ _ c.in_ok-coded.was _ _ c.read_body.ensures _ c.in_err-n.was)

pub returns-then-says_so : goal.returns-then-says_so
returns-then-says_so c =
    let a = c.args in
    second_own a.kind a.parent.now (pos a.number) a.row.now c.requires.0 _ c.get_coded_32.ensures _ _ c.in_ok-coded.was _ _ c.read_body.ensures _ c.in_ok-n.was _ c.says_so.ensures c.if-says_so.true

pub returns-else-says_so : goal.returns-else-says_so
returns-else-says_so c =
    let a = c.args in
    second_other a.kind a.parent.now (pos a.number) a.row.now c.requires.0 _ c.get_coded_32.ensures _ _ c.in_ok-coded.was _ _ c.read_body.ensures _ c.in_ok-n.was _ c.says_so.ensures c.if-says_so.false
