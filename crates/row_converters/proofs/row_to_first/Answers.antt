-- `row_converters::row_to_first` meets its contract: 25, the header, the body, what the row says, then the room; one law for each way out.
use mathlib.Core.Path.{sym, ◌∙◌}
use native.Mathlib.Omega.{arith}
use mir.Syntax.{w32}
use mir.Facts.{to_z-of_z}
use Rattle.vlq_core.proofs.ReadLaws.{read_next}
use Rattle.index_types.specs.declared.RowEdition.TheVariants.{One, Two}
use Rattle.buffer_core.specs.Edition.{number_at}
use Rattle.row_converters.proofs.ConvertLaws.{as_told, too_long, header_refused, body_refused, of_others, of_these}
use Rattle.row_converters.proofs.row_to_first.Goals as goal

pub returns-then-row-gt-LONGEST_ROW : goal.returns-then-row-gt-LONGEST_ROW
returns-then-row-gt-LONGEST_ROW c = let a = c.args in too_long Two One a.parent.now a.kind a.number a.row.now a.out.now c.if-row-gt-LONGEST_ROW.true

pub says_so-requires : goal.says_so-requires
says_so-requires c =
    let a = c.args in
    let q = read_next 32 a.row.now number_at _ _ (sym c.in-Ok.is ∙ c.get_coded_32.ensures) in
    omega arith

pub returns-then-not-says_so : goal.returns-then-not-says_so
returns-then-not-says_so c =
    let a = c.args in
    of_others Two One a.parent.now a.kind a.number a.row.now a.out.now c.if-row-gt-LONGEST_ROW.false _ _ (sym c.get_coded_32.ensures ∙ c.in-Ok.is) (sym c.in-Ok-check_body.is ∙ c.check_body.ensures)
    (as_told Two a.parent.now a.kind (to_z-of_z {w = w32} c.ranges.number) a.row.now _ _ c.says_so.ensures ∙ c.if-not-says_so.true)

pub put_body-requires : goal.put_body-requires
put_body-requires c =
    let a = c.args in
    let q = read_next 32 a.row.now number_at _ _ (sym c.in-Ok.is ∙ c.get_coded_32.ensures) in
    q.1

pub returns-in-Err : goal.returns-in-Err
returns-in-Err c =
    let a = c.args in
    header_refused Two One a.parent.now a.kind a.number a.row.now a.out.now c.if-row-gt-LONGEST_ROW.false _ (sym c.get_coded_32.ensures ∙ c.in-Err.is)

pub returns-in-Err-check_body : goal.returns-in-Err-check_body
returns-in-Err-check_body c =
    let a = c.args in
    body_refused Two One a.parent.now a.kind a.number a.row.now a.out.now c.if-row-gt-LONGEST_ROW.false _ _ (sym c.get_coded_32.ensures ∙ c.in-Ok.is) _ (sym c.in-Err-check_body.is ∙ c.check_body.ensures)

pub returns-else-not-says_so : goal.returns-else-not-says_so
returns-else-not-says_so c =
    let a = c.args in
    c.put_body.ensures
    ∙ of_these Two One a.parent.now a.kind a.number a.row.now a.out.now c.if-row-gt-LONGEST_ROW.false _ _ (sym c.get_coded_32.ensures ∙ c.in-Ok.is) (sym c.in-Ok-check_body.is ∙ c.check_body.ensures)
    (as_told Two a.parent.now a.kind (to_z-of_z {w = w32} c.ranges.number) a.row.now _ _ c.says_so.ensures ∙ c.if-not-says_so.false)
