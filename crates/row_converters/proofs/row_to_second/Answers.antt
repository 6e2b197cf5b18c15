-- `row_converters::row_to_second` meets its contract: 25, the body, the kind, then the room; one law for each way out.
use mathlib.Core.Path.{refl, sym, ap, ◌∙◌}
use mathlib.Core.List.{◌++◌}
use lib.IntN.{ℤ}
use mir.Syntax.{w32}
use mir.Facts.{to_z-of_z}
use Rattle.index_types.specs.declared.RowEdition.TheVariants.{One, Two}
use Rattle.vlq_core.specs.Writing.{put_bytes}
use Rattle.row_fronts.specs.Fronts.{front}
use Rattle.row_converters.proofs.ConvertLaws.{too_long, body_refused, of_others, of_these}
use Rattle.row_converters.proofs.row_to_second.Goals as goal

pub returns-then-row-gt-ROW_LIMIT : goal.returns-then-row-gt-ROW_LIMIT
returns-then-row-gt-ROW_LIMIT c = let a = c.args in too_long One Two a.parent.now a.kind a.number a.row.now a.out.now c.if-row-gt-ROW_LIMIT.true

pub returns-then-not-is_kind : goal.returns-then-not-is_kind
returns-then-not-is_kind c =
    let a = c.args in
    of_others One Two a.parent.now a.kind a.number a.row.now a.out.now c.if-row-gt-ROW_LIMIT.false 0 0 refl (sym c.in-Ok.is ∙ c.check_body.ensures) (sym c.is_kind.ensures ∙ c.if-not-is_kind.true)

pub returns-in-Err : goal.returns-in-Err
returns-in-Err c =
    let a = c.args in
    body_refused One Two a.parent.now a.kind a.number a.row.now a.out.now c.if-row-gt-ROW_LIMIT.false 0 0 refl _ (sym c.in-Err.is ∙ c.check_body.ensures)

pub returns-else-not-is_kind : goal.returns-else-not-is_kind
returns-else-not-is_kind c =
    let a = c.args in
    c.put_second.ensures ∙ ap (λ (z : ℤ). put_bytes (front Two a.parent.now a.kind z ++ a.row.now) a.out.now 0) (to_z-of_z {w = w32} c.ranges.number)
    ∙ of_these One Two a.parent.now a.kind a.number a.row.now a.out.now c.if-row-gt-ROW_LIMIT.false 0 0 refl (sym c.in-Ok.is ∙ c.check_body.ensures) (sym c.is_kind.ensures ∙ c.if-not-is_kind.false)
