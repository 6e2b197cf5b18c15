-- `segment_reading::read_length` meets its contract, by one law for each way out.
use mathlib.Core.Path.{sym, ◌∙◌}
use mir.Syntax.{w32}
use mir.Facts.{to_z-of_z}
use Rattle.segment_core.proofs.ListLaws.{length_next, length_3, length_4, length_5, length_ok, length_bad}
use borrow.Author.Rules.{rules}
use Rattle.segment_reading.proofs.read_length.Goals as goal

pub returns-then-is_negative_i32 : goal.returns-then-is_negative_i32
returns-then-is_negative_i32 c =
    let e = sym c.get_i32.ensures ∙ c.in-Ok.is in
    length_3 _ _ c.in-Ok.n c.in-Ok.next e _ (to_z-of_z {w = w32} (search rules)) (sym c.is_negative_i32.ensures ∙ c.if-is_negative_i32.true)

pub returns-then-k-gt-SEGMENT_THRESHOLD : goal.returns-then-k-gt-SEGMENT_THRESHOLD
returns-then-k-gt-SEGMENT_THRESHOLD c =
    let e = sym c.get_i32.ensures ∙ c.in-Ok.is in
    length_4 _ _ c.in-Ok.n c.in-Ok.next e _ (to_z-of_z {w = w32} (search rules)) (sym c.is_negative_i32.ensures ∙ c.if-is_negative_i32.false) _ c.usize_from_i32-k.ensures c.if-k-gt-SEGMENT_THRESHOLD.true

pub overflow_sub-row : goal.overflow_sub-row
overflow_sub-row c =
    let e = sym c.get_i32.ensures ∙ c.in-Ok.is in
    length_next _ _ c.in-Ok.n c.in-Ok.next e _ (to_z-of_z {w = w32} (search rules))

pub returns-then-row-next : goal.returns-then-row-next
returns-then-row-next c =
    let e = sym c.get_i32.ensures ∙ c.in-Ok.is in
    length_5 _ _ c.in-Ok.n c.in-Ok.next e _ (to_z-of_z {w = w32} (search rules)) (sym c.is_negative_i32.ensures ∙ c.if-is_negative_i32.false) _ c.usize_from_i32-k.ensures c.if-k-gt-SEGMENT_THRESHOLD.false c.if-row-next.true

pub returns-else-row-next : goal.returns-else-row-next
returns-else-row-next c =
    let e = sym c.get_i32.ensures ∙ c.in-Ok.is in
    length_ok _ _ c.in-Ok.n c.in-Ok.next e _ (to_z-of_z {w = w32} (search rules)) (sym c.is_negative_i32.ensures ∙ c.if-is_negative_i32.false) _ c.usize_from_i32-k.ensures c.if-k-gt-SEGMENT_THRESHOLD.false c.if-row-next.false

pub returns-in-Err : goal.returns-in-Err
returns-in-Err c = length_bad _ _ _ (sym c.get_i32.ensures ∙ c.in-Err.is)
