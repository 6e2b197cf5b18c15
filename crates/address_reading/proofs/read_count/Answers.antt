-- `address_reading::read_count` meets its contract, by one law for each way out.
use mathlib.Core.Path.{sym, ◌∙◌}
use mir.Syntax.{w32}
use mir.Facts.{to_z-of_z}
use Rattle.segment_core.proofs.ListLaws.{length_next}
use Rattle.address_core.proofs.CountLaws.{count_3, count_5, count_24, count_ok, count_bad}
use borrow.Author.Rules.{rules}
use Rattle.address_reading.proofs.read_count.Goals as goal

pub returns-then-is_negative_i32 : goal.returns-then-is_negative_i32
returns-then-is_negative_i32 c = let e = sym c.get_i32.ensures ∙ c.in-Ok.is in
    let q = to_z-of_z {w = w32} (search rules) in
    count_3 _ _ c.in-Ok.n c.in-Ok.next e _ q (sym c.is_negative_i32.ensures ∙ c.if-is_negative_i32.true)

pub overflow_sub-row : goal.overflow_sub-row
overflow_sub-row c = let e = sym c.get_i32.ensures ∙ c.in-Ok.is in
    let q = to_z-of_z {w = w32} (search rules) in
    length_next _ _ c.in-Ok.n c.in-Ok.next e _ q

pub returns-then-row-next : goal.returns-then-row-next
returns-then-row-next c = let e = sym c.get_i32.ensures ∙ c.in-Ok.is in
    let q = to_z-of_z {w = w32} (search rules) in
    count_5 _ _ c.in-Ok.n c.in-Ok.next e _ q (sym c.is_negative_i32.ensures ∙ c.if-is_negative_i32.false) _ c.usize_from_i32-k.ensures c.if-row-next.true

pub returns-then-k-gt-TOKEN_LIMIT : goal.returns-then-k-gt-TOKEN_LIMIT
returns-then-k-gt-TOKEN_LIMIT c = let e = sym c.get_i32.ensures ∙ c.in-Ok.is in
    let q = to_z-of_z {w = w32} (search rules) in
    count_24 _ _ c.in-Ok.n c.in-Ok.next e _ q (sym c.is_negative_i32.ensures ∙ c.if-is_negative_i32.false) _ c.usize_from_i32-k.ensures c.if-row-next.false c.if-k-gt-TOKEN_LIMIT.true

pub returns-else-k-gt-TOKEN_LIMIT : goal.returns-else-k-gt-TOKEN_LIMIT
returns-else-k-gt-TOKEN_LIMIT c = let e = sym c.get_i32.ensures ∙ c.in-Ok.is in
    let q = to_z-of_z {w = w32} (search rules) in
    count_ok _ _ c.in-Ok.n c.in-Ok.next e _ q (sym c.is_negative_i32.ensures ∙ c.if-is_negative_i32.false) _ c.usize_from_i32-k.ensures c.if-row-next.false c.if-k-gt-TOKEN_LIMIT.false

pub returns-in-Err : goal.returns-in-Err
returns-in-Err c = count_bad _ _ _ (sym c.get_i32.ensures ∙ c.in-Err.is)
