-- `segment_reading::read_counts` meets its contract, by one law for each way out.
use mathlib.Core.Path.{sym, ◌∙◌}
use mir.Syntax.{w32}
use mir.Facts.{to_z-of_z}
use Rattle.segment_core.proofs.CountLaws.{counts_bad_1, counts_bad_2, counts_6_b, counts_6_t, counts_ok}
use borrow.Author.Rules.{rules}
use Rattle.segment_reading.proofs.read_counts.Goals as goal

pub returns-then-is_negative_i32 : goal.returns-then-is_negative_i32
returns-then-is_negative_i32 c =
    let e = sym c.get_i32.ensures ∙ c.in-Ok.is in
    let f = sym c.get_i32-in-Ok.ensures ∙ c.in-Ok-get_i32.is in
    let p = to_z-of_z {w = w32} (search rules) in
    let q = to_z-of_z {w = w32} (search rules) in
    counts_6_b _ _ c.in-Ok.b c.in-Ok.n e c.in-Ok-get_i32.t c.in-Ok-get_i32.next f _ _ p q (sym c.is_negative_i32.ensures ∙ c.if-is_negative_i32.true)

pub returns-then-is_negative_i32-2 : goal.returns-then-is_negative_i32-2
returns-then-is_negative_i32-2 c =
    let e = sym c.get_i32.ensures ∙ c.in-Ok.is in
    let f = sym c.get_i32-in-Ok.ensures ∙ c.in-Ok-get_i32.is in
    let p = to_z-of_z {w = w32} (search rules) in
    let q = to_z-of_z {w = w32} (search rules) in
    counts_6_t _ _ c.in-Ok.b c.in-Ok.n e c.in-Ok-get_i32.t c.in-Ok-get_i32.next f _ _ p q (sym c.is_negative_i32.ensures ∙ c.if-is_negative_i32.false) (sym c.is_negative_i32-in-Ok-get_i32.ensures ∙ c.if-is_negative_i32-2.true)

pub returns-else-is_negative_i32-2 : goal.returns-else-is_negative_i32-2
returns-else-is_negative_i32-2 c =
    let e = sym c.get_i32.ensures ∙ c.in-Ok.is in
    let f = sym c.get_i32-in-Ok.ensures ∙ c.in-Ok-get_i32.is in
    let p = to_z-of_z {w = w32} (search rules) in
    let q = to_z-of_z {w = w32} (search rules) in
    counts_ok _ _ c.in-Ok.b c.in-Ok.n e c.in-Ok-get_i32.t c.in-Ok-get_i32.next f _ _ p q (sym c.is_negative_i32.ensures ∙ c.if-is_negative_i32.false) (sym c.is_negative_i32-in-Ok-get_i32.ensures ∙ c.if-is_negative_i32-2.false)

pub returns-in-Err-get_i32 : goal.returns-in-Err-get_i32
returns-in-Err-get_i32 c =
    counts_bad_2 _ _ c.in-Ok.b c.in-Ok.n (sym c.get_i32.ensures ∙ c.in-Ok.is) _ (sym c.get_i32-in-Ok.ensures ∙ c.in-Err-get_i32.is)

pub returns-in-Err : goal.returns-in-Err
returns-in-Err c = counts_bad_1 _ _ _ (sym c.get_i32.ensures ∙ c.in-Err.is)
