-- A side that passed its checks has no negative count, and its entries are those that the comparison takes.
use mathlib.Core.Path.{◌∙◌, ap}
use lib.IntN.{nat_abs}
use mir.Syntax.{w32}
use mir.Val.{SFits}
use Rattle.signed.specs.Sign.{is_negative}
use Rattle.signed.proofs.SignedLaws.{back}
use Rattle.buffer_core.specs.Spills.{sources}
use Rattle.address_order.specs.Order.{of_lists, of_signed}
use Rattle.content_order.proofs.PassedLaws.{not_negative, side_ready, side_numbers}
use borrow.Author.Rules.{rules}
use Rattle.content_order.proofs.compare_kind.Goals as goal

pub usize_from_i32-requires : goal.usize_from_i32-requires
usize_from_i32-requires c =
    let a = c.args in
    let w = sources a.hash.now a.staged.now a.staged_count a.table.now a.table_count in
    let w' = sources a.other_hash.now a.other_staged.now a.other_staged_count a.other_table.now a.other_table_count in
    ap is_negative (back w32 a.counts.spills (search rules)) ∙ not_negative a.edition a.kind w a.counts a.head.now c.requires.0

pub usize_from_i32-requires-2 : goal.usize_from_i32-requires-2
usize_from_i32-requires-2 c =
    let a = c.args in
    let w = sources a.hash.now a.staged.now a.staged_count a.table.now a.table_count in
    let w' = sources a.other_hash.now a.other_staged.now a.other_staged_count a.other_table.now a.other_table_count in
    ap is_negative (back w32 a.other_counts.spills (search rules)) ∙ not_negative a.other_edition a.kind w' a.other_counts a.other_head.now c.requires.1

pub compare_sides-requires : goal.compare_sides-requires
compare_sides-requires c =
    let a = c.args in
    let w = sources a.hash.now a.staged.now a.staged_count a.table.now a.table_count in
    let w' = sources a.other_hash.now a.other_staged.now a.other_staged_count a.other_table.now a.other_table_count in
    let e : SFits w32 a.counts.spills = search rules in
    let f : SFits w32 a.other_counts.spills = search rules in
    (side_ready a.edition a.kind w a.counts a.head.now c.requires.0 e _ (c.usize_from_i32.ensures ∙ ap nat_abs (back w32 a.counts.spills e)), side_ready a.other_edition a.kind w' a.other_counts a.other_head.now c.requires.1 f _ (c.usize_from_i32-2.ensures ∙ ap nat_abs (back w32 a.other_counts.spills f)))

pub returns : goal.returns
returns c =
    let a = c.args in
    let w = sources a.hash.now a.staged.now a.staged_count a.table.now a.table_count in
    let w' = sources a.other_hash.now a.other_staged.now a.other_staged_count a.other_table.now a.other_table_count in
    let e = side_numbers a.edition a.kind w a.counts a.head.now c.requires.0 _ (c.usize_from_i32.ensures ∙ ap nat_abs (back w32 a.counts.spills (search rules))) in
    let f = side_numbers a.other_edition a.kind w' a.other_counts a.other_head.now c.requires.1 _ (c.usize_from_i32-2.ensures ∙ ap nat_abs (back w32 a.other_counts.spills (search rules))) in
    c.compare_sides.ensures ∙ (λ i. of_lists of_signed (e i) (f i))
