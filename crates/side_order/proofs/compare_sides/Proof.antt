-- What is left of both sides, behind the two cursors, decides.
use mathlib.Core.Path.{◌≡◌, sym, ◌∙◌}
use native.Mathlib.Omega.{arith}
use lib.ListN.{length, take}
use borrow.Author.Rules.{rules}
use Rattle.signed.proofs.SignedLaws.{back64}
use Rattle.buffer_core.specs.Edition.{edition_of}
use Rattle.buffer_core.specs.Spills.{sources}
use Rattle.address_order.specs.Order.{of_lists, of_signed}
use Rattle.side_order.specs.Side.{row_taken}
use Rattle.side_order.specs.Internal.{to_compare, Standing, side_entries}
use Rattle.side_order.proofs.FillLaws.{starts, all_to_compare, step_stands}
use Rattle.side_order.proofs.SideLaws.{both_end, first_ends, second_ends, both_go_on, fewer_left}
use Rattle.side_order.proofs.compare_sides.Statement.{statement}
use Rattle.side_order.proofs.compare_sides.Tie as tie

abbrev invariant_loop : tie.invariant-loop-kind
invariant_loop kind edition parent spills head len staged staged_count table table_count hints other_edition other_parent other_spills other_head other_len other_staged other_staged_count other_table other_table_count other_hints row₀ other_row₀ c₀ d₀ row other_row c d =
    let w = sources parent staged staged_count table table_count in
    let w' = sources other_parent other_staged other_staged_count other_table other_table_count in
    Standing edition kind w spills c row
    × Standing other_edition kind w' other_spills d other_row
    × (of_lists of_signed (side_entries edition kind w spills (take len head)) (side_entries other_edition kind w' other_spills (take other_len other_head))
    ≡ of_lists of_signed (to_compare (row_taken (edition_of edition) kind w) spills (take len head) c row) (to_compare (row_taken (edition_of other_edition) kind w') other_spills (take other_len other_head) d other_row))

abbrev decreases_loop : tie.decreases-loop-kind
decreases_loop kind edition parent spills head len staged staged_count table table_count hints other_edition other_parent other_spills other_head other_len other_staged other_staged_count other_table other_table_count other_hints row₀ other_row₀ c₀ d₀ row other_row c d =
    length (to_compare (row_taken (edition_of edition) kind (sources parent staged staged_count table table_count)) spills (take len head) c row)

loop-holds : tie.Need-loop-kind-init invariant_loop decreases_loop
loop-holds c =
    let s = c.before.before.before.before.before.before in
    let a = s.args in
    let w = sources a.parent.now a.staged.now a.staged_count a.table.now a.table_count in
    let w' = sources a.other_parent.now a.other_staged.now a.other_staged_count a.other_table.now a.other_table_count in
    let r = all_to_compare (row_taken (edition_of a.edition) a.kind w) a.spills (take a.len a.head.now) _ in
    let q = all_to_compare (row_taken (edition_of a.other_edition) a.kind w') a.other_spills (take a.other_len a.other_head.now) _ in
    (starts a.edition a.kind w a.spills _ (search rules) s.requires.0.taken, starts a.other_edition a.kind w' a.other_spills _ (search rules) s.requires.1.taken, (λ i. of_lists of_signed (sym r i) (sym q i)))

slice_aggregate_fill : tie.Need-slice_bounds-fill-end invariant_loop decreases_loop
slice_aggregate_fill c = search rules

fill_requires : tie.Need-fill-c-requires invariant_loop decreases_loop
fill_requires c κs = (c.before.before.before.before.before.before.before.before.requires.0.ready, c.before.loop-kind.invariant.0)

slice_aggregate_fill_2 : tie.Need-slice_bounds-fill-end-in-loop-kind invariant_loop decreases_loop
slice_aggregate_fill_2 c = search rules

fill_requires_2 : tie.Need-fill-d-requires invariant_loop decreases_loop
fill_requires_2 c κs = (c.before.before.before.before.before.before.before.before.before.before.before.requires.1.ready, c.before.before.before.before.loop-kind.invariant.1)

returns : tie.Need-returns-then-other_end-j invariant_loop decreases_loop
returns c =
    let x = c.before.before.before in
    let l = x.before.before.before.before.before.loop-kind in
    let s = x.before.before.before.before.before.before.before.before.before.before.before.before in
    let a = s.args in
    let w = sources a.parent.now a.staged.now a.staged_count a.table.now a.table_count in
    let w' = sources a.other_parent.now a.other_staged.now a.other_staged_count a.other_table.now a.other_table_count in
    sym (l.invariant.2 ∙ both_end a.kind a.edition w a.spills (take a.len a.head.now) a.other_edition w' a.other_spills (take a.other_len a.other_head.now) _ _ _ _ x.before.before.before.fill-c.ensures _ _ _ _ x.fill-d.ensures c.before.if-end-i.true c.if-other_end-j.true)

returns-2 : tie.Need-returns-then-end-i invariant_loop decreases_loop
returns-2 c =
    let x = c.before.before.before in
    let l = x.before.before.before.before.before.loop-kind in
    let s = x.before.before.before.before.before.before.before.before.before.before.before.before in
    let a = s.args in
    let w = sources a.parent.now a.staged.now a.staged_count a.table.now a.table_count in
    let w' = sources a.other_parent.now a.other_staged.now a.other_staged_count a.other_table.now a.other_table_count in
    sym (l.invariant.2 ∙ first_ends a.kind a.edition w a.spills (take a.len a.head.now) a.other_edition w' a.other_spills (take a.other_len a.other_head.now) _ _ _ _ x.before.before.before.fill-c.ensures _ _ _ _ x.fill-d.ensures c.before.if-end-i.true c.if-other_end-j.false)

returns-3 : tie.Need-returns-then-other_end-j-2 invariant_loop decreases_loop
returns-3 c =
    let x = c.before.before.before in
    let l = x.before.before.before.before.before.loop-kind in
    let s = x.before.before.before.before.before.before.before.before.before.before.before.before in
    let a = s.args in
    let w = sources a.parent.now a.staged.now a.staged_count a.table.now a.table_count in
    let w' = sources a.other_parent.now a.other_staged.now a.other_staged_count a.other_table.now a.other_table_count in
    sym (l.invariant.2 ∙ second_ends a.kind a.edition w a.spills (take a.len a.head.now) a.other_edition w' a.other_spills (take a.other_len a.other_head.now) _ _ _ _ x.before.before.before.fill-c.ensures _ _ _ _ x.fill-d.ensures c.before.if-end-i.false c.if-other_end-j-2.true)

mul_x : tie.Need-offset_bounds-row-i invariant_loop decreases_loop
mul_x c = search rules

array_copy_out_x : tie.Need-bounds-row-i invariant_loop decreases_loop
array_copy_out_x c = omega (arith, c.before.before.before.before.before.before.fill-c.ensures.standing.bounded, c.before.if-end-i.false)

mul_y : tie.Need-offset_bounds-other_row-j invariant_loop decreases_loop
mul_y c = search rules

array_copy_out_y : tie.Need-bounds-other_row-j invariant_loop decreases_loop
array_copy_out_y c = omega (arith, c.before.before.before.before.fill-d.ensures.standing.bounded, c.before.if-other_end-j-2.false)

compare_signed_requires : tie.Need-compare_signed-order-requires invariant_loop decreases_loop
compare_signed_requires c κs = search rules

enum_told : tie.Need-enum_told-1 invariant_loop decreases_loop
enum_told c = search rules

returns-4 : tie.Need-returns-in-Less invariant_loop decreases_loop
returns-4 c =
    let x = c.before.before.before.before.before.before.before in
    let l = x.before.before.before.before.before.loop-kind in
    let s = x.before.before.before.before.before.before.before.before.before.before.before.before in
    let a = s.args in
    let w = sources a.parent.now a.staged.now a.staged_count a.table.now a.table_count in
    let w' = sources a.other_parent.now a.other_staged.now a.other_staged_count a.other_table.now a.other_table_count in
    let g = back64 _ c.before.before.before.x-1.given in
    let h = back64 _ c.before.before.y-1.given in
    sym (l.invariant.2 ∙ both_go_on a.kind a.edition w a.spills (take a.len a.head.now) a.other_edition w' a.other_spills (take a.other_len a.other_head.now) _ _ _ _ x.before.before.before.fill-c.ensures _ _ _ _ x.fill-d.ensures c.before.before.before.before.before.if-end-i.false c.before.before.before.before.if-other_end-j-2.false _ (sym c.in-Less.is ∙ c.before.compare_signed-order.ensures ∙ (λ i. of_signed (g i) (h i))))

enum_told_2 : tie.Need-enum_told-in-Greater invariant_loop decreases_loop
enum_told_2 c = search rules

returns-5 : tie.Need-returns-in-Greater invariant_loop decreases_loop
returns-5 c =
    let x = c.before.before.before.before.before.before.before in
    let l = x.before.before.before.before.before.loop-kind in
    let s = x.before.before.before.before.before.before.before.before.before.before.before.before in
    let a = s.args in
    let w = sources a.parent.now a.staged.now a.staged_count a.table.now a.table_count in
    let w' = sources a.other_parent.now a.other_staged.now a.other_staged_count a.other_table.now a.other_table_count in
    let g = back64 _ c.before.before.before.x-1.given in
    let h = back64 _ c.before.before.y-1.given in
    sym (l.invariant.2 ∙ both_go_on a.kind a.edition w a.spills (take a.len a.head.now) a.other_edition w' a.other_spills (take a.other_len a.other_head.now) _ _ _ _ x.before.before.before.fill-c.ensures _ _ _ _ x.fill-d.ensures c.before.before.before.before.before.if-end-i.false c.before.before.before.before.if-other_end-j-2.false _ (sym c.in-Greater.is ∙ c.before.compare_signed-order.ensures ∙ (λ i. of_signed (g i) (h i))))

enum_told_3 : tie.Need-enum_told-in-Equal invariant_loop decreases_loop
enum_told_3 c = search rules

add_t47 : tie.Need-overflow_add-c invariant_loop decreases_loop
add_t47 c = search rules

add_t47_2 : tie.Need-overflow_add-d invariant_loop decreases_loop
add_t47_2 c = search rules

loop-less : tie.Need-loop-kind-smaller invariant_loop decreases_loop
loop-less c =
    let x = c.before.before.before.before.before.before.before in
    let l = x.before.before.before.before.before.loop-kind in
    let s = x.before.before.before.before.before.before.before.before.before.before.before.before in
    let a = s.args in
    let w = sources a.parent.now a.staged.now a.staged_count a.table.now a.table_count in
    let w' = sources a.other_parent.now a.other_staged.now a.other_staged_count a.other_table.now a.other_table_count in
    fewer_left a.kind a.edition w a.spills (take a.len a.head.now) a.other_edition w' a.other_spills (take a.other_len a.other_head.now) _ _ _ _ x.before.before.before.fill-c.ensures _ _ _ _ x.fill-d.ensures c.before.before.before.before.before.if-end-i.false

loop-again : tie.Need-loop-kind-preserved invariant_loop decreases_loop
loop-again c =
    let x = c.before.before.before.before.before.before.before in
    let l = x.before.before.before.before.before.loop-kind in
    let s = x.before.before.before.before.before.before.before.before.before.before.before.before in
    let a = s.args in
    let w = sources a.parent.now a.staged.now a.staged_count a.table.now a.table_count in
    let w' = sources a.other_parent.now a.other_staged.now a.other_staged_count a.other_table.now a.other_table_count in
    let g = back64 _ c.before.before.before.x-1.given in
    let h = back64 _ c.before.before.y-1.given in
    (step_stands a.edition a.kind w a.spills (take a.len a.head.now) _ _ x.before.before.before.fill-c.ensures.standing c.before.before.before.before.before.if-end-i.false, step_stands a.other_edition a.kind w' a.other_spills (take a.other_len a.other_head.now) _ _ x.fill-d.ensures.standing c.before.before.before.before.if-other_end-j-2.false, l.invariant.2 ∙ both_go_on a.kind a.edition w a.spills (take a.len a.head.now) a.other_edition w' a.other_spills (take a.other_len a.other_head.now) _ _ _ _ x.before.before.before.fill-c.ensures _ _ _ _ x.fill-d.ensures c.before.before.before.before.before.if-end-i.false c.before.before.before.before.if-other_end-j-2.false _ (sym c.in-Equal.is ∙ c.before.compare_signed-order.ensures ∙ (λ i. of_signed (g i) (h i))))

pub compare_sides_spec : {M : Type 1} → statement M
compare_sides_spec =
    tie.close
    (tie.spec
    invariant_loop
    decreases_loop
    loop-holds
    slice_aggregate_fill
    fill_requires
    slice_aggregate_fill_2
    fill_requires_2
    returns
    returns-2
    returns-3
    mul_x
    array_copy_out_x
    mul_y
    array_copy_out_y
    compare_signed_requires
    enum_told
    returns-4
    enum_told_2
    returns-5
    enum_told_3
    add_t47
    add_t47_2
    loop-less
    loop-again)
