-- `distinct_keys::keys_differ_many` meets its contract. The invariant: the keys that are left decide.
use Rattle.std.proofs.Common.{◌≡◌, ◌+◌, ◌*◌, ◌≤◌, length, drop, sym, refl, ◌∙◌, arith, length-drop, drop-drop, rules}
use Rattle.records.specs.Records.{keys}
use Rattle.records.specs.Find.{distinct}
use Rattle.records.proofs.TurnLaws.{rest_part}
use Rattle.distinct_keys.proofs.TreeLaws.{left_block, whole_block}
use Rattle.distinct_keys.proofs.keys_differ_many.Statement.{statement}
use Rattle.distinct_keys.proofs.keys_differ_many.Tie as tie

abbrev invariant_loop : tie.invariant-loop-left
invariant_loop list size count left₀ at₀ left at =
    (at + left * size ≤ length list) × (distinct (keys size count list) ≡ distinct (keys size left (drop at list)))

abbrev decreases_loop : tie.decreases-loop-left
decreases_loop list size count left₀ at₀ left at = left

loop-holds : tie.Need-loop-left-init invariant_loop decreases_loop
loop-holds c = (omega arith, refl)

sub_block_differs : tie.Need-slice_bounds-block_differs-count invariant_loop decreases_loop
sub_block_differs c = omega arith

part_block_differs_start : tie.Need-slice_bounds-block_differs-start invariant_loop decreases_loop
part_block_differs_start c = search rules

part_block_differs_end : tie.Need-slice_bounds-block_differs-end invariant_loop decreases_loop
part_block_differs_end c = search rules

block_differs_requires : tie.Need-block_differs-requires invariant_loop decreases_loop
block_differs_requires c κs =
    let s = c.before.before.before.before in
    (s.requires.0, rw (rest_part, length-drop) (omega arith), omega arith, omega arith)

returns : tie.Need-returns-then-not-block_differs invariant_loop decreases_loop
returns c =
    let l = c.before.before.before.before.loop-left in
    sym (l.invariant.1 ∙ (rw rest_part at (c.before.block_differs.ensures.1 c.if-not-block_differs.true)))

sub_left : tie.Need-overflow_sub-left invariant_loop decreases_loop
sub_left c = omega arith

mul_at : tie.Need-overflow_mul-at invariant_loop decreases_loop
mul_at c =
    let a = c.before.before.before.before.before.before.args in
    omega (arith, left_block a.size c.before.before.before.before.loop-left.left (omega arith))

add_at : tie.Need-overflow_add-at invariant_loop decreases_loop
add_at c =
    let a = c.before.before.before.before.before.before.args in
    omega (arith, left_block a.size c.before.before.before.before.loop-left.left (omega arith))

loop-less : tie.Need-loop-left-smaller invariant_loop decreases_loop
loop-less c = omega arith

loop-again : tie.Need-loop-left-preserved invariant_loop decreases_loop
loop-again c =
    let a = c.before.before.before.before.before.before.args in
    let l = c.before.before.before.before.loop-left in
    let f = rw rest_part at (c.before.block_differs.ensures.0 c.if-not-block_differs.false) in
    (omega (arith, left_block a.size l.left (omega arith)), l.invariant.1 ∙ f ∙ rw drop-drop)

sub_keys_differ_short : tie.Need-slice_bounds-keys_differ_short-count invariant_loop decreases_loop
sub_keys_differ_short c = omega arith

part_keys_differ_short_start : tie.Need-slice_bounds-keys_differ_short-start invariant_loop decreases_loop
part_keys_differ_short_start c = search rules

part_keys_differ_short_end : tie.Need-slice_bounds-keys_differ_short-end invariant_loop decreases_loop
part_keys_differ_short_end c = search rules

keys_differ_short_requires : tie.Need-keys_differ_short-requires invariant_loop decreases_loop
keys_differ_short_requires c κs =
    let s = c.before.before.before.before.before in
    (s.requires.0, rw (rest_part, length-drop) (omega arith), omega arith)

returns-2 : tie.Need-returns-then-left-le2048 invariant_loop decreases_loop
returns-2 c =
    let l = c.before.before.before.before.loop-left in
    (rw rest_part at c.keys_differ_short.ensures) ∙ sym l.invariant.1

sub_block_differs_2 : tie.Need-slice_bounds-block_differs-count-2 invariant_loop decreases_loop
sub_block_differs_2 c = omega arith

part_block_differs_start_2 : tie.Need-slice_bounds-block_differs-start-2 invariant_loop decreases_loop
part_block_differs_start_2 c = search rules

part_block_differs_end_2 : tie.Need-slice_bounds-block_differs-end-2 invariant_loop decreases_loop
part_block_differs_end_2 c = search rules

block_differs_requires_2 : tie.Need-block_differs-requires-2 invariant_loop decreases_loop
block_differs_requires_2 c κs =
    let s = c.before.before.before.before.before in
    (s.requires.0, rw (rest_part, length-drop) (omega arith), omega arith, omega arith)

returns-3 : tie.Need-returns invariant_loop decreases_loop
returns-3 c =
    let a = c.before.before.before.before.before.before.args in
    let l = c.before.before.before.before.loop-left in
    whole_block a.size l.left (drop l.at a.list.now) _ (rw rest_part at c.block_differs-2.ensures) ∙ sym l.invariant.1

pub keys_differ_many_spec : {M : Type 1} → statement M
keys_differ_many_spec =
    tie.close
    (tie.spec
    invariant_loop
    decreases_loop
    loop-holds
    sub_block_differs
    part_block_differs_start
    part_block_differs_end
    block_differs_requires
    returns
    sub_left
    mul_at
    add_at
    loop-less
    loop-again
    sub_keys_differ_short
    part_keys_differ_short_start
    part_keys_differ_short_end
    keys_differ_short_requires
    returns-2
    sub_block_differs_2
    part_block_differs_start_2
    part_block_differs_end_2
    block_differs_requires_2
    returns-3)
