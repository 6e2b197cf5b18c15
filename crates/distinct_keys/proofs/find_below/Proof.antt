-- `distinct_keys::find_below` meets its contract. The invariant: an equal key is still ahead.
use Rattle.std.proofs.Common.{◌+◌, ◌-◌, ◌*◌, ◌%◌, take, drop, sym, refl, ◌∙◌, arith, rules}
use Rattle.stores.proofs.EqualLaws.{same_true}
use Rattle.records.proofs.TurnLaws.{below_mul}
use Rattle.distinct_keys.proofs.TreeLaws.{Walked, walk_start, walk_on, walk_rises, walk_none, walk_open, met_below, mod_two, among, not_among}
use Rattle.distinct_keys.proofs.find_below.Statement.{statement}
use Rattle.distinct_keys.proofs.find_below.Tie as tie

abbrev invariant_loop : tie.invariant-loop-cur
invariant_loop list size at i links roots start slot₀ rest₀ cur₀ slot rest cur = Walked size list roots i links (take 32 (drop at list)) slot rest cur

abbrev decreases_loop : tie.decreases-loop-cur
decreases_loop list size at i links roots start slot₀ rest₀ cur₀ slot rest cur = roots + 2 * i - slot

turns_requires : tie.Need-turns-rest-requires invariant_loop decreases_loop
turns_requires c κs = search rules

mul_cur : tie.Need-offset_bounds-links-slot invariant_loop decreases_loop
mul_cur c = omega arith

shared_slice_read_cur : tie.Need-bounds-links-slot invariant_loop decreases_loop
shared_slice_read_cur c = omega arith

cast_cur : tie.Need-overflow_cast-cur invariant_loop decreases_loop
cast_cur c = omega (arith, c.shared_slice_known-3-1.given c.before.before.before.before.args.start)

loop-holds : tie.Need-loop-cur-init invariant_loop decreases_loop
loop-holds c =
    let s = c.before.before.before.before in
    let a = s.args in
    walk_start a.size a.list.now a.roots a.i a.links.now _ s.requires.4 a.start _ _ s.requires.5 s.requires.6 c.before.turns-rest.ensures refl

sub_k : tie.Need-overflow_sub-k invariant_loop decreases_loop
sub_k c = omega arith

mul_same_keys : tie.Need-overflow_mul-k invariant_loop decreases_loop
mul_same_keys c =
    let s = c.before.before.before.before.before.before in
    let a = s.args in
    let l = c.before.loop-cur in
    omega (arith, below_mul a.size a.i (l.cur - 1) (met_below a.size _ _ _ _ _ s.requires.4 l.slot l.rest l.cur l.invariant c.loop-cur-test.true))

same_keys_requires : tie.Need-same_keys-requires invariant_loop decreases_loop
same_keys_requires c κs =
    let s = c.before.before.before.before.before.before in
    let a = s.args in
    let l = c.before.loop-cur in
    (omega (arith, below_mul a.size a.i (l.cur - 1) (met_below a.size _ _ _ _ _ s.requires.4 l.slot l.rest l.cur l.invariant c.loop-cur-test.true)), s.requires.1)

returns : tie.Need-returns-then-same_keys invariant_loop decreases_loop
returns c =
    let s = c.before.before.before.before.before.before.before.before in
    let a = s.args in
    let l = c.before.before.before.loop-cur in
    among a.size a.i _ a.list.now s.requires.0 (l.cur - 1) (met_below a.size _ _ _ _ _ s.requires.4 l.slot l.rest l.cur l.invariant c.before.before.loop-cur-test.true)
    (same_true _ _ (sym c.before.same_keys.ensures ∙ c.if-same_keys.true))

mul_slot : tie.Need-overflow_mul-slot invariant_loop decreases_loop
mul_slot c =
    let s = c.before.before.before.before.before.before.before.before in
    let l = c.before.before.before.loop-cur in
    omega (arith, met_below s.args.size _ _ _ _ _ s.requires.4 l.slot l.rest l.cur l.invariant c.before.before.loop-cur-test.true)

add_slot : tie.Need-overflow_add-slot invariant_loop decreases_loop
add_slot c =
    let s = c.before.before.before.before.before.before.before.before in
    let l = c.before.before.before.loop-cur in
    omega (arith, met_below s.args.size _ _ _ _ _ s.requires.4 l.slot l.rest l.cur l.invariant c.before.before.loop-cur-test.true)

add_slot_2 : tie.Need-overflow_add-slot-in-loop-cur invariant_loop decreases_loop
add_slot_2 c =
    let s = c.before.before.before.before.before.before.before.before in
    let l = c.before.before.before.loop-cur in
    omega (arith, met_below s.args.size _ _ _ _ _ s.requires.4 l.slot l.rest l.cur l.invariant c.before.before.loop-cur-test.true, mod_two l.rest)

mul_cur_2 : tie.Need-offset_bounds-links-slot-in-loop-cur invariant_loop decreases_loop
mul_cur_2 c =
    let s = c.before.before.before.before.before.before.before.before in
    let l = c.before.before.before.loop-cur in
    omega (arith, met_below s.args.size _ _ _ _ _ s.requires.4 l.slot l.rest l.cur l.invariant c.before.before.loop-cur-test.true, mod_two l.rest)

shared_slice_read_cur_2 : tie.Need-bounds-links-slot-in-loop-cur invariant_loop decreases_loop
shared_slice_read_cur_2 c =
    let s = c.before.before.before.before.before.before.before.before.before in
    let l = c.before.before.before.before.loop-cur in
    omega (arith, met_below s.args.size _ _ _ _ _ s.requires.4 l.slot l.rest l.cur l.invariant c.before.before.before.loop-cur-test.true, mod_two l.rest)

cast_cur_2 : tie.Need-overflow_cast-cur-in-loop-cur invariant_loop decreases_loop
cast_cur_2 c =
    let a = c.before.before.before.before.before.before.before.before.before.args in
    let l = c.before.before.before.before.loop-cur in
    omega (arith, c.shared_slice_known-in-loop-cur-1.given (a.roots + 2 * (l.cur - 1) + l.rest % 2))

loop-less : tie.Need-loop-cur-smaller invariant_loop decreases_loop
loop-less c =
    let s = c.before.before.before.before.before.before.before.before.before in
    let l = c.before.before.before.before.loop-cur in
    let t = c.before.before.before.loop-cur-test.true in
    omega (arith, walk_rises s.args.size _ _ _ _ _ s.requires.4 l.slot l.rest l.cur l.invariant t, l.invariant.within)

loop-again : tie.Need-loop-cur-preserved invariant_loop decreases_loop
loop-again c =
    let s = c.before.before.before.before.before.before.before.before.before in
    let l = c.before.before.before.before.loop-cur in
    walk_on s.args.size _ _ _ _ _ s.requires.4 l.slot l.rest l.cur l.invariant c.before.before.before.loop-cur-test.true (sym c.before.before.same_keys.ensures ∙ c.before.if-same_keys.false) _ _ refl refl

returns-2 : tie.Need-returns invariant_loop decreases_loop
returns-2 c =
    let s = c.before.before.before.before.before.before in
    let a = s.args in
    let l = c.before.loop-cur in (
      not_among a.size a.i _ a.list.now s.requires.0 (walk_none a.size _ _ _ _ _ s.requires.4 l.slot l.rest l.cur l.invariant (omega arith)),
      walk_open a.size _ _ _ _ _ s.requires.4 l.slot l.rest l.cur l.invariant (omega arith),
    )

pub find_below_spec : {M : Type 1} → statement M
find_below_spec =
    tie.close
    (tie.spec
    invariant_loop
    decreases_loop
    turns_requires
    mul_cur
    shared_slice_read_cur
    cast_cur
    loop-holds
    sub_k
    mul_same_keys
    same_keys_requires
    returns
    mul_slot
    add_slot
    add_slot_2
    mul_cur_2
    shared_slice_read_cur_2
    cast_cur_2
    loop-less
    loop-again
    returns-2)
