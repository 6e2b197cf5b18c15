-- The invariant: the first i words of r are folded.
use Rattle.std.proofs.Common.{◌≡◌, ◌-◌, ◌≤◌, length, take, refl, arith, length-set, rules}
use Rattle.blake2b_spec.specs.Blake2b.{tabulate, fold}
use Rattle.blake2b_spec.proofs.TabulateLaws.{tabulate_start, tabulate_turn, tabulate_end}
use Rattle.blake2b_compression.proofs.fold.Statement.{statement}
use Rattle.blake2b_compression.proofs.fold.Tie as tie

abbrev invariant_loop : tie.invariant-loop-i
invariant_loop h v r₀ i₀ r i = (i ≤ 8) × (length r ≡ 8) × (take i r ≡ tabulate (fold h v) i)

abbrev decreases_loop : tie.decreases-loop-i
decreases_loop h v r₀ i₀ r i = 8 - i

loop-holds : tie.Need-loop-i-init invariant_loop decreases_loop
loop-holds c = (omega arith, refl, tabulate_start _)

mul_r : tie.Need-offset_bounds-h-i invariant_loop decreases_loop
mul_r c = search rules

element_copy_out_r : tie.Need-bounds-h-i invariant_loop decreases_loop
element_copy_out_r c = search rules

mul_r_2 : tie.Need-offset_bounds-v-i invariant_loop decreases_loop
mul_r_2 c = search rules

element_copy_out_r_2 : tie.Need-bounds-v-i invariant_loop decreases_loop
element_copy_out_r_2 c = search rules

add_r : tie.Need-overflow_add-r invariant_loop decreases_loop
add_r c = search rules

mul_r_3 : tie.Need-offset_bounds-v-i-in-loop-i invariant_loop decreases_loop
mul_r_3 c = search rules

element_copy_out_r_3 : tie.Need-bounds-v-i-in-loop-i invariant_loop decreases_loop
element_copy_out_r_3 c = search rules

mul_r_4 : tie.Need-offset_bounds-r-i invariant_loop decreases_loop
mul_r_4 c = search rules

array_write_r : tie.Need-bounds-r-i invariant_loop decreases_loop
array_write_r c = search rules

add_i : tie.Need-overflow_step-i invariant_loop decreases_loop
add_i c = search rules

loop-less : tie.Need-loop-i-smaller invariant_loop decreases_loop
loop-less c = search rules

loop-again : tie.Need-loop-i-preserved invariant_loop decreases_loop
unfolding fold
loop-again c =
    let l = c.before.before.before.before.loop-i in
    (omega arith, simp length-set l.invariant.1, tabulate_turn _ _ _ _ (omega arith) l.invariant.2 refl)

returns : tie.Need-returns invariant_loop decreases_loop
returns c = tabulate_end _ _ _ _ (omega arith) c.before.loop-i.invariant.1 c.before.loop-i.invariant.2

pub fold_spec : {M : Type 1} → statement M
fold_spec =
    tie.close
    (tie.spec
    invariant_loop
    decreases_loop
    loop-holds
    mul_r
    element_copy_out_r
    mul_r_2
    element_copy_out_r_2
    add_r
    mul_r_3
    element_copy_out_r_3
    mul_r_4
    array_write_r
    add_i
    loop-less
    loop-again
    returns)
