-- The invariant: the first i words of m are those of the block.
use Prim.Native.Nat.{ℕ, ◌+◌, ◌*◌, ◌-◌, ◌≤◌}
use mathlib.Core.Path.{◌≡◌, refl}
use native.Mathlib.Omega.{arith}
use borrow.Author.Rules.{rules}
use lib.ListN.{length, take, length-set}
use Rattle.blake2b_spec.specs.Blake2b.{tabulate, le64, block}
use Rattle.blake2b_spec.proofs.TabulateLaws.{tabulate_start, tabulate_turn, tabulate_end}
use Rattle.blake2b_core.proofs.blocks.block.Statement.{statement}
use Rattle.blake2b_core.proofs.blocks.block.Tie as tie

abbrev invariant_loop : tie.invariant-loop-i
invariant_loop s at m₀ i₀ m i = (i ≤ 16) × (length m ≡ 16) × (take i m ≡ tabulate (λ (k : ℕ). le64 s (at + k * 8)) i)

abbrev decreases_loop : tie.decreases-loop-i
decreases_loop s at m₀ i₀ m i = 16 - i

loop-holds : tie.Need-loop-i-init invariant_loop decreases_loop
loop-holds c = (omega arith, refl, tabulate_start _)

mul_load : tie.Need-overflow_mul-i invariant_loop decreases_loop
mul_load c = search rules

add_load : tie.Need-overflow_add-at invariant_loop decreases_loop
add_load c = search rules

load_requires : tie.Need-load-requires invariant_loop decreases_loop
load_requires c κs = search rules

mul_m : tie.Need-offset_bounds-m-i invariant_loop decreases_loop
mul_m c = search rules

array_write_m : tie.Need-bounds-m-i invariant_loop decreases_loop
array_write_m c = search rules

add_i : tie.Need-overflow_step-i invariant_loop decreases_loop
add_i c = search rules

loop-less : tie.Need-loop-i-smaller invariant_loop decreases_loop
loop-less c = search rules

loop-again : tie.Need-loop-i-preserved invariant_loop decreases_loop
loop-again c = (omega arith, simp length-set c.before.before.loop-i.invariant.1, tabulate_turn _ _ _ _ (omega arith) c.before.before.loop-i.invariant.2 c.load.ensures)

returns : tie.Need-returns invariant_loop decreases_loop
unfolding block
returns c = tabulate_end _ _ _ _ (omega arith) c.before.loop-i.invariant.1 c.before.loop-i.invariant.2

pub block_spec : {M : Type 1} → statement M
block_spec =
    tie.close
    (tie.spec
    invariant_loop
    decreases_loop
    loop-holds
    mul_load
    add_load
    load_requires
    mul_m
    array_write_m
    add_i
    loop-less
    loop-again
    returns)
