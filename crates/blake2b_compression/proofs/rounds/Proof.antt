-- The invariant: v is the vector after i rounds.
use Rattle.std.proofs.Common.{◌≡◌, ◌-◌, ◌≤◌, refl, arith, rules}
use Rattle.blake2b_spec.specs.Blake2b as spec
use Rattle.blake2b_compression.proofs.CompressionLaws.{rounds_turn, rounds_end}
use Rattle.blake2b_compression.proofs.rounds.Statement.{statement}
use Rattle.blake2b_compression.proofs.rounds.Tie as tie

abbrev invariant_loop : tie.invariant-loop-i
invariant_loop v₀ m sigma i₀ v i = (i ≤ 12) × (v ≡ spec.rounds v₀ m i)

abbrev decreases_loop : tie.decreases-loop-i
decreases_loop v₀ m sigma i₀ v i = 12 - i

loop-holds : tie.Need-loop-i-init invariant_loop decreases_loop
unfolding spec.rounds
loop-holds c = (omega arith, refl)

mul_base : tie.Need-overflow_mul-base invariant_loop decreases_loop
mul_base c = search rules

columns_requires : tie.Need-columns-requires invariant_loop decreases_loop
columns_requires c κs = search rules

diagonals_requires : tie.Need-diagonals-requires invariant_loop decreases_loop
diagonals_requires c κs = search rules

add_i : tie.Need-overflow_step-i invariant_loop decreases_loop
add_i c = search rules

loop-less : tie.Need-loop-i-smaller invariant_loop decreases_loop
loop-less c = search rules

loop-again : tie.Need-loop-i-preserved invariant_loop decreases_loop
loop-again c = (omega arith, rounds_turn _ _ _ _ _ _ c.before.before.before.before.before.loop-i.invariant.1 c.before.before.columns.ensures c.diagonals.ensures)

returns : tie.Need-returns invariant_loop decreases_loop
returns c = rounds_end _ _ _ c.before.loop-i.i (omega arith) c.before.loop-i.invariant.1

pub rounds_spec : {M : Type 1} → statement M
rounds_spec =
    tie.close
    (tie.spec
    invariant_loop
    decreases_loop
    loop-holds
    mul_base
    columns_requires
    diagonals_requires
    add_i
    loop-less
    loop-again
    returns)
