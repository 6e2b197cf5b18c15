-- 32 places from 4128 on hold 1, the others 0.
use Prim.Native.Nat.{ℕ, ◌+◌, ◌-◌, ◌≤◌}
use mathlib.Core.Path.{◌≡◌, refl, sym, subst, ◌∙◌}
use mathlib.Core.List.{List}
use native.Mathlib.Omega.{arith}
use lib.ListN.{length, set, replicate, length-replicate}
use Rattle.stores.proofs.LoopLaws.{Writing, writing_start, clear_turn, clear_end}
use Rattle.runner_start.specs.Start.{two_ids}
use Rattle.runner_start.proofs.parent_ids.Statement.{statement}
use Rattle.runner_start.proofs.parent_ids.Tie as tie

-- the places filled before place i
abbrev Filled : List ℕ → List ℕ → ℕ → Type 0
Filled d ids i = Writing d 4128 (replicate 32 1) ids (i - 4128)

filled_turn : (d ids : List ℕ) (i : ℕ) → 8256 ≡ length d → Filled d ids i → 4128 ≤ i → i + 1 ≤ 4160 → Filled d (set ids i 1) (i + 1)
filled_turn d ids i l f h k =
    let e : 4128 + (i - 4128) ≡ i = omega arith in
    let g : i - 4128 + 1 ≡ i + 1 - 4128 = omega arith in
    subst (λ (j : ℕ). Writing d 4128 (replicate 32 1) (set ids i 1) j) g
    (subst (λ (j : ℕ). Writing d 4128 (replicate 32 1) (set ids j 1) (i - 4128 + 1)) e
    (clear_turn d ids 4128 (i - 4128) 1 32 f (omega (arith, l)) (omega (arith, k))))

abbrev invariant_loop : tie.invariant-loop-i
invariant_loop ids₀ i₀ ids i = (4128 ≤ i) × (i ≤ 4160) × (8256 ≡ length ids₀) × Filled ids₀ ids i

abbrev decreases_loop : tie.decreases-loop-i
decreases_loop ids₀ i₀ ids i = 4160 - i

loop-holds : tie.Need-loop-i-init invariant_loop decreases_loop
loop-holds c = (omega arith, omega arith, refl, writing_start _ 4128 (replicate 32 1))

array_write_ids : tie.Need-bounds-ids-i invariant_loop decreases_loop
array_write_ids c = omega arith

add_i : tie.Need-overflow_step-i invariant_loop decreases_loop
add_i c = omega arith

loop-less : tie.Need-loop-i-smaller invariant_loop decreases_loop
loop-less c = omega arith

loop-again : tie.Need-loop-i-preserved invariant_loop decreases_loop
loop-again c =
    let v = c.before.loop-i.invariant in
    (omega arith, omega arith, v.2, filled_turn _ _ _ v.2 v.3 (omega arith) (omega arith))

returns : tie.Need-returns invariant_loop decreases_loop
unfolding two_ids
returns c =
    let v = c.before.loop-i.invariant in
    (v.2 ∙ sym v.3.0, clear_end _ _ 4128 _ 1 32 v.3 (omega arith) (omega arith))

pub parent_ids_spec : {M : Type 1} → statement M
parent_ids_spec =
    tie.close
    (tie.spec invariant_loop decreases_loop loop-holds array_write_ids add_i loop-less loop-again returns)
