-- By the laws of the states between blocks.
use Rattle.std.proofs.Common.{◌≡◌, ◌/◌, refl, arith}
use Rattle.blake2b_spec.specs.Blake2b as spec
use Rattle.blake2b_core.proofs.BlockLaws.{absorbed_turn, final_block}
use Rattle.blake2b_core.proofs.state.Goals as goal

pub loop-i-init : goal.loop-i-init
unfolding spec.absorbed
loop-i-init c = c.start-h.ensures

pub compress-h-requires : goal.compress-h-requires
unfolding spec.sigma
compress-h-requires c = refl

pub loop-i-preserved : goal.loop-i-preserved
loop-i-preserved c = absorbed_turn _ _ _ _ _ _ c.loop-i.invariant c.block-m.ensures c.compress-h.ensures

pub compress-requires : goal.compress-requires
unfolding spec.sigma
compress-requires c = refl

pub returns : goal.returns
returns c =
    let full = c.saturating_sub-full.result / 128 in
    let e : c.loop-i.i ≡ full = omega arith in
    final_block _ _ _ _ _ full (omega arith) (rw e at c.loop-i.invariant) c.last_block-m.ensures c.compress.ensures
