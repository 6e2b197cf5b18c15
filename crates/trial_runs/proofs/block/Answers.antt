-- By the laws of a call and of those that are left.
use Rattle.std.proofs.Common.{◌≡◌, ◌+◌, ◌-◌, ◌<◌, arith}
use Rattle.trial_runs.proofs.RunLaws.{block_start, block_counts, block_ready, block_ended, block_turn, block_end}
use Rattle.trial_runs.proofs.block.Goals as goal

pub loop-init : goal.loop-init
loop-init c =
    let a = c.args in
    let e : a.n - 0 ≡ a.n = omega arith in
    rw e (block_start a.n a.room a.number a.g _ a.standing.now _ tt c.requires)

pub next_call-d-requires : goal.next_call-d-requires
next_call-d-requires c = let a = c.args in block_counts a.n a.room a.number a.g _ a.standing.now _ _ _ _ _ c.loop.invariant (omega arith)

pub make-state-requires : goal.make-state-requires
make-state-requires c =
    let a = c.args in
    block_ready a.n a.room a.number a.g _ a.standing.now _ _ _ _ _ c.loop.invariant c.next_call-d.result c.next_call-d.ensures

pub returns-then-state-ne0 : goal.returns-then-state-ne0
returns-then-state-ne0 c =
    let a = c.args in
    let h : 0 < a.n - c.loop.counter = omega arith in
    block_ended a.n a.room a.number a.g _ a.standing.now _ _ _ _ _ c.loop.invariant h c.next_call-d.result c.next_call-d.ensures _ _ c.make-state.ensures c.if-state-ne0.true

pub loop-preserved : goal.loop-preserved
loop-preserved c =
    let a = c.args in
    let h : 0 < a.n - c.loop.counter = omega arith in
    let e : a.n - (c.loop.counter + 1) ≡ a.n - c.loop.counter - 1 = omega arith in
    rw e
    (block_turn a.n a.room a.number a.g _ a.standing.now _ _ _ _ _ c.loop.invariant h c.next_call-d.result c.next_call-d.ensures _ _ c.make-state.ensures _ tt c.make-state.auto.standing c.if-state-ne0.false)

pub returns : goal.returns
returns c = let a = c.args in block_end a.n a.room a.number a.g _ a.standing.now _ _ _ _ _ c.loop.invariant (omega arith)
