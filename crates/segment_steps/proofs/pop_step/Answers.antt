use native.Mathlib.Omega.{arith}
use Prim.Native.Nat.{◌+◌, ◌-◌}
use mathlib.Core.Path.{◌≡◌}
use Rattle.call_steps.proofs.StepLaws.{pop_asks, pop_law}
use Rattle.segment_steps.proofs.pop_step.Reads as reads
use Rattle.segment_steps.proofs.pop_step.Lts as lts
use Rattle.call_steps.proofs.after_pop.Reads as after_pop_reads
use Rattle.call_steps.proofs.head_at.Reads as head_at_reads
use Rattle.call_steps.proofs.parent_id.Reads as parent_id_reads
use Rattle.call_steps.proofs.read_counts.Reads as read_counts_reads
use Rattle.pop_core.proofs.pop.Reads as pop_reads
use Rattle.segment_steps.proofs.pop_step.Goals as goal

-- src/lib.rt:293:14

-- src/lib.rt:294:9

-- src/lib.rt:295:9

-- src/lib.rt:296:13

-- src/lib.rt:301:9

-- src/lib.rt:301:9

-- src/lib.rt:301:9

-- src/lib.rt:301:9

-- src/lib.rt:297:9

-- src/lib.rt:309:5

-- src/lib.rt:273:1

-- src/lib.rt:273:1

-- src/lib.rt:273:1

-- src/lib.rt:273:1

-- src/lib.rt:273:1

-- src/lib.rt:273:1

pub pop-r-requires : goal.pop-r-requires
pop-r-requires c =
    let a = c.args in
    let w : c.head_at-a.result + 512 - c.head_at-a.result ≡ 512 = omega arith in
    pop_asks a.numbers.now a.lengths.now a.spills.now a.counts a.p c.read_counts-h.result c.head_at-a.result (c.head_at-a.result + 512 - c.head_at-a.result) w a.kind a.staged.now a.table.now a.deleted.now c.requires.1 c.read_counts-h.ensures c.head_at-a.ensures.0

pub returns : goal.returns
returns c =
    let a = c.args in
    let w : c.head_at-a.result + 512 - c.head_at-a.result ≡ 512 = omega arith in
    pop_law a.ids.now a.numbers.now a.lengths.now a.spills.now a.counts a.p a.kind a.staged.now a.table.now a.deleted.now _ _ _ _ _ _ _ _ _ c.requires.1 c.parent_id-id.ensures c.read_counts-h.ensures c.head_at-a.ensures.0 w c.pop-r.ensures c.after_pop.ensures
