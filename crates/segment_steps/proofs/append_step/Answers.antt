use native.Mathlib.Omega.{arith}
use Prim.Native.Nat.{◌+◌, ◌-◌}
use mathlib.Core.Path.{◌≡◌}
use mir.Syntax.{w64}
use Rattle.signed.proofs.SignedLaws.{back}
use Rattle.call_steps.proofs.StepLaws.{append_asks, append_law}
use Rattle.segment_steps.proofs.append_step.Reads as reads
use Rattle.segment_steps.proofs.append_step.Lts as lts
use Rattle.append_core.proofs.append.Reads as append_reads
use Rattle.call_steps.proofs.after_append.Reads as after_append_reads
use Rattle.call_steps.proofs.head_at.Reads as head_at_reads
use Rattle.call_steps.proofs.parent_id.Reads as parent_id_reads
use Rattle.call_steps.proofs.read_counts.Reads as read_counts_reads
use Rattle.segment_steps.proofs.append_step.Goals as goal

-- src/lib.rt:157:14

-- src/lib.rt:158:9

-- src/lib.rt:159:9

-- src/lib.rt:160:13

-- src/lib.rt:167:9

-- src/lib.rt:167:9

-- src/lib.rt:167:9

-- src/lib.rt:167:9

-- src/lib.rt:161:9

-- src/lib.rt:170:5

-- src/lib.rt:140:1

-- src/lib.rt:140:1

-- src/lib.rt:140:1

-- src/lib.rt:140:1

-- src/lib.rt:140:1

pub append-r-requires : goal.append-r-requires
append-r-requires c =
    let a = c.args in
    let w : c.head_at-a.result + 512 - c.head_at-a.result ≡ 512 = omega arith in
    append_asks a.numbers.now a.lengths.now a.spills.now a.counts a.p c.read_counts-h.result c.head_at-a.result (c.head_at-a.result + 512 - c.head_at-a.result) w a.kind a.staged.now c.requires.1 c.read_counts-h.ensures c.head_at-a.ensures.0

pub returns : goal.returns
returns c =
    let a = c.args in
    let w : c.head_at-a.result + 512 - c.head_at-a.result ≡ 512 = omega arith in
    append_law a.ids.now a.numbers.now a.lengths.now a.spills.now a.counts a.p a.kind a.number _ a.staged.now _ _ _ _ _ _ _ _ c.requires.1 c.parent_id-id.ensures c.read_counts-h.ensures c.head_at-a.ensures.0 w (back w64 a.number c.ranges.number) c.append-r.ensures c.after_append.ensures
