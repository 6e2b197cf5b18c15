use native.Mathlib.Omega.{arith}
use Prim.Native.Nat.{◌+◌, ◌-◌}
use mathlib.Core.Path.{◌≡◌}
use mir.Syntax.{w64}
use Rattle.signed.proofs.SignedLaws.{back}
use Rattle.call_steps.proofs.StepLaws.{flip_asks, flip_law}
use Rattle.segment_steps.proofs.flip_step.Reads as reads
use Rattle.segment_steps.proofs.flip_step.Lts as lts
use Rattle.call_steps.proofs.after_flip.Reads as after_flip_reads
use Rattle.call_steps.proofs.head_at.Reads as head_at_reads
use Rattle.call_steps.proofs.parent_id.Reads as parent_id_reads
use Rattle.call_steps.proofs.read_counts.Reads as read_counts_reads
use Rattle.flip_core.proofs.flip.Reads as flip_reads
use Rattle.segment_steps.proofs.flip_step.Goals as goal

-- src/lib.rt:217:14

-- src/lib.rt:218:9

-- src/lib.rt:219:9

-- src/lib.rt:220:13

-- src/lib.rt:230:9

-- src/lib.rt:230:9

-- src/lib.rt:230:9

-- src/lib.rt:230:9

-- src/lib.rt:221:9

-- src/lib.rt:232:5

-- src/lib.rt:198:1

-- src/lib.rt:198:1

-- src/lib.rt:198:1

pub flip-r-requires : goal.flip-r-requires
flip-r-requires c =
    let a = c.args in
    let w : c.head_at-a.result + 512 - c.head_at-a.result ≡ 512 = omega arith in
    flip_asks a.numbers.now a.lengths.now a.spills.now a.counts a.p c.read_counts-h.result c.head_at-a.result (c.head_at-a.result + 512 - c.head_at-a.result) w a.staged.now a.table.now c.requires.1 c.read_counts-h.ensures c.head_at-a.ensures.0

pub returns : goal.returns
returns c =
    let a = c.args in
    let w : c.head_at-a.result + 512 - c.head_at-a.result ≡ 512 = omega arith in
    flip_law a.ids.now a.numbers.now a.lengths.now a.spills.now a.counts a.p a.direction a.target _ a.staged.now a.table.now _ _ _ _ _ _ _ _ c.requires.1 c.parent_id-id.ensures c.read_counts-h.ensures c.head_at-a.ensures.0 w (back w64 a.target c.ranges.target) c.flip-r.ensures c.after_flip.ensures
