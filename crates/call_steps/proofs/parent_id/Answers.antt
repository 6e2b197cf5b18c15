use native.Mathlib.Omega.{arith}
use mathlib.Core.Path.{◌≡◌, ◌∙◌}
use Prim.Native.Nat.{ℕ, ◌+◌, ◌*◌, ◌-◌}
use lib.ListN.{replicate, length-replicate}
use Rattle.call_steps.proofs.StateLaws.{part_whole}
use Rattle.call_steps.proofs.parent_id.Reads as reads
use Rattle.call_steps.proofs.parent_id.Lts as lts
use Rattle.stores.proofs.copy_bytes.Reads as copy_bytes_reads
use Rattle.call_steps.proofs.parent_id.Goals as goal

-- src/lib.rt:68:13

-- src/lib.rt:69:13

-- src/lib.rt:70:24

-- src/lib.rt:70:36

-- src/lib.rt:70:36

-- src/lib.rt:70:36

-- src/lib.rt:70:5

-- src/lib.rt:63:1

pub returns : goal.returns
returns c =
    let e : c.args.p * 4128 + 32 - c.args.p * 4128 ≡ 32 = omega arith in
    c.copy_bytes.ensures ∙ part_whole (c.args.p * 4128) 32 (c.args.p * 4128 + 32 - c.args.p * 4128) c.args.ids.now (replicate 32 0) e (length-replicate {A = ℕ} 32 0) (omega (arith, c.requires))
