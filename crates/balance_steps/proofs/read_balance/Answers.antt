use native.Mathlib.Omega.{arith}
use Prim.Native.Nat.{ℕ, ◌+◌, ◌*◌, ◌-◌}
use mathlib.Core.Path.{◌≡◌, ◌∙◌}
use lib.IntN.{ℤ, pos}
use lib.ListN.{replicate, length-replicate}
use Rattle.signed.proofs.SignedLaws.{back64}
use Rattle.call_steps.proofs.StateLaws.{part_whole, balanced}
use Rattle.balance_steps.proofs.read_balance.Reads as reads
use Rattle.balance_steps.proofs.read_balance.Lts as lts
use Rattle.stores.proofs.copy_bytes.Reads as copy_bytes_reads
use Rattle.stores.proofs.copy_numbers.Reads as copy_numbers_reads
use Rattle.balance_steps.proofs.read_balance.Goals as goal

-- src/lib.rt:370:13

-- src/lib.rt:370:13

-- src/lib.rt:371:13

-- src/lib.rt:372:24

-- src/lib.rt:372:43

-- src/lib.rt:372:43

-- src/lib.rt:372:43

-- src/lib.rt:372:5

-- src/lib.rt:373:13

-- src/lib.rt:373:13

-- src/lib.rt:374:13

-- src/lib.rt:375:26

-- src/lib.rt:375:43

-- src/lib.rt:375:43

-- src/lib.rt:375:43

-- src/lib.rt:375:43

-- src/lib.rt:375:5

-- src/lib.rt:376:25

-- src/lib.rt:376:25

-- src/lib.rt:376:17

-- src/lib.rt:376:17

-- src/lib.rt:377:25

-- src/lib.rt:377:25

-- src/lib.rt:377:17

-- src/lib.rt:377:17

-- src/lib.rt:364:1

pub returns : goal.returns
returns c =
    let a = c.args in
    let i : ℕ = a.p * 4128 + 32 in
    let j : ℕ = a.p * 1153 + 1024 in
    let w : i + 4096 - i ≡ 4096 = omega arith in
    let v : j + 128 - j ≡ 128 = omega arith in
    balanced a.p a.ids.now a.numbers.now a.lengths.now
    (c.copy_bytes.ensures ∙ part_whole i 4096 (i + 4096 - i) a.ids.now (replicate 4096 0) w (length-replicate {A = ℕ} 4096 0) (omega (arith, c.requires.0)))
    (c.copy_numbers.ensures ∙ part_whole j 128 (j + 128 - j) a.numbers.now (replicate 128 (pos 0)) v (length-replicate {A = ℤ} 128 (pos 0)) (omega (arith, c.requires.1)))
    (back64 _ c.nanos-1.given)
