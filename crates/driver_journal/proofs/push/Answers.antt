-- The tokens are written first, the header behind them.
use native.Mathlib.Omega.{arith}
use Prim.Native.Nat.{◌+◌, ◌*◌, ◌-◌}
use mathlib.Core.Path.{◌≡◌}
use Rattle.driver_core.specs.Bytes.{tokens_told}
use Rattle.driver_journal.proofs.PushLaws.{pushed_used, pushed_bytes}
use Rattle.driver_journal.proofs.push.Goals as goal

pub returns : goal.returns
returns c =
    let a = c.args in
    let q = c.size_at-size.ensures in
    let w : a.at + c.size_at-size.result - (a.at + 17) ≡ tokens_told a.input.now a.at * 40 = omega (arith, q) in
    let v : a.at + 17 - a.at ≡ 17 = omega arith in
    let e = c.put_bytes-behind.ensures in
    let f = c.put_bytes.ensures in (
      pushed_used a.input.now a.at c.requires.0 a.used _ _ _ _ a.journal.now _ _ w v c.requires.1 e f,
      pushed_bytes a.input.now a.at c.requires.0 a.used _ _ _ _ a.journal.now _ _ w v c.requires.1 e f,
    )
