-- Both lists take back their parts.
use Prim.Native.Nat.{◌+◌, ◌-◌}
use mathlib.Core.Path.{◌≡◌}
use native.Mathlib.Omega.{arith}
use Rattle.balance_places.proofs.PlaceLaws.{kept_placed}
use borrow.Author.Rules.{rules}
use Rattle.balance_places.proofs.change_tokens.Goals as goal

pub returns : goal.returns
returns c =
    let a = c.args in
    let w : a.i + 4096 - a.i ≡ 4096 = omega arith in
    let v : a.a + 128 - a.a ≡ 128 = omega arith in
    let k = c.change_kept in
    rw (w, v) (kept_placed k.result a.i a.a a.ids.now a.numbers.now _ _ _ (search rules) (search rules) (rw (w, v) at k.ensures))
