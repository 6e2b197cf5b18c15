-- Ids and amounts are those of the tokens in bytes.
use Prim.Native.Nat.{◌+◌, ◌*◌, ◌-◌}
use native.Mathlib.Omega.{arith}
use mathlib.Core.Path.{◌≡◌, ◌∙◌}
use mir.Syntax.{w64}
use Rattle.signed.proofs.SignedLaws.{back}
use Rattle.driver_changes.proofs.TokenLaws.{few_law}
use Rattle.driver_changes.proofs.change_few.Goals as goal

pub returns : goal.returns
returns c =
    let a = c.args in
    let w : a.t + a.n * 32 - a.t ≡ a.n * 32 = omega arith in
    c.change_box.ensures
    ∙ few_law a.adding a.p a.nanos _ a.s.now a.t a.n _ _ a.ids.now a.numbers.now a.lengths.now c.requires.0 (back w64 a.nanos c.ranges.nanos) w c.read_amounts.ensures
