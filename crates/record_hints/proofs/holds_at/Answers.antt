-- `record_hints::holds_at` meets its contract: the key at the index that the hint names is compared.
use Prim.Native.Nat.{◌-◌}
use mathlib.Core.Path.{sym, ◌∙◌}
use native.Mathlib.Omega.{arith}
use Rattle.record_hints.proofs.HintLaws.{stands_at}
use Rattle.record_hints.proofs.holds_at.Goals as goal

pub returns : goal.returns
returns c =
    let a = c.args in
    λ e. (omega arith, stands_at a.size a.count a.key.now a.list.now c.requires.0 c.requires.2 (a.hint - 1) (omega arith) (sym c.key_is.ensures ∙ e))
