-- The two passes over the amounts, and the room for new tokens, are what the law asks for.
use native.Mathlib.Omega.{arith}
use Prim.Native.Nat.{ℕ, ◌+◌, ◌≤◌}
use mathlib.Core.Path.{◌≡◌}
use mathlib.Core.Bool.{true}
use Rattle.kept_tokens.proofs.PassLaws.{passes}
use Rattle.kept_tokens.proofs.none_refused.Lts.{then-adding, else-adding}
use Rattle.kept_tokens.proofs.none_refused.Goals as goal

pub returns : goal.returns
returns c =
    let h = c.if-room-n.false in
    let k = c.requires.1 in
    let f : (c.args.n ≤ 128) × (c.args.adding ≡ true → c.args.count + c.args.n ≤ 128) =
    elim c.if-adding.branch [
      | then-adding w ↦ let u = w.room-is in (omega arith, λ e. omega arith)
      | else-adding w ↦ let u = w.room-is in let t = w.if-adding.false in (omega arith, λ e. let z : ◌≡◌ {A = ℕ} 0 1 = cc in absurd (omega arith))
    ] in
    λ e table ids. passes c.args.adding ids c.args.amounts.now c.args.n c.args.count table c.args.sums.now c.requires.0 c.requires.1 f.0 f.1 (c.all_small.ensures (c.if-not-all_small.false)) (c.all_small-2.ensures e)
