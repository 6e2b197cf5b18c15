-- The later amounts are moved up, then the place behind them is cleared: the one write of the definition.
use native.Mathlib.Omega.{arith}
use Prim.Native.Nat.{◌+◌, ◌-◌}
use mathlib.Core.Path.{◌∙◌}
use lib.IntN.{pos}
use Rattle.balance_tokens.proofs.TokenLaws.{close_writes}
use Rattle.token_changes.proofs.close_amounts.Goals as goal

pub returns : goal.returns
returns c =
    c.clear_numbers.ensures ∙ rw c.move_numbers.ensures (close_writes 1 (pos 0) c.args.at c.args.count c.args.sums.now c.args.at (c.args.at + 1) (c.args.count - 1 - c.args.at) (c.args.count - 1) (omega arith) (omega arith) (omega arith) (omega arith) (omega arith) (omega arith))
