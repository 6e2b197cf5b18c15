-- The later ids are moved up, then the place behind them is cleared: the one write of the definition.
use native.Mathlib.Omega.{arith}
use Prim.Native.Nat.{◌+◌, ◌-◌, ◌*◌}
use mathlib.Core.Path.{◌∙◌}
use Rattle.balance_tokens.proofs.TokenLaws.{close_writes}
use Rattle.token_ids.proofs.close_ids.Goals as goal

pub returns : goal.returns
returns c =
    c.clear_bytes.ensures ∙ rw c.move_bytes.ensures (close_writes 32 0 c.args.at c.args.count c.args.table.now (c.args.at * 32) ((c.args.at + 1) * 32) ((c.args.count - 1 - c.args.at) * 32) ((c.args.count - 1) * 32) (omega arith) (omega arith) (omega arith) (omega arith) (omega arith) (omega arith))
