-- In both loops what is left, from the last absolute value on, decides.
use Prim.Native.Nat.{◌*◌}
use mathlib.Core.Path.{◌≡◌}
use mathlib.Core.List.{map}
use lib.IntN.{nat_abs}
use lib.ListN.{take, drop}
use Rattle.entries.specs.Order.{order_ok}
use Rattle.entry_order.proofs.CappedLaws.{capped}
use Rattle.entry_order.proofs.order_ok.Given as goal

abbrev pub invariant-loop-a : goal.invariant-loop-a
invariant-loop-a l = order_ok (take l.n l.xs) ≡ capped l.prev (map nat_abs (drop (l.a-index * 4) (take l.n l.xs)))

abbrev pub invariant-loop-x : goal.invariant-loop-x
invariant-loop-x l = order_ok (take l.n l.xs) ≡ capped l.prev (map nat_abs (drop l.x-index l.rest))
