-- The best of the places below i stands at `best`.
use Rattle.token_order.specs.Internal.{Next}
use Rattle.token_order.proofs.next_place.Given as goal

abbrev pub invariant-loop-i : goal.invariant-loop-i
invariant-loop-i l = Next l.ids l.count l.started l.last l.i l.best
