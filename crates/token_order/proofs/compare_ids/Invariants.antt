-- What is left of the two ids, from byte k on, decides.
use Rattle.std.proofs.Common.{◌≡◌, drop}
use Rattle.balance_tokens.specs.Tokens.{id_at}
use Rattle.address_order.specs.Order.{of_numbers, of_lists}
use Rattle.token_order.proofs.compare_ids.Given as goal

abbrev pub invariant-loop-k : goal.invariant-loop-k
invariant-loop-k l = of_lists of_numbers (id_at l.a l.i) (id_at l.b l.j) ≡ of_lists of_numbers (drop l.k (id_at l.a l.i)) (drop l.k (id_at l.b l.j))
