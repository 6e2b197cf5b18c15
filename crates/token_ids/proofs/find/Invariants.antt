-- What is left to search starts at place i.
use Rattle.std.proofs.Common.{◌≡◌, ◌-◌}
use Rattle.balance_tokens.specs.Tokens.{id_at, place_from, place_of}
use Rattle.token_ids.proofs.find.Given as goal

abbrev pub invariant-loop-i : goal.invariant-loop-i
invariant-loop-i l = place_of (id_at l.ids l.j) l.table l.count ≡ place_from (id_at l.ids l.j) l.table l.i (l.count - l.i)
