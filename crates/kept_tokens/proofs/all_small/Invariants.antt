-- What the numbers looked at so far say.
use Rattle.std.proofs.Common.{◌≡◌, true}
use Rattle.balance.specs.Parts.{Small}
use Rattle.kept_tokens.proofs.all_small.Given as goal

abbrev pub invariant-loop-x : goal.invariant-loop-x
invariant-loop-x l = l.small ≡ true → Small l.bound l.numbers l.x-index
