-- Whatever reading the rest into the buffers as they are now gives, reading all gives.
use Rattle.std.proofs.Common.{◌-◌, ℕ, ℤ, List}
use Rattle.segment_core.specs.Answers.{Part}
use Rattle.address_core.specs.Reading.{tokens_at}
use Rattle.address_core.specs.Internal.{TokensInto}
use Rattle.address_reading.proofs.read_tokens.Given as goal

abbrev pub invariant-loop-i : goal.invariant-loop-i
invariant-loop-i l =
    (r : Part) (b : List ℕ) (c : List ℤ) → TokensInto l.k (tokens_at (l.k - l.i) l.row l.next) l.i l.ids l.amounts r b c
    → TokensInto l.k (tokens_at l.k l.row l.at) 0 l.fn.ids l.fn.amounts r b c
