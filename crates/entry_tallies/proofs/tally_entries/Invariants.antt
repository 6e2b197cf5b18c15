-- What is left from the index on completes both counts.
use Rattle.std.proofs.Common.{◌≡◌, ◌+◌, ◌≤◌, take}
use lib.Seq.{slice}
use Rattle.signed.specs.Sign.{is_negative}
use Rattle.entries.specs.Tally.{is_above, how_many}
use Rattle.entry_tallies.proofs.tally_entries.Given as goal

abbrev pub invariant-loop-x : goal.invariant-loop-x
invariant-loop-x l =
    (l.unspent ≤ l.x-index) × (l.spent ≤ l.x-index)
    × (how_many is_above (take l.n l.xs) ≡ l.unspent + how_many is_above (slice l.x-index l.n l.xs))
    × (how_many is_negative (take l.n l.xs) ≡ l.spent + how_many is_negative (slice l.x-index l.n l.xs))
