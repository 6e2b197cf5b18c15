-- The records that are left decide the answer.
use Rattle.std.proofs.Common.{◌*◌, ◌-◌, ◌≡◌, drop}
use Rattle.records.specs.Records.{keys}
use Rattle.records.specs.Find.{distinct}
use Rattle.distinct_keys.proofs.keys_differ_pairwise.Given as goal

abbrev pub invariant-loop-i : goal.invariant-loop-i
invariant-loop-i l = distinct (keys l.size l.count l.list) ≡ distinct (keys l.size (l.count - l.i) (drop (l.i * l.size) l.list))
