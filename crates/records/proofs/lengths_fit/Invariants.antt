-- The records that are left decide the answer.
use Rattle.std.proofs.Common.{◌*◌, ◌-◌, ◌≡◌, drop}
use Rattle.records.specs.Records.{records}
use Rattle.records.specs.Checks.{lengths_ok}
use Rattle.records.proofs.lengths_fit.Given as goal

abbrev pub invariant-loop-i : goal.invariant-loop-i
invariant-loop-i l = lengths_ok l.limit (records l.size l.count l.list) ≡ lengths_ok l.limit (records l.size (l.count - l.i) (drop (l.i * l.size) l.list))
