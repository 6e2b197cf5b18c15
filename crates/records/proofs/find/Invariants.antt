-- The records that are left decide the answer.
use Rattle.std.proofs.Common.{◌*◌, ◌-◌, ◌≡◌, drop}
use Rattle.records.specs.Records.{keys}
use Rattle.records.specs.Find.{find_from, find_key}
use Rattle.records.proofs.find.Given as goal

abbrev pub invariant-loop-i : goal.invariant-loop-i
invariant-loop-i l = find_key l.key (keys l.size l.count l.list) ≡ find_from l.key l.i (keys l.size (l.count - l.i) (drop (l.i * l.size) l.list))
