-- What is left of the calls, put behind those written, makes of the output as it is now what all calls make of the output at entry.
use Rattle.std.proofs.Common.{◌-◌}
use Rattle.load.proofs.LoadLaws.{Writing}
use Rattle.load.proofs.write_calls.Given as goal

abbrev pub invariant-loop : goal.invariant-loop
invariant-loop l = Writing l.count l.fn.g l.fn.out (l.count - l.counter) l.source l.out l.at
