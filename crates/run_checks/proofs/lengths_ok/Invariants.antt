-- The parents before p pass.
use Rattle.std.proofs.Common.{◌≡◌, true}
use Rattle.call_steps.specs.State.{lengths_ok}
use Rattle.run_checks.proofs.lengths_ok.Given as goal

abbrev pub invariant-loop-p : goal.invariant-loop-p
invariant-loop-p l = lengths_ok l.p l.lengths ≡ true
