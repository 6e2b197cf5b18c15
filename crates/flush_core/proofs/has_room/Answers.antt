-- No more keys are new than are staged; else they are counted.
use Prim.Native.Nat.{◌-◌}
use Rattle.flush_core.proofs.FlushLaws.{new_fits}
use Rattle.flush_core.proofs.has_room.Goals as goal

pub returns-then-staged_count-free : goal.returns-then-staged_count-free
returns-then-staged_count-free c = new_fits c.args.edition _ _ _ _ _ c.if-staged_count-free.true
