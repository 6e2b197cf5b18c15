-- What was put is handed over.
use Rattle.std.proofs.Common.{arith}
use Rattle.call_output.proofs.LineRoom.{end_handed}
use Rattle.call_output.proofs.print_end.Goals as goal

pub hand_end-requires : goal.hand_end-requires
hand_end-requires g c = end_handed _ _ _ _ _ _ _ _ c.put_end-end.ensures (omega arith)
