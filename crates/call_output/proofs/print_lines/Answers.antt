-- What was put is handed over.
use Rattle.std.proofs.Common.{arith}
use Rattle.call_output.proofs.LineRoom.{lines_handed}
use Rattle.call_output.proofs.print_lines.Goals as goal

pub hand_lines-requires : goal.hand_lines-requires
hand_lines-requires g c = lines_handed _ _ _ _ _ _ _ c.put_lines-end.ensures (omega arith)
