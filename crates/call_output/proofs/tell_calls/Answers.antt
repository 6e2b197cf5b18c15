-- The lines are those of the printed calls, from the ordinal behind the calls made so far.
use Rattle.call_output.proofs.tell_calls.Goals as goal

pub returns : goal.returns
returns g c = record { written = c.print_lines-written.result; place = c.behind_calls.ensures; lines = c.print_lines-written.ensures }
