-- The loop has written the first j of the part; what is still to be read lies ahead of what is written.
use lib.ListN.{take, drop}
use Rattle.stores.proofs.LoopLaws.{Writing}
use Rattle.stores.proofs.move_bytes.Given as goal

abbrev pub invariant-loop-j : goal.invariant-loop-j
invariant-loop-j l = Writing l.initial.dst l.to (take l.count (drop l.from l.initial.dst)) l.dst l.j
