-- The lines left from answer i on, put behind those of the first i, make of the list as it is now what all lines make of the list at entry.
use Rattle.std.proofs.Common.{◌≡◌, ◌+◌, ◌*◌, ◌-◌, ◌≤◌, length}
use lib.Seq.{sets}
use Rattle.call_lines.specs.Lines.{lines_from}
use Rattle.call_lines.proofs.put_lines.Given as goal

abbrev pub invariant-loop-i : goal.invariant-loop-i
invariant-loop-i l =
    let all = lines_from l.first l.answers l.numbers 0 l.n in
    let left = lines_from l.first l.answers l.numbers l.i (l.n - l.i) in
    (l.at ≤ l.i * 64) × (length all ≡ l.at + length left) × (sets l.fn.out 0 all ≡ sets l.out l.at left)
