use Rattle.std.proofs.Common.{◌≤◌, ◌≡◌, length}
use Rattle.vector_fields.proofs.numbers_at.Given as goal

abbrev pub invariant-loop-i : goal.invariant-loop-i
invariant-loop-i l = (l.len ≤ length l.fn.out) × (length l.out ≡ length l.fn.out)
