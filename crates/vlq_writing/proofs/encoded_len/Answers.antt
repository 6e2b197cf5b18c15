-- `vlq_writing::encoded_len` meets its contract: the place of the highest set bit is 63 less the leading zeros, and each 7 places are a group.
use mathlib.Core.Path.{sym}
use native.Mathlib.Omega.{arith}
use native.Mathlib.Nat.{pos_of_ne-zero}
use Rattle.vlq_core.proofs.GroupLaws.{count_zero, count_leading}
use Rattle.vlq_writing.proofs.encoded_len.Goals as goal

pub returns-then-coded-eq0 : goal.returns-then-coded-eq0
returns-then-coded-eq0 c = rw c.if-coded-eq0.true count_zero

pub returns : goal.returns
returns c = let g = count_leading c.args.coded (pos_of_ne-zero c.if-coded-eq0.false) c.ranges.coded.fits in (sym g.1, omega arith)
