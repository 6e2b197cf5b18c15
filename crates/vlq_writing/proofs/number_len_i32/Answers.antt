-- `vlq_writing::number_len_i32` meets its contract: the bytes are those of the coded number.
use mathlib.Core.Path.{ap, ◌∙◌}
use mir.Syntax.{w32}
use lib.ListN.{length}
use Rattle.vlq_core.proofs.GroupLaws.{bytes_of, number_length}
use native.Mathlib.Omega.{arith}
use Rattle.vlq_writing.proofs.number_len_i32.Goals as goal

pub returns : goal.returns
returns c =
    let e = c.encoded_len.ensures in
    let q = ap length (bytes_of w32 c.args.n _ c.ranges.n c.zigzag_i32.ensures) in
    (e.0 ∙ q, omega (arith, (number_length w32 4 (omega arith) c.args.n c.ranges.n).1))
