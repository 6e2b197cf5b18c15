-- What is left to write from o on makes of the slice as it is now what all the tokens make of the slice at entry.
use Rattle.std.proofs.Common.{◌≡◌, ◌+◌, length, take}
use lib.Seq.{sets}
use Rattle.address_core.specs.Bytes.{tokens_bytes}
use Rattle.address_core.proofs.BytesLaws.{rest}
use Rattle.address_writing.proofs.emit_tokens.Given as goal

abbrev pub invariant-loop-i : goal.invariant-loop-i
invariant-loop-i l =
    let all = tokens_bytes l.ids (take l.n l.amounts) in
    let left = rest l.ids l.amounts l.n l.i in
    (l.at + length all ≡ l.o + length left) × (sets l.fn.out l.at all ≡ sets l.out l.o left)
