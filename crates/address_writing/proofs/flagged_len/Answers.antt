-- `address_writing::flagged_len` meets its contract: the flag, and if it is set the nanoErgs, the amounts as a list, and 32 bytes for each id.
use mathlib.Core.Path.{sym, ap}
use lib.IntN.{ℤ}
use lib.ListN.{length, take}
use mir.Syntax.{w64}
use mir.Facts.{to_z-of_z}
use Rattle.vlq_core.specs.Zigzag.{zig}
use Rattle.vlq_core.specs.Groups.{enc}
use Rattle.address_core.proofs.BytesLaws.{clear_length, set_size}
use native.Mathlib.Omega.{arith}
use Rattle.address_writing.proofs.flagged_len.Goals as goal

pub returns-then-not-has : goal.returns-then-not-has
returns-then-not-has c = let a = c.args in
    (λ ids h. sym (clear_length a.has a.nanos ids (take a.n a.amounts.now) (c.if-not-has.true)), omega arith)

pub returns : goal.returns
returns c = let a = c.args in
    let q = ap (λ (z : ℤ). length (enc (zig z))) (to_z-of_z {w = w64} c.ranges.nanos) in
    (λ ids h. omega (arith, set_size a.has (c.if-not-has.false) a.nanos ids a.amounts.now a.n c.requires.1 h, q, c.number_len.ensures.0, c.list_len.ensures.0), omega arith)
