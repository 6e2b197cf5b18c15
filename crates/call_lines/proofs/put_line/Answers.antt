-- The four parts stand one behind the other, and 20 + 21 + 22 + 1 bytes hold them.
use mathlib.Core.Path.{ap}
use native.Mathlib.Omega.{arith}
use lib.IntN.{ℤ}
use mir.Syntax.{w64}
use Rattle.signed.proofs.SignedLaws.{back}
use Rattle.stores.proofs.PutLaws.{put_as}
use Rattle.call_lines.specs.Lines.{popped_part}
use Rattle.line_parts.proofs.PartLaws.{decimal_most}
use Rattle.call_lines.proofs.LineLaws.{put_line_parts}
use Rattle.call_lines.proofs.put_line.Goals as goal

pub put_decimal-after_ordinal-requires : goal.put_decimal-after_ordinal-requires
put_decimal-after_ordinal-requires c = omega (arith, decimal_most c.args.ordinal)

pub put_spaced-after_code-requires : goal.put_spaced-after_code-requires
put_spaced-after_code-requires c =
    let d = c.put_decimal-after_ordinal in
    omega (arith, decimal_most c.args.ordinal, d.ensures.0, c.put_decimal-after_ordinal.auto.out)

pub put_popped-after_number-requires : goal.put_popped-after_number-requires
put_popped-after_number-requires c =
    let d = c.put_decimal-after_ordinal in
    let e = c.put_spaced-after_code in
    omega (arith, decimal_most c.args.ordinal, d.ensures.0, c.put_decimal-after_ordinal.auto.out, e.ensures.1, c.put_spaced-after_code.auto.out)

pub put_byte-requires : goal.put_byte-requires
put_byte-requires c =
    let d = c.put_decimal-after_ordinal in
    let e = c.put_spaced-after_code in
    let f = c.put_popped-after_number in
    omega (arith, decimal_most c.args.ordinal, d.ensures.0, c.put_decimal-after_ordinal.auto.out, e.ensures.1, c.put_spaced-after_code.auto.out, f.ensures.1, c.put_popped-after_number.auto.out)

pub returns : goal.returns
returns c =
    let a = c.args in
    let e = c.put_spaced-after_code in
    let q = ap (λ (z : ℤ). popped_part a.popped z) (back w64 a.number c.ranges.number) in
    put_line_parts a.out.now a.at _ _ _ _ _ _ _ _ a.ordinal a.code a.popped a.number c.put_decimal-after_ordinal.ensures e.ensures.0
    (put_as q c.put_spaced-after_code.new.out e.result _ _ c.put_popped-after_number.ensures.0) c.put_byte.ensures
