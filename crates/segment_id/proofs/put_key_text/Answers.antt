-- The three parts stand one behind the other, and 88 bytes hold them.
use mathlib.Core.Path.{ap, ◌∙◌}
use native.Mathlib.Omega.{arith}
use lib.IntN.{ℤ}
use lib.ListN.{length}
use mir.Syntax.{w32}
use Rattle.signed.proofs.SignedLaws.{back, back64}
use Rattle.stores.proofs.PutLaws.{put_as}
use Rattle.text.specs.Text.{number}
use Rattle.text.proofs.TextLaws.{hex_length}
use Rattle.segment_id.proofs.KeyLaws.{separator_most, number_most, put_text}
use Rattle.segment_id.proofs.put_key_text.Goals as goal

pub put_separator-after_separator-requires : goal.put_separator-after_separator-requires
put_separator-after_separator-requires c =
    let e = c.put_hex-after_id.auto.out in
    omega (arith, hex_length c.args.parent.now, separator_most c.args.kind)

pub put_number-requires : goal.put_number-requires
put_number-requires c =
    let e = c.put_hex-after_id.auto.out in
    let f = c.put_separator-after_separator.auto.out in
    let g = ap (λ (z : ℤ). length (number z)) (back64 c.i64_from_i32-wide.result c.i64_from_i32-wide.type_inv ∙ c.i64_from_i32-wide.ensures ∙ back w32 c.args.number c.ranges.number) in
    omega (arith, hex_length c.args.parent.now, separator_most c.args.kind, number_most c.args.number c.ranges.number)

pub returns : goal.returns
returns c =
    let m = c.put_separator-after_separator in
    put_text c.args.parent.now c.args.kind c.args.number c.args.out.now _ _ _ _ _ _
    c.put_hex-after_id.ensures m.ensures (put_as (ap number (back64 c.i64_from_i32-wide.result c.i64_from_i32-wide.type_inv ∙ c.i64_from_i32-wide.ensures ∙ back w32 c.args.number c.ranges.number)) c.put_separator-after_separator.new.out m.result _ _ c.put_number.ensures)
