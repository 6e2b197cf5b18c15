use Rattle.std.proofs.Common.{◌≡◌, ◌+◌, drop, set, arith, ◌∙◌, refl}
use lib.ListN.{length-set}
use lib.Seq.{sets}
use Rattle.text.specs.Text.{hex}
use Rattle.text.proofs.TextLaws.{hex_turn}
use Rattle.text.proofs.put_hex.Goals as goal

pub loop-b-preserved : goal.loop-b-preserved
loop-b-preserved c =
    let l = c.loop-b in
    let e : sets l.out l.o (hex (drop l.b-index c.args.id.now)) ≡ sets (set (set l.out l.o c.hex_digit.result) (l.o + 1) c.hex_digit-in-loop-b.result) (l.o + 2) (hex (drop (l.b-index + 1) c.args.id.now))
    = rw (c.hex_digit.ensures, c.hex_digit-in-loop-b.ensures) (hex_turn l.out c.args.id.now l.o l.b-index _ c.loop-b-test.true refl) in
    (simp length-set l.invariant.0, omega arith, l.invariant.2 ∙ e)
