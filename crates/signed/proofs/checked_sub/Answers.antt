-- The test of each arm passes exactly where the result leaves 64 signed bits, and the limit it tests never does.
use mathlib.Core.Bool.{true, false}
use lib.IntN.{ℤ}
use lib.Signed.{lt_z}
use mir.Syntax.{w64}
use Rattle.signed.proofs.SignedLaws.{back}
use Rattle.signed.proofs.SumLaws.{sub_below, sub_above, M64, kept, kept_fits, kept_sign, arm, answer_out, answer_is}
use Rattle.signed.proofs.checked_sub.Goals as goal

pub returns-then-b-a : goal.returns-then-b-a
returns-then-b-a c = answer_out ((arm _ (λ (l : ℤ). lt_z l (kept c.args.a)) _ (sub_below M64 (kept c.args.a) (kept c.args.b) (kept_fits c.args.a c.ranges.a) (kept_fits c.args.b c.ranges.b) (kept_sign c.args.b true c.if-b-lt0.true)))) (rw (back w64 c.args.a c.ranges.a, back w64 c.args.b c.ranges.b)) c.if-b-a.true

pub returns-else-b-a : goal.returns-else-b-a
returns-else-b-a c = answer_is ((arm _ (λ (l : ℤ). lt_z l (kept c.args.a)) _ (sub_below M64 (kept c.args.a) (kept c.args.b) (kept_fits c.args.a c.ranges.a) (kept_fits c.args.b c.ranges.b) (kept_sign c.args.b true c.if-b-lt0.true)))) (rw (back w64 c.args.a c.ranges.a, back w64 c.args.b c.ranges.b)) c.if-b-a.false

pub returns-then-a-b : goal.returns-then-a-b
returns-then-a-b c = answer_out ((arm _ (λ (l : ℤ). lt_z (kept c.args.a) l) _ (sub_above M64 (kept c.args.a) (kept c.args.b) (kept_fits c.args.a c.ranges.a) (kept_fits c.args.b c.ranges.b) (kept_sign c.args.b false c.if-b-lt0.false)))) (rw (back w64 c.args.a c.ranges.a, back w64 c.args.b c.ranges.b)) c.if-a-b.true

pub returns-else-a-b : goal.returns-else-a-b
returns-else-a-b c = answer_is ((arm _ (λ (l : ℤ). lt_z (kept c.args.a) l) _ (sub_above M64 (kept c.args.a) (kept c.args.b) (kept_fits c.args.a c.ranges.a) (kept_fits c.args.b c.ranges.b) (kept_sign c.args.b false c.if-b-lt0.false)))) (rw (back w64 c.args.a c.ranges.a, back w64 c.args.b c.ranges.b)) c.if-a-b.false
