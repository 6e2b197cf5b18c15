-- `vlq_short::get_short` meets its contract: a group below 128 is the last one, and a last group of 0 is left to the reader of any number.
use native.Mathlib.Omega.{arith}
use Rattle.vlq_core.proofs.ShortLaws.{short_1, short_2, short_3, short_4}
use Rattle.vlq_short.proofs.get_short.Goals as goal

pub returns-then-a-lt128 : goal.returns-then-a-lt128
returns-then-a-lt128 c =
    short_1 c.args.src.now c.args.at (omega arith) _ c.wide-a.ensures c.if-a-lt128.true

pub returns-then-b-lt128 : goal.returns-then-b-lt128
returns-then-b-lt128 c =
    short_2 c.args.src.now c.args.at (omega arith) _ c.wide-a.ensures c.if-a-lt128.false _ c.wide-b.ensures c.if-b-eq0.false c.if-b-lt128.true

pub returns-then-c-lt128 : goal.returns-then-c-lt128
returns-then-c-lt128 c =
    short_3 c.args.src.now c.args.at (omega arith) _ c.wide-a.ensures c.if-a-lt128.false _ c.wide-b.ensures c.if-b-lt128.false _ c.wide-c.ensures c.if-c-eq0.false c.if-c-lt128.true

pub returns-then-d-lt128 : goal.returns-then-d-lt128
returns-then-d-lt128 c =
    short_4 c.args.src.now c.args.at (omega arith) _ c.wide-a.ensures c.if-a-lt128.false _ c.wide-b.ensures c.if-b-lt128.false _ c.wide-c.ensures c.if-c-lt128.false _ c.wide-d.ensures c.if-d-eq0.false c.if-d-lt128.true
