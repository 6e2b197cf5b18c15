-- By the laws of the loop: what is left, on top of what was passed.
use Rattle.std.proofs.Common.{◌≡◌, ◌+◌, ◌-◌, sym, ◌∙◌, arith}
use Rattle.vlq_core.proofs.LoopLaws.{scaled_start, scaled_step, fits_product, fits_sum, fits_scale, fits_last, onto_start, loop_cut, loop_last, loop_more, loop_tenth, loop_over}
use Rattle.vlq_reading.proofs.get_groups.Goals as goal

pub loop-init : goal.loop-init
loop-init c = (scaled_start, onto_start _)

pub returns-then-src-i : goal.returns-then-src-i
returns-then-src-i c = sym (c.loop.invariant.1 ∙ loop_cut _ _ _ _ _ c.if-src-i.true)

pub overflow_mul-result : goal.overflow_mul-result
overflow_mul-result c = fits_product _ _ _ c.loop.invariant.0 _ (omega arith) c.if-b-lt128.true

pub overflow_add-result : goal.overflow_add-result
overflow_add-result c = fits_sum _ _ _ c.loop.invariant.0 _ (omega arith) c.if-b-lt128.true

pub returns-then-b-lt128 : goal.returns-then-b-lt128
returns-then-b-lt128 c = sym (c.loop.invariant.1 ∙ loop_last _ _ _ _ _ c.if-src-i.false c.wide-b.ensures _ (omega arith) c.if-b-lt128.true)

pub overflow_mul-sum : goal.overflow_mul-sum
overflow_mul-sum c = fits_product _ _ _ c.loop.invariant.0 _ (omega arith) (omega arith)

pub overflow_add-sum : goal.overflow_add-sum
overflow_add-sum c = fits_sum _ _ _ c.loop.invariant.0 _ (omega arith) (omega arith)

pub overflow_mul-scale : goal.overflow_mul-scale
overflow_mul-scale c = fits_scale _ _ _ c.loop.invariant.0 (omega arith)

pub loop-preserved : goal.loop-preserved
loop-preserved c =
    let l = c.loop in
    let e : 9 - (l.counter + 1) ≡ 9 - l.counter - 1 = omega arith in
    rw e (scaled_step _ _ _ l.invariant.0 _ (omega arith), l.invariant.1 ∙ loop_more _ _ _ _ _ c.if-src-i.false c.wide-b.ensures _ (omega arith) c.if-b-lt128.false)

pub returns-then-src-i-2 : goal.returns-then-src-i-2
returns-then-src-i-2 c = sym (c.loop.invariant.1 ∙ loop_cut _ _ _ _ _ c.if-src-i-2.true)

pub overflow_mul-result-then-b-lt2 : goal.overflow_mul-result-then-b-lt2
overflow_mul-result-then-b-lt2 c = (fits_last _ _ _ c.loop.invariant.0 _ (omega arith) c.if-b-lt2.true).0

pub overflow_add-result-then-b-lt2 : goal.overflow_add-result-then-b-lt2
overflow_add-result-then-b-lt2 c = (fits_last _ _ _ c.loop.invariant.0 _ (omega arith) c.if-b-lt2.true).1

pub returns-then-b-lt2 : goal.returns-then-b-lt2
returns-then-b-lt2 c = sym (c.loop.invariant.1 ∙ loop_tenth _ _ _ _ _ c.if-src-i-2.false c.wide-b-2.ensures _ (omega arith) c.if-b-lt2.true)

pub returns : goal.returns
returns c = sym (c.loop.invariant.1 ∙ loop_over _ _ _ _ _ c.if-src-i-2.false c.wide-b-2.ensures _ (omega arith) c.if-b-lt2.false)
