-- A turn puts one record, unless its key is deleted.
use Prim.Native.Nat.{◌*◌}
use mathlib.Core.Path.{◌≡◌, refl, sym, ◌∙◌}
use native.Mathlib.Omega.{arith}
use lib.ListN.{length}
use Rattle.records.proofs.TurnLaws.{left_all}
use Rattle.buffer_core.specs.Edition.{record_size}
use Rattle.buffer_core.proofs.SizeLaws.{slot_next}
use Rattle.flush_table.proofs.TableLaws.{turn_in, fewer, put_step, put_past, put_turn, turn_apart, room_now}
use Rattle.flush_table.proofs.put_undeleted.Goals as goal

pub loop-i-init : goal.loop-i-init
loop-i-init c =
    let z : 0 * record_size c.args.edition ≡ 0 = omega arith in
    rw z (rw left_all (omega arith), rw left_all, c.requires.3)

pub overflow_mul-i : goal.overflow_mul-i
overflow_mul-i c =
    let a = c.args in
    rw c.record_size-size.ensures.0 (omega (arith, turn_in a.edition c.loop-i.i a.staged_count (c.loop-i.i * record_size a.edition) (length a.staged.now) c.loop-i-test.true c.requires.0 refl))

pub put_unless_deleted-n-requires : goal.put_unless_deleted-n-requires
put_unless_deleted-n-requires c =
    let a = c.args in
    let l = c.loop-i in
    let t = c.loop-i-test.true in
    rw c.record_size-size.ensures.0 ((turn_in a.edition l.i a.staged_count (l.i * record_size a.edition) (length a.staged.now) t c.requires.0 refl).1, c.requires.1, room_now a.edition _ a.staged_count l.i (l.i * record_size a.edition) l.n a.staged.now l.table a.counts t _ l.invariant.0 (rw l.auto.table c.requires.2), l.invariant.2)

pub loop-i-preserved : goal.loop-i-preserved
loop-i-preserved c =
    let a = c.args in
    let l = c.loop-i in
    let t = c.loop-i-test.true in
    let at = l.i * record_size a.edition in
    let e = rw c.record_size-size.ensures.0 at c.put_unless_deleted-n.ensures in
    let b = (turn_in a.edition l.i a.staged_count at (length a.staged.now) t c.requires.0 refl).1 in
    rw (slot_next a.edition l.i) (
      put_turn a.edition _ a.staged_count l.i at l.n a.staged.now l.table a.counts t _ l.invariant.0 b (rw l.auto.table c.requires.2) _ _ e,
      l.invariant.1 ∙ put_step a.edition _ a.staged_count l.i at _ _ t ∙ rw e,
      turn_apart a.edition _ a.staged_count l.i at l.n a.staged.now l.table a.counts t _ l.invariant.0 b (rw l.auto.table c.requires.2) l.invariant.2 _ _ e,
    )

pub returns : goal.returns
returns c =
    let l = c.loop-i in
    (sym (l.invariant.1 ∙ put_past c.args.edition _ _ _ _ _ c.loop-i-test.false), fewer c.args.edition _ _ _ _ l.invariant.0 (rw l.auto.table c.requires.2), l.invariant.2)
