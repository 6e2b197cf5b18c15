-- A turn counts one key.
use Prim.Native.Nat.{◌+◌, ◌*◌, ◌-◌}
use mathlib.Core.Path.{◌≡◌, refl, sym, ◌∙◌}
use native.Mathlib.Omega.{arith}
use lib.ListN.{length, length-take, length-drop}
use Rattle.records.specs.Records.{keys}
use Rattle.records.proofs.TurnLaws.{left_all}
use Rattle.buffer_core.specs.Edition.{record_size}
use Rattle.buffer_core.proofs.SizeLaws.{slot_next}
use Rattle.flush_table.proofs.TableLaws.{turn_in, new_step}
use Rattle.flush_core.proofs.FlushLaws.{new_past, new_most}
use Rattle.flush_core.proofs.count_new.Goals as goal

pub loop-i-init : goal.loop-i-init
loop-i-init c =
    let z : 0 * record_size c.args.edition ≡ 0 = omega arith in
    rw z (omega arith, rw left_all (omega arith))

pub overflow_mul-at : goal.overflow_mul-at
overflow_mul-at c =
    let a = c.args in
    rw c.record_size-size.ensures.0 (omega (arith, turn_in a.edition c.loop-i.i a.staged_count (c.loop-i.i * record_size a.edition) (length a.staged.now) c.loop-i-test.true c.requires.1 refl))

pub overflow_add-end : goal.overflow_add-end
overflow_add-end c =
    let a = c.args in
    rw c.record_size-size.ensures.0 (omega (arith, turn_in a.edition c.loop-i.i a.staged_count (c.loop-i.i * record_size a.edition) (length a.staged.now) c.loop-i-test.true c.requires.1 refl))

pub slice_bounds-count_key-end : goal.slice_bounds-count_key-end
slice_bounds-count_key-end c =
    let a = c.args in
    rw c.record_size-size.ensures.0 (omega (arith, turn_in a.edition c.loop-i.i a.staged_count (c.loop-i.i * record_size a.edition) (length a.staged.now) c.loop-i-test.true c.requires.1 refl))

pub count_key-n-requires : goal.count_key-n-requires
count_key-n-requires c =
    let a = c.args in
    let b = turn_in a.edition c.loop-i.i a.staged_count (c.loop-i.i * record_size a.edition) (length a.staged.now) c.loop-i-test.true c.requires.1 refl in
    let p = c.requires in
    rw c.record_size-size.ensures.0 (p.0, p.2, rw (length-take, length-drop) (omega (arith, b)), p.3)

pub overflow_add-n : goal.overflow_add-n
overflow_add-n c = omega (arith, new_most _ _ _ _ c.count_key-n.ensures)

pub loop-i-preserved : goal.loop-i-preserved
loop-i-preserved c =
    let a = c.args in
    let l = c.loop-i in
    let t = c.loop-i-test.true in
    let at = l.i * record_size a.edition in
    let e : at + 32 - at ≡ 32 = omega arith in
    let k = keys (record_size a.edition) a.table_count a.table.now in
    let s = new_step a.edition k (keys 32 a.deleted_count a.deleted.now) a.staged_count l.i at a.staged.now t in
    let r = rw (c.record_size-size.ensures.0, e) at c.count_key-n.ensures in
    rw (slot_next a.edition l.i) (omega (arith, new_most _ _ _ _ r), omega (arith, l.invariant.1, r, s))

pub returns : goal.returns
returns c = sym (c.loop-i.invariant.1 ∙ rw (new_past c.args.edition _ _ _ _ _ c.loop-i-test.false) (omega arith))
