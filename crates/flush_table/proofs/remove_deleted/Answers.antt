-- A turn removes one key.
use Prim.Native.Nat.{◌+◌, ◌*◌, ◌/◌, ◌≤◌, ◌<◌}
use mathlib.Core.Path.{◌≡◌, sym, ◌∙◌}
use native.Mathlib.Omega.{arith}
use lib.ListN.{length, length-take, length-drop}
use lib.Seq.{length-take-le}
use Rattle.records.proofs.TurnLaws.{left_all}
use Rattle.flush_table.proofs.TableLaws.{key_at, remove_step, remove_past, remove_within, remove_apart}
use Rattle.flush_table.proofs.remove_deleted.Goals as goal
use Rattle.flush_table.proofs.remove_deleted.Goals.{In-loop-key}

pub loop-key-init : goal.loop-key-init
loop-key-init c = (c.requires.0, rw left_all, c.requires.2)

pub remove_key-n-requires : goal.remove_key-n-requires
remove_key-n-requires c =
    let a = c.args in
    let i = c.loop-key.key-index in
    let h : a.deleted_count ≤ length c.as_chunks.result.0.now = omega (arith, c.as_chunks.ensures.front_len) in
    let k : i < a.deleted_count = omega (arith, length-take-le a.deleted_count c.as_chunks.result.0.now h) in
    let e = key_at _ (length a.deleted.now / 32) a.deleted_count i a.deleted.now c.as_chunks.ensures.front (omega (arith, c.as_chunks.ensures.front_len)) k in
    (c.loop-key.invariant.0, rw (e, length-take, length-drop) (omega arith), c.loop-key.invariant.2)

pub loop-key-preserved : goal.loop-key-preserved
loop-key-preserved c =
    let a = c.args in
    let l = c.loop-key in
    let i = l.key-index in
    let h : a.deleted_count ≤ length c.as_chunks.result.0.now = omega (arith, c.as_chunks.ensures.front_len) in
    let t : i < a.deleted_count = omega (arith, length-take-le a.deleted_count c.as_chunks.result.0.now h) in
    let d = key_at _ (length a.deleted.now / 32) a.deleted_count i a.deleted.now c.as_chunks.ensures.front (omega (arith, c.as_chunks.ensures.front_len)) t in
    let f : (i + 1) * 32 ≡ i * 32 + 32 = omega arith in
    let e = rw d at c.remove_key-n.ensures in
    let k = c.remove_key-n.auto.list in
    rw f (rw k (remove_within a.edition _ l.n _ l.table _ a.counts _ e l.invariant.0), l.invariant.1 ∙ remove_step a.edition a.deleted_count i (i * 32) _ _ t ∙ rw e, remove_apart a.edition _ l.n _ l.table _ a.counts e l.invariant.0 l.invariant.2)

pub returns : goal.returns
returns c =
    let a = c.args in
    let h : a.deleted_count ≤ length c.as_chunks.result.0.now = omega (arith, c.as_chunks.ensures.front_len) in
    sym (c.loop-key.invariant.1 ∙ remove_past a.edition _ _ _ _ (omega (arith, length-take-le a.deleted_count c.as_chunks.result.0.now h)))
