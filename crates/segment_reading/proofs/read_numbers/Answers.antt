-- By the laws of filling: a number that was read, and the rest behind it.
use Rattle.std.proofs.Common.{◌<◌, ◌≡◌, ◌++◌, length, drop, sym, ap, ◌∙◌, arith, rules}
use Rattle.std.proofs.lemmas.List.{set-append_left}
use mir.Syntax.{w64}
use mir.Val.{to_z, of_z}
use mir.Facts.{to_z-of_z}
use Rattle.vlq_core.specs.Reading.{long_of}
use Rattle.vlq_core.proofs.ReadLaws.{read_next}
use Rattle.vlq_core.proofs.ShortLaws.{short_read}
use Rattle.segment_core.proofs.ListLaws.{fills_number, fills_bad, fills_end, fills_whole}
use Rattle.segment_reading.proofs.read_numbers.Goals as goal
use Rattle.segment_reading.proofs.read_numbers.Goals.{then-size-gt0, else-size-gt0+in-Ok}

pub overflow_add-next : goal.overflow_add-next
overflow_add-next c =
    let r = c.get_short-short in
    let h = (read_next 64 c.args.row.now c.loop-slot.next _ _ (short_read c.args.row.now c.loop-slot.next r.result r.ensures c.if-size-gt0.true)).1 in
    search rules

pub returns-in-Err : goal.returns-in-Err
returns-in-Err c =
    let a = c.args in
    let l = c.loop-slot in
    let e = sym c.get_i64.ensures ∙ c.in-Err.is in
    fills_whole a.k _ _ _ _ _ (l.invariant.1 _ _ (fills_bad a.k a.row.now l.slot-index l.next (omega arith) _ e (l.slot-items ++ drop a.k a.buf.now) _))

pub loop-slot-preserved : goal.loop-slot-preserved
loop-slot-preserved c =
    let a = c.args in
    let l = c.loop-slot in
    let row = a.row.now in
    let i = l.slot-index in
    let t : i < a.k = omega arith in
    let n : i < length l.slot-items = omega arith in
    let buf = l.slot-items ++ drop a.k a.buf.now in
    let g = c.get_short-short in (
      omega arith,
      λ r b p.
          elim c.if-size-gt0.branch [
            | then-size-gt0 w ↦
                let e = ap long_of (sym (short_read row l.next g.result g.ensures w.if-size-gt0.true)) in
                l.invariant.1 r b (fills_number a.k row i l.next t _ _ _ e (to_z-of_z {w = w64} (search rules) ∙ w.unzigzag.ensures) buf r b
                (rw set-append_left (rw (w.slot-items-is, w.next-is) at p)))
            | else-size-gt0+in-Ok w ↦
                let k = w.in-Ok in
                let e = sym w.get_i64.ensures ∙ k.is in
                let q : to_z w64 (of_z w64 k.z) ≡ k.z = search rules in
                l.invariant.1 r b (fills_number a.k row i l.next t k.z _ k.n e q buf r b
                (rw set-append_left (rw (w.slot-items-is, w.next-is) at p)))
          ],
    )

pub returns : goal.returns
returns c =
    let a = c.args in
    let l = c.loop-slot in
    fills_whole a.k _ _ _ _ _ (l.invariant.1 _ _ (fills_end a.k a.row.now l.slot-index l.next (omega arith) (l.slot-items ++ drop a.k a.buf.now)))
