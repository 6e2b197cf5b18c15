-- A turn counts one row, of at most 512 entries, or ends at a refused one.
use mathlib.Core.Path.{sym, ◌∙◌}
use native.Mathlib.Omega.{arith}
use Rattle.records.proofs.TurnLaws.{left_all}
use Rattle.segment_id.specs.declared.Kind.TheVariants.{Box}
use Rattle.buffer_core.specs.Edition.{edition_of}
use Rattle.buffer_core.specs.Spills.{sources, spill_read}
use Rattle.row_tallies.proofs.TallyLaws.{turn, stop, past, counted_all}
use Rattle.row_tallies.proofs.count_rows.Goals as goal

pub loop-n-init : goal.loop-n-init
loop-n-init c = (omega arith, omega arith, omega arith, rw left_all)

pub plus-t-requires : goal.plus-t-requires
plus-t-requires c =
    let a = c.args in
    let w = sources a.parent.now a.staged.now a.staged_count a.table.now a.table_count in
    let m = counted_all (spill_read (edition_of a.edition) Box w c.loop-n.n) _ (sym c.in-Ok.is ∙ c.count_row-row.ensures) in
    (omega arith, omega arith, omega arith)

pub returns-in-Err : goal.returns-in-Err
returns-in-Err c =
    let a = c.args in
    let l = c.loop-n in
    let w = sources a.parent.now a.staged.now a.staged_count a.table.now a.table_count in
    stop (edition_of a.edition) w l.n a.spills l.t c.loop-n-test.true _ (sym c.in-Err.is ∙ c.count_row-row.ensures) ∙ sym l.invariant.3

pub loop-n-preserved : goal.loop-n-preserved
loop-n-preserved c =
    let a = c.args in
    let l = c.loop-n in
    let w = sources a.parent.now a.staged.now a.staged_count a.table.now a.table_count in
    let e = sym c.in-Ok.is ∙ c.count_row-row.ensures in
    let m = counted_all (spill_read (edition_of a.edition) Box w l.n) _ e in
    let p = c.plus-t.ensures in
    (rw p (omega arith), rw p (omega arith), rw p (omega arith), l.invariant.3 ∙ turn (edition_of a.edition) w l.n a.spills l.t c.loop-n-test.true _ e _ p)

pub returns : goal.returns
returns c =
    let a = c.args in
    let l = c.loop-n in
    sym (l.invariant.3 ∙ past (edition_of a.edition) (sources a.parent.now a.staged.now a.staged_count a.table.now a.table_count) l.n a.spills l.t c.loop-n-test.false)
