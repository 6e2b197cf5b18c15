-- A turn adds one line, of at most 512 entries, or ends at a refused one.
use mathlib.Core.Path.{sym, ◌∙◌}
use native.Mathlib.Omega.{arith}
use Rattle.records.proofs.TurnLaws.{left_all}
use Rattle.summary_tally.proofs.TallyLaws.{line_turn, line_stop, line_past, line_most}
use Rattle.summary_tally.proofs.add_lines.Goals as goal

pub loop-n-init : goal.loop-n-init
loop-n-init c = (omega arith, omega arith, omega arith, rw left_all)

pub counts_at-line-requires : goal.counts_at-line-requires
counts_at-line-requires c = omega arith

pub plus-t-requires : goal.plus-t-requires
plus-t-requires c =
    let m = line_most c.args.summary.now c.loop-n.n _ (sym c.in-Ok.is ∙ c.counts_at-line.ensures) in
    (omega arith, omega arith, omega arith)

pub returns-in-Err : goal.returns-in-Err
returns-in-Err c =
    let a = c.args in
    let l = c.loop-n in
    line_stop a.summary.now l.n a.spills l.t c.loop-n-test.true _ (sym c.in-Err.is ∙ c.counts_at-line.ensures) ∙ sym l.invariant.3

pub loop-n-preserved : goal.loop-n-preserved
loop-n-preserved c =
    let a = c.args in
    let l = c.loop-n in
    let e = sym c.in-Ok.is ∙ c.counts_at-line.ensures in
    let m = line_most a.summary.now l.n _ e in
    let p = c.plus-t.ensures in
    (rw p (omega arith), rw p (omega arith), rw p (omega arith), l.invariant.3 ∙ line_turn a.summary.now l.n a.spills l.t c.loop-n-test.true _ e _ p)

pub returns : goal.returns
returns c =
    let a = c.args in
    let l = c.loop-n in
    sym (l.invariant.3 ∙ line_past a.summary.now l.n a.spills l.t c.loop-n-test.false)
